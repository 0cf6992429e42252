-- What the moves of all rules have in common: a move stays, and says at most one thing of its own, or it departs and closes what is open.
-- Assumes nothing.
use Rattle.std.specs.Prelude.{Option, None, Some}
use mathlib.Core.Path.{◌≡◌, refl}
use mathlib.Core.Bool.{Bool, true, false, ◌&&◌, ◌||◌}
use mathlib.Core.List.{List, [], ◌∷◌}
use Prim.Native.Nat.{ℕ, zero, suc, ◌+◌, ◌-◌, ◌≤◌}
use native.Mathlib.Omega.{arith}
use lib.Dec.{ltb, eqb}
use lib.ListN.{length}
use Rattle.std.proofs.lemmas.Bool.{both_ways}
use Rattle.message.specs.declared.Kind.{Kind}
use Rattle.message.specs.declared.Kind.TheVariants as kinds
use Rattle.message.specs.declared.Message.{Message}
use Rattle.message.specs.declared.Status.{Status}
use Rattle.message.specs.declared.Status.TheVariants as statuses
use Rattle.message.specs.declared.Advice.{Advice}
use Rattle.message.specs.declared.Advice.TheVariants as advices
use Rattle.message.proofs.Laws.{on_either}
use Rattle.conduct.specs.Lists.{among}
use Rattle.conduct.specs.Codes as codes
use Rattle.conduct.specs.Session.{Session, is_connecting, is_up, session_ok_numbers, push_numbers, awaited_numbers, refusal_of}
use Rattle.message.specs.Messages.{kind_number}
use Rattle.conduct.specs.Table.{action_at, action_of}
use Rattle.conduct.specs.Rules.{leaves, note, tick, connected, stop, status_by, counted_in, advice_by, named_by, next_number, acted, move_of}
use Rattle.conduct.specs.Rules.{answered, matches_nothing, ok_naming, acknowledged, advises, advisory_naming, advised_about}
use Rattle.conduct.specs.Step.{parting_notes, events_by, moved_by, Answered, answer, step}
use Rattle.conduct.specs.declared.State.{State}
use Rattle.conduct.specs.declared.State.TheVariants.{Waiting, Connecting, Opening, Confirming, Up, Stopped}
use Rattle.conduct.specs.declared.Call.{Call}
use Rattle.conduct.specs.declared.Call.TheVariants as calls
use Rattle.conduct.specs.declared.Action.{Action}
use Rattle.conduct.specs.declared.Action.TheVariants as actions
use Rattle.conduct.specs.declared.Sweep.{Sweep}
use Rattle.conduct.specs.declared.Sweep.TheVariants as sweeps
use Rattle.conduct.specs.declared.Parting.{Parting}
use Rattle.conduct.specs.declared.Parting.TheVariants as partings
use Rattle.conduct.specs.declared.Remark.{Remark}
use Rattle.conduct.specs.declared.Remark.TheVariants as remarks
use Rattle.conduct.specs.declared.Move.{Move}
use Rattle.conduct.proofs.Refused.{accepted_fits}

abbrev pub is_lost : Sweep → Bool
is_lost sweeps.Still = false
is_lost sweeps.Older = false
is_lost sweeps.Lost = true
is_lost (sweeps.Acknowledged n) = false
is_lost (sweeps.UnreadableMessage n) = false
is_lost (sweeps.Advised n) = false

-- the codes of remarks that have no detail, and the remarks that are made
abbrev pub plain_codes : List ℕ
plain_codes = 1 ∷ 2 ∷ 3 ∷ 8 ∷ 13 ∷ 14 ∷ 15 ∷ 17 ∷ []

abbrev pub usual : Remark → Bool
usual remarks.Nothing = true
usual (remarks.Note code detail) = eqb code 16 || (eqb detail 0 && among code plain_codes)
usual (remarks.Send what handle) = true

abbrev pub is_session_ok : Remark → Bool
is_session_ok remarks.Nothing = false
is_session_ok (remarks.Note code detail) = eqb code 3
is_session_ok (remarks.Send what handle) = false

-- Up is left only by departing; a SessionOk is sent only where none is open; out of Up at most two events are said before
pub data Usual (from : State) : Move → Type 0 where
  stays : (to : State) (sweep : Sweep) (remark : Remark) → (is_up from ≡ true → is_up to ≡ true) → is_lost sweep ≡ false → usual remark ≡ true
      → (is_session_ok remark ≡ true → session_ok_numbers from ≡ [])
      → Usual from (record { to = to; parting = partings.Nothing; sweep = sweep; remark = remark })
  departs : (to : State) (parting : Parting) → is_up to ≡ false → (is_up from ≡ true → length (parting_notes parting) ≤ 2)
      → Usual from (leaves to parting)

module _ (from : State) where
  -- staying with a remark that is no SessionOk
  quietly : (to : State) (sweep : Sweep) (remark : Remark) → (is_up from ≡ true → is_up to ≡ true) → is_lost sweep ≡ false
      → usual remark ≡ true → is_session_ok remark ≡ false
      → Usual from (record { to = to; parting = partings.Nothing; sweep = sweep; remark = remark })
  quietly to sweep remark up lost said other = stays to sweep remark up lost said (λ e. cc)

  in_place : (sweep : Sweep) (remark : Remark) → is_lost sweep ≡ false → usual remark ≡ true → is_session_ok remark ≡ false
      → Usual from (record { to = from; parting = partings.Nothing; sweep = sweep; remark = remark })
  in_place sweep remark = quietly from sweep remark (λ h. h)

tick_usual : (interval next : ℕ) (state : State) → Usual state (tick interval next state)
tick_usual interval next (Waiting left) =
    on_either (Usual (Waiting left)) (ltb 1 left) (quietly _ (Waiting (left - 1)) sweeps.Still remarks.Nothing (λ h. h) refl refl refl)
    (quietly _ Connecting sweeps.Still (note codes.connect) (λ h. h) refl refl refl)
tick_usual interval next Connecting = in_place Connecting sweeps.Still remarks.Nothing refl refl refl
tick_usual interval next (Opening age) =
    on_either (Usual (Opening age)) (ltb age 19) (quietly _ (Opening (age + 1)) sweeps.Still remarks.Nothing (λ h. h) refl refl refl)
    (departs (Waiting 300) partings.Alert refl (λ h. cc))
tick_usual interval next (Confirming number age) =
    on_either (Usual (Confirming number age)) (ltb age 19)
    (quietly _ (Confirming number (age + 1)) sweeps.Still remarks.Nothing (λ h. h) refl refl refl)
    (departs (Waiting 300) partings.GoingOut refl (λ h. omega arith))
tick_usual interval next (Up (Some number) age) =
    on_either (Usual (Up (Some number) age)) (ltb age 19)
    (quietly _ (Up (Some number) (age + 1)) sweeps.Older remarks.Nothing (λ h. h) refl refl refl)
    (departs (Waiting 300) partings.GoingOut refl (λ h. omega arith))
tick_usual interval next (Up None age) =
    on_either (Usual (Up None age)) (ltb (age + 1) interval)
    (quietly _ (Up None (age + 1)) sweeps.Older remarks.Nothing (λ h. h) refl refl refl)
    (stays (Up (Some next) 0) sweeps.Older (note codes.send_session_ok) (λ h. h) refl refl (λ h. refl))
tick_usual interval next Stopped = in_place Stopped sweeps.Still remarks.Nothing refl refl refl

stop_usual : (state : State) → Usual state (stop state)
stop_usual (Waiting left) = departs Stopped partings.Nothing refl (λ h. omega arith)
stop_usual Connecting = departs Stopped partings.Nothing refl (λ h. omega arith)
stop_usual (Opening age) = departs Stopped partings.GoingOut refl (λ h. omega arith)
stop_usual (Confirming number age) = departs Stopped partings.GoingOut refl (λ h. omega arith)
stop_usual (Up waiting age) = departs Stopped partings.GoingOut refl (λ h. omega arith)
stop_usual Stopped = departs Stopped partings.Nothing refl (λ h. omega arith)

-- ---- messages

unmatched_usual : (state : State) → Usual state (matches_nothing state)
unmatched_usual state = in_place state sweeps.Still (note codes.unmatched) refl refl refl

ok_usual : (s : Session) (n : ℕ) (state : State) → Usual state (ok_naming s n state)
ok_usual s n (Waiting left) = unmatched_usual (Waiting left)
ok_usual s n Connecting = unmatched_usual Connecting
ok_usual s n (Opening age) = unmatched_usual (Opening age)
ok_usual s n (Confirming number age) =
    on_either (Usual (Confirming number age)) (eqb n number)
    (quietly _ (Up None age) sweeps.Still (note codes.up) (λ h. refl) refl refl refl)
    (unmatched_usual (Confirming number age))
ok_usual s n (Up waiting age) =
    on_either (Usual (Up waiting age)) (among n (awaited_numbers waiting))
    (quietly _ (Up None age) sweeps.Still remarks.Nothing (λ h. h) refl refl refl)
    (on_either (Usual (Up waiting age)) (among n (push_numbers s.pushes))
    (in_place (Up waiting age) (sweeps.Acknowledged n) remarks.Nothing refl refl refl)
    (unmatched_usual (Up waiting age)))
ok_usual s n Stopped = unmatched_usual Stopped

acknowledged_usual : (s : Session) (named : Option ℕ) → Usual s.state (acknowledged s named)
acknowledged_usual s None = unmatched_usual s.state
acknowledged_usual s (Some n) = ok_usual s n s.state

advises_not_lost : (advice : Advice) (n : ℕ) → is_lost (advises advice n) ≡ false
advises_not_lost advices.UnreadableMessage n = refl
advises_not_lost advices.Other n = refl

advisory_usual : (s : Session) (advice : Advice) (n : ℕ) (state : State) → Usual state (advisory_naming s advice n state)
advisory_usual s advice n (Waiting left) = unmatched_usual (Waiting left)
advisory_usual s advice n Connecting = unmatched_usual Connecting
advisory_usual s advice n (Opening age) = unmatched_usual (Opening age)
advisory_usual s advice n (Confirming number age) =
    on_either (Usual (Confirming number age)) (eqb n number) (departs (Waiting 300) partings.Disconnect refl (λ h. omega arith))
    (unmatched_usual (Confirming number age))
advisory_usual s advice n (Up waiting age) =
    on_either (Usual (Up waiting age)) (among n (awaited_numbers waiting))
    (quietly _ (Up None age) sweeps.Still (note codes.advisory_arrived) (λ h. h) refl refl refl)
    (on_either (Usual (Up waiting age)) (among n (push_numbers s.pushes))
    (in_place (Up waiting age) (advises advice n) remarks.Nothing (advises_not_lost advice n) refl refl)
    (unmatched_usual (Up waiting age)))
advisory_usual s advice n Stopped = unmatched_usual Stopped

about_usual : (s : Session) (advice : Advice) (named : Option ℕ) → Usual s.state (advised_about s advice named)
about_usual s advice None = unmatched_usual s.state
about_usual s advice (Some n) = advisory_usual s advice n s.state

-- the answer is taken only in Opening
abbrev pub is_answer : Action → Bool
is_answer actions.OutOfPlace = false
is_answer actions.Answer = true
is_answer actions.Acknowledge = false
is_answer actions.Advise = false
is_answer actions.Request = false

no_answer : (kind : Kind) → (is_answer (action_at 1 (kind_number kind - 1)) ≡ false) × (is_answer (action_at 2 (kind_number kind - 1)) ≡ false)
no_answer kinds.SessionOpenRequest = (refl, refl)
no_answer kinds.SessionOpenResponse = (refl, refl)
no_answer kinds.SessionOk = (refl, refl)
no_answer kinds.Ok = (refl, refl)
no_answer kinds.Advisory = (refl, refl)
no_answer kinds.Request = (refl, refl)
no_answer kinds.Response = (refl, refl)

pub answer_where : (state : State) (kind : Kind) → is_answer (action_of state kind) ≡ true
    → (is_up state ≡ false) × (session_ok_numbers state ≡ [])
answer_where (Waiting left) kind h = (refl, refl)
answer_where Connecting kind h = (refl, refl)
answer_where (Opening age) kind h = (refl, refl)
answer_where (Confirming number age) kind h = absurd (both_ways _ (no_answer kind).0 h)
answer_where (Up waiting age) kind h = absurd (both_ways _ (no_answer kind).1 h)
answer_where Stopped kind h = (refl, refl)

answered_usual : (state : State) (next : ℕ) (status : Status) → (is_up state ≡ false) × (session_ok_numbers state ≡ [])
    → Usual state (answered next status)
answered_usual state next statuses.Ok h =
    stays (Confirming next 0) sweeps.Still (note codes.send_session_ok) (λ u. absurd (both_ways _ h.0 u)) refl refl (λ e. h.1)
answered_usual state next statuses.RedundantSession h =
    stays (Confirming next 0) sweeps.Still (note codes.send_session_ok) (λ u. absurd (both_ways _ h.0 u)) refl refl (λ e. h.1)
answered_usual state next statuses.Other h = departs (Waiting 300) partings.Disconnect refl (λ u. omega arith)

acted_usual : (s : Session) (m : Message) (action : Action)
    → (is_answer action ≡ true → (is_up s.state ≡ false) × (session_ok_numbers s.state ≡ [])) → Usual s.state (acted s m action)
acted_usual s m actions.OutOfPlace h = in_place s.state sweeps.Still (note codes.out_of_place) refl refl refl
acted_usual s m actions.Answer h = answered_usual s.state (next_number s) (counted_in s.site.conduct (status_by m.status)) (h refl)
acted_usual s m actions.Acknowledge h = acknowledged_usual s (named_by m.in_response_to)
acted_usual s m actions.Advise h =
    on_either (Usual s.state) m.in_relation_to.there (about_usual s (advice_by m.advisory_type) m.in_relation_to.meaning)
    (in_place s.state sweeps.Still (note codes.advisory_arrived) refl refl refl)
acted_usual s m actions.Request h = in_place s.state sweeps.Still (note codes.request_arrived) refl refl refl

-- ---- any call

connected_usual : (state : State) → is_connecting state ≡ true → Usual state connected
connected_usual (Waiting left) h = cc
connected_usual Connecting h = quietly Connecting (Opening 0) sweeps.Still (note codes.send_session_open_request) (λ u. u) refl refl refl
connected_usual (Opening age) h = cc
connected_usual (Confirming number age) h = cc
connected_usual (Up waiting age) h = cc
connected_usual Stopped h = cc

pub move_usual : (s : Session) (c : Call) → refusal_of s c ≡ 0 → Usual s.state (move_of s c)
move_usual s calls.Tick a = tick_usual s.site.interval (next_number s) s.state
move_usual s calls.Connected a = connected_usual s.state (accepted_fits s calls.Connected a)
move_usual s calls.Lost a = departs (Waiting 300) partings.Nothing refl (λ h. omega arith)
move_usual s calls.Stop a = stop_usual s.state
move_usual s (calls.Push what handle) a = in_place s.state sweeps.Still (remarks.Send what handle) refl refl refl
move_usual s (calls.Heard m) a = acted_usual s m (action_of s.state m.kind) (answer_where s.state m.kind)
move_usual s (calls.Unreadable refusal) a = in_place s.state sweeps.Still (remarks.Note codes.unreadable refusal) refl refl refl

-- what holds of a refused call, and of every such move, holds of any call
pub by_moves : (P : Answered → Type 0) (s : Session) (c : Call)
    → ((m : Move) → Usual s.state m → P (record { refusal = 0; next = moved_by s m; events = events_by s m }))
    → ((k : ℕ) → P (record { refusal = suc k; next = s; events = [] })) → P (step s c)
by_moves P s c moved refused = go (refusal_of s c) refl
  where
    go : (k : ℕ) → refusal_of s c ≡ k → P (answer k s c)
    go zero e = moved (move_of s c) (move_usual s c e)
    go (suc k) e = refused k
