-- Each accepted call's move is fair: its state's timer is in its range, Up is left with no push open, and a number that it takes is the
-- next free one. Assumes nothing.
use Rattle.std.specs.Prelude.{Option, None, Some}
use mathlib.Core.Path.{◌≡◌, refl, sym, ap, ◌∙◌}
use mathlib.Core.Bool.{Bool, true, false, cond}
use mathlib.Core.List.{List, [], ◌∷◌}
use mathlib.Core.Logic.{◌⊎◌, inl, inr}
use Prim.Native.Nat.{ℕ, ◌<◌}
use native.Mathlib.Omega.{arith}
use lib.Dec.{ltb, eqb}
use lib.ListN.{length}
use borrow.Author.Tests.{ltb-true}
use Rattle.std.proofs.lemmas.Bool.Decides.{nat_tests}
use Rattle.message.proofs.Laws.{on_either}
use Rattle.message.specs.declared.Kind.{Kind}
use Rattle.message.specs.declared.Kind.TheVariants as kinds
use Rattle.message.specs.declared.Message.{Message}
use Rattle.message.specs.declared.Status.{Status}
use Rattle.message.specs.declared.Status.TheVariants as statuses
use Rattle.message.specs.declared.Advice.{Advice}
use Rattle.conduct.specs.Numbers.{next_free}
use Rattle.conduct.specs.Pushes.{opened}
use Rattle.conduct.specs.Session.{Session, is_connecting, is_up, is_stopped, session_ok_numbers, held}
use Rattle.conduct.specs.Session.{fits, room_for, refusal_of}
use Rattle.conduct.specs.Table.{action_of}
use Rattle.conduct.specs.Rules.{goes, waits, leaves, tick, stop, status_by, counted_in, named_by, advice_by, answered, ok_naming, acknowledged}
use Rattle.conduct.specs.Rules.{advisory_naming, advised_about, next_number, acted, move_of}
use Rattle.conduct.specs.Step.{opens, last_after_parting}
use Rattle.conduct.specs.Sound.{sound_state}
use Rattle.conduct.specs.declared.State.{State}
use Rattle.conduct.specs.declared.State.TheVariants.{Waiting, Connecting, Opening, Confirming, Up, Stopped}
use Rattle.conduct.specs.declared.Push.{Push}
use Rattle.conduct.specs.declared.Pushed.{Pushed}
use Rattle.conduct.specs.declared.Call.{Call}
use Rattle.conduct.specs.declared.Call.TheVariants as calls
use Rattle.conduct.specs.declared.Action.{Action}
use Rattle.conduct.specs.declared.Action.TheVariants as actions
use Rattle.conduct.specs.declared.Sweep.{Sweep}
use Rattle.conduct.specs.declared.Sweep.TheVariants as sweeps
use Rattle.conduct.specs.declared.Parting.{Parting}
use Rattle.conduct.specs.declared.Parting.TheVariants as partings
use Rattle.conduct.specs.declared.Remark.{Remark}
use Rattle.conduct.specs.declared.Remark.TheVariants as remarks
use Rattle.conduct.specs.declared.Move.{Move}
use Rattle.conduct.proofs.Good.{Good}

-- the number that the sending of a push takes, and the pushes that a move opens
abbrev pub sent_number : Session → Move → ℕ
sent_number s m = next_free (held s) (last_after_parting s m)

abbrev pub new_pushes : Session → Move → List Push
new_pushes s m = opens (sent_number s m) m.remark

-- what becomes of the numbers that are held, beside those of pushes that are closed
pub data Taking (s : Session) (m : Move) : Type 0 where
  -- the SessionOk's stays, or is given up; it was none, perhaps
  holds : session_ok_numbers m.to ≡ session_ok_numbers s.state → new_pushes s m ≡ [] → Taking s m
  frees : session_ok_numbers m.to ≡ [] → new_pushes s m ≡ [] → Taking s m
  -- a SessionOk, or a push in Up, takes the next one
  sends : session_ok_numbers m.to ≡ next_number s ∷ [] → new_pushes s m ≡ [] → Taking s m
  opens_one : (what : Pushed) (handle : ℕ) → m.to ≡ s.state → is_up m.to ≡ true
      → new_pushes s m ≡ opened what (sent_number s m) handle ∷ [] → length s.pushes < 32 → Taking s m

pub record Fair (s : Session) (m : Move) : Type 0 where
  pub to_is : sound_state s.site.interval m.to ≡ true
  pub leaving : is_up m.to ≡ false → (m.sweep ≡ sweeps.Lost) ⊎ (is_up s.state ≡ false)
  pub taking : Taking s m

module _ (s : Session) where
  -- ---- to a state like the one before, to Up with nothing awaited, and away

  alike : {old : State} → s.state ≡ old → (to : State) (sweep : Sweep) (remark : Remark) → sound_state s.site.interval to ≡ true
      → is_up to ≡ is_up old → session_ok_numbers to ≡ session_ok_numbers old → opens (next_number s) remark ≡ []
      → Fair s (record { to = to; parting = partings.Nothing; sweep = sweep; remark = remark })
  alike e to sweep remark t u n o =
      record { to_is = t; leaving = λ f. inr (ap is_up e ∙ (sym u ∙ f)); taking = holds (n ∙ sym (ap session_ok_numbers e)) o }

  rests : (age : ℕ) (remark : Remark) → ltb age s.site.interval ≡ true → opens (next_number s) remark ≡ []
      → Fair s (goes (Up None age) remark)
  rests age remark t o = record { to_is = t; leaving = λ f. cc; taking = frees refl o }

  away : (to : State) (parting : Parting) → sound_state s.site.interval to ≡ true → session_ok_numbers to ≡ [] → Fair s (leaves to parting)
  away to parting t n = record { to_is = t; leaving = λ e. inl refl; taking = frees n refl }

  waits_fair : (parting : Parting) → Fair s (waits parting)
  waits_fair parting = away (Waiting 300) parting refl refl

  tick_fair : (state : State) → s.state ≡ state → sound_state s.site.interval state ≡ true → Fair s (tick s.site.interval (next_number s) state)
  tick_fair (Waiting left) e t = grind (arith, nat_tests)
  tick_fair Connecting e t = alike e Connecting sweeps.Still remarks.Nothing refl refl refl refl
  tick_fair (Opening age) e t = grind (arith, nat_tests)
  tick_fair (Confirming number age) e t = grind (arith, nat_tests)
  tick_fair (Up (Some number) age) e t = grind (arith, nat_tests)
  tick_fair (Up None age) e t = grind (arith, nat_tests)
  tick_fair Stopped e t = alike e Stopped sweeps.Still remarks.Nothing refl refl refl refl

  stop_fair : (state : State) → Fair s (stop state)
  stop_fair (Waiting left) = away Stopped _ refl refl
  stop_fair Connecting = away Stopped _ refl refl
  stop_fair (Opening age) = away Stopped _ refl refl
  stop_fair (Confirming number age) = away Stopped _ refl refl
  stop_fair (Up waiting age) = away Stopped _ refl refl
  stop_fair Stopped = away Stopped _ refl refl

  -- ---- messages

  -- Up comes only after a SessionOpenResponse
  answers_below : (state : State) (kind : Kind) → action_of state kind ≡ actions.Answer → is_up state ≡ false
  answers_below (Waiting left) kind e = refl
  answers_below Connecting kind e = refl
  answers_below (Opening age) kind e = refl
  answers_below (Confirming number age) kind e = refl
  answers_below (Up waits age) kinds.SessionOpenRequest e = cc
  answers_below (Up waits age) kinds.SessionOpenResponse e = cc
  answers_below (Up waits age) kinds.SessionOk e = cc
  answers_below (Up waits age) kinds.Ok e = cc
  answers_below (Up waits age) kinds.Advisory e = cc
  answers_below (Up waits age) kinds.Request e = cc
  answers_below (Up waits age) kinds.Response e = cc
  answers_below Stopped kind e = refl

  answered_fair : (status : Status) → is_up s.state ≡ false → Fair s (answered (next_number s) status)
  answered_fair statuses.Ok u = record { to_is = refl; leaving = λ e. inr u; taking = sends refl refl }
  answered_fair statuses.RedundantSession u = record { to_is = refl; leaving = λ e. inr u; taking = sends refl refl }
  answered_fair statuses.Other u = waits_fair _

  module _ (g : Good s) where
    -- the same state, with a remark that opens nothing
    same : (state : State) → s.state ≡ state → (sweep : Sweep) (remark : Remark) → opens (next_number s) remark ≡ []
        → Fair s (record { to = state; parting = partings.Nothing; sweep = sweep; remark = remark })
    same state e sweep remark o = alike e state sweep remark (rw (← e) g.state_is) refl refl o

    -- less than 20 ticks are less than the interval
    within : (age : ℕ) → ltb age 20 ≡ true → ltb age s.site.interval ≡ true
    within age t = grind (arith, nat_tests)

    ok_fair : (n : ℕ) (state : State) → s.state ≡ state → sound_state s.site.interval state ≡ true → Fair s (ok_naming s n state)
    ok_fair n (Waiting left) e t = same (Waiting left) e _ _ refl
    ok_fair n Connecting e t = same Connecting e _ _ refl
    ok_fair n (Opening age) e t = same (Opening age) e _ _ refl
    ok_fair n (Confirming number age) e t =
        on_either (Fair s) (eqb n number) (rests age _ (within age t) refl) (same (Confirming number age) e _ _ refl)
    ok_fair n (Up waiting age) e t = grind (arith, nat_tests)
    ok_fair n Stopped e t = same Stopped e _ _ refl

    acknowledged_fair : (number : Option ℕ) → Fair s (acknowledged s number)
    acknowledged_fair None = same s.state refl _ _ refl
    acknowledged_fair (Some n) = ok_fair n s.state refl g.state_is

    advisory_fair : (advice : Advice) (n : ℕ) (state : State) → s.state ≡ state → sound_state s.site.interval state ≡ true
        → Fair s (advisory_naming s advice n state)
    advisory_fair advice n (Waiting left) e t = same (Waiting left) e _ _ refl
    advisory_fair advice n Connecting e t = same Connecting e _ _ refl
    advisory_fair advice n (Opening age) e t = same (Opening age) e _ _ refl
    advisory_fair advice n (Confirming number age) e t =
        on_either (Fair s) (eqb n number) (waits_fair _) (same (Confirming number age) e _ _ refl)
    advisory_fair advice n (Up waiting age) e t = grind (arith, nat_tests)
    advisory_fair advice n Stopped e t = same Stopped e _ _ refl

    advised_about_fair : (advice : Advice) (number : Option ℕ) → Fair s (advised_about s advice number)
    advised_about_fair advice None = same s.state refl _ _ refl
    advised_about_fair advice (Some n) = advisory_fair advice n s.state refl g.state_is

    acted_fair : (m : Message) (action : Action) → (action ≡ actions.Answer → is_up s.state ≡ false) → Fair s (acted s m action)
    acted_fair m actions.OutOfPlace h = same s.state refl _ _ refl
    acted_fair m actions.Answer h = answered_fair (counted_in s.site.conduct (status_by m.status)) (h refl)
    acted_fair m actions.Acknowledge h = acknowledged_fair (named_by m.in_response_to)
    acted_fair m actions.Advise h =
        on_either (Fair s) m.in_relation_to.there
        (advised_about_fair (advice_by m.advisory_type) m.in_relation_to.meaning)
        (same s.state refl _ _ refl)
    acted_fair m actions.Request h = same s.state refl _ _ refl

    -- ---- any call

    connecting_below : (state : State) → is_connecting state ≡ true → is_up state ≡ false
    connecting_below (Waiting left) e = refl
    connecting_below Connecting e = refl
    connecting_below (Opening age) e = refl
    connecting_below (Confirming number age) e = refl
    connecting_below (Up waits age) e = sym e
    connecting_below Stopped e = refl

    fair_of : (c : Call) → fits s.state c ≡ true → room_for c (length s.pushes) ≡ true → Fair s (move_of s c)
    fair_of calls.Tick f r = tick_fair s.state refl g.state_is
    fair_of calls.Connected f r = record { to_is = refl; leaving = λ e. inr (connecting_below s.state f); taking = frees refl refl }
    fair_of calls.Lost f r = waits_fair _
    fair_of calls.Stop f r = stop_fair s.state
    fair_of (calls.Push what handle) f r =
        record {
          to_is = g.state_is;
          leaving = λ e. inr e;
          taking = opens_one what handle refl f refl (ltb-true (length s.pushes) 32 r);
        }
    fair_of (calls.Heard m) f r = acted_fair m (action_of s.state m.kind) (λ e. answers_below s.state m.kind e)
    fair_of (calls.Unreadable refusal) f r = same s.state refl _ _ refl

    pub fair : (c : Call) → refusal_of s c ≡ 0 → Fair s (move_of s c)
    fair c h = go (is_stopped s.state) (fits s.state c) refl (room_for c (length s.pushes)) refl h
      where
        go : (a b : Bool) → fits s.state c ≡ b → (d : Bool) → room_for c (length s.pushes) ≡ d
            → ◌≡◌ {A = ℕ} (cond a 5 (cond b (cond d 0 7) 6)) 0
            → Fair s (move_of s c)
        go true b f d r e = absurd (omega arith)
        go false false f d r e = absurd (omega arith)
        go false true f false r e = absurd (omega arith)
        go false true f true r e = fair_of c f r
