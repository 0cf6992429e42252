-- When a SessionOk is sent, and that it is open then, with no tick counted. Assumes nothing.
use Rattle.std.specs.Prelude.{None, Some}
use mathlib.Core.Path.{◌≡◌, refl, sym, ap, ◌∙◌}
use mathlib.Core.Bool.{Bool, true, false, or-false}
use mathlib.Core.List.{List, [], ◌∷◌, ◌++◌}
use mathlib.Core.Logic.{◌⊎◌, inl, inr, ⊎_elim}
use Prim.Native.Nat.{ℕ, ◌+◌}
use native.Mathlib.Omega.{arith}
use lib.Dec.{ltb, eqb}
use lib.ListN.{length, length-append}
use borrow.Author.Tests.{eq-eqb}
use Rattle.std.proofs.lemmas.Bool.{both_ways, or_parts, or_right}
use Rattle.std.proofs.lemmas.Bool.Decides.{nat_tests}
use Rattle.message.proofs.Laws.{on_either}
use Rattle.conduct.specs.Lists.{flat, some}
use Rattle.conduct.specs.Numbers.{all_numbered}
use Rattle.conduct.specs.Pushes.{terms_of, tells}
use Rattle.conduct.specs.Session.{Session, state_number, held}
use Rattle.conduct.specs.Rules.{goes, ages, note, tick, next_number}
use Rattle.conduct.specs.Step.{parting_notes, remark_notes, last_after_parting, events_by, Answered}
use Rattle.conduct.specs.Timers.{says_session_ok, SentIsOpen, SentInTicks}
use Rattle.conduct.specs.declared.State.{State}
use Rattle.conduct.specs.declared.State.TheVariants.{Waiting, Connecting, Opening, Confirming, Up, Stopped}
use Rattle.conduct.specs.declared.Event.{Event}
use Rattle.conduct.specs.declared.Pushed.TheVariants.{Response, Advisory}
use Rattle.conduct.specs.declared.Call.{Call}
use Rattle.conduct.specs.declared.Call.TheVariants as calls
use Rattle.conduct.specs.declared.Sweep.{Sweep}
use Rattle.conduct.specs.declared.Sweep.TheVariants as sweeps
use Rattle.conduct.specs.declared.Remark.{Remark}
use Rattle.conduct.specs.declared.Remark.TheVariants as remarks
use Rattle.conduct.specs.declared.Move.{Move}
use Rattle.conduct.proofs.Lists.{some_append}
use Rattle.conduct.proofs.Moves.{is_session_ok}
use Rattle.conduct.proofs.Said.{told_fails, parting_fails}
use Rattle.conduct.proofs.Onward.{Onward}
use Rattle.conduct.proofs.Onward.Onward.{same, opens, answers, confirms, hears, ends, stops}
use Rattle.conduct.proofs.Clocks.{by_turns}

abbrev is_heartbeat : Event → Bool
is_heartbeat e = eqb e.code 3

-- ---- a call says 3 just if its move remarks it

remark_says : (hs : List ℕ) (last : ℕ) (remark : Remark) → says_session_ok (all_numbered hs last (remark_notes remark)) ≡ is_session_ok remark
remark_says hs last remarks.Nothing = refl
remark_says hs last (remarks.Note code detail) = or-false (eqb code 3)
remark_says hs last (remarks.Send Response handle) = refl
remark_says hs last (remarks.Send Advisory handle) = refl

pub says_by_lem : (s : Session) (m : Move) → says_session_ok (events_by s m) ≡ is_session_ok m.remark
says_by_lem s m =
    let parted = all_numbered (held s) s.last (parting_notes m.parting) in
    let told = flat (tells (terms_of s.site) m.sweep) s.pushes in
    let remarked = all_numbered (held s) (last_after_parting s m) (remark_notes m.remark) in
    some_append is_heartbeat parted (told ++ remarked)
    ∙ rw (
      parting_fails is_heartbeat (held s) (λ l. refl) m.parting s.last,
      some_append is_heartbeat told remarked,
      told_fails is_heartbeat (λ n d. refl) (terms_of s.site) m.sweep s.pushes,
    )
    (remark_says (held s) (last_after_parting s m) m.remark)

unsaid : (s : Session) (m : Move) → is_session_ok m.remark ≡ false → says_session_ok (events_by s m) ≡ true → ⊥
unsaid s m q h = both_ways _ (says_by_lem s m ∙ q) h

-- ---- the moves that send one

-- in Opening, and in Up
abbrev answering : ℕ → Move
answering next = goes (Confirming next 0) (note 3)

abbrev pub beating : ℕ → Move
beating next = ages (Up (Some next) 0) (note 3)

data Sends (next : ℕ) (m : Move) : Type 0 where
  none : is_session_ok m.remark ≡ false → Sends next m
  answer : m ≡ answering next → Sends next m
  heartbeat : m ≡ beating next → Sends next m

-- the last tick of an interval
pub heartbeat_due : (interval next age : ℕ) → ltb (age + 1) interval ≡ false → tick interval next (Up None age) ≡ beating next
heartbeat_due interval next age h = rw h

tick_sends : (interval next : ℕ) (state : State) → Sends next (tick interval next state)
tick_sends interval next (Waiting left) = on_either (Sends next) (ltb 1 left) (none refl) (none refl)
tick_sends interval next Connecting = none refl
tick_sends interval next (Opening age) = on_either (Sends next) (ltb age 19) (none refl) (none refl)
tick_sends interval next (Confirming number age) = on_either (Sends next) (ltb age 19) (none refl) (none refl)
tick_sends interval next (Up (Some number) age) = on_either (Sends next) (ltb age 19) (none refl) (none refl)
tick_sends interval next (Up None age) = grind (arith, nat_tests)
tick_sends interval next Stopped = none refl

-- but for a tick only the answer does
onward_sends : {next : ℕ} {c : Call} {from : State} (m : Move) → Onward next c from m
    → (is_session_ok m.remark ≡ false) ⊎ ((state_number from ≡ 3) × (m ≡ answering next))
onward_sends m (same e q) = inl q
onward_sends m (opens f t q) = inl q
onward_sends m (answers age f t) = inr (ap state_number f, t)
onward_sends m (confirms n age f t q) = inl q
onward_sends m (hears n age f t q b) = inl q
onward_sends m (ends more t q) = inl q
onward_sends m (stops t q) = inl q

pub sent_in_ticks : SentInTicks
sent_in_ticks s c =
    by_turns (λ (k : ℕ) (r : Answered). says_session_ok r.events ≡ true → (c ≡ calls.Tick) ⊎ (state_number s.state ≡ 3)) s c
    (λ k h. cc)
    (λ m o h. ⊎_elim (λ q. absurd (unsaid s m q h)) (λ w. inr w.0) (onward_sends m o))
    (λ e h. inl e)

-- ---- what is said last is open

-- where the others are no SessionOks, the one that is found is the last
last_one : (xs : List Event) (x e : Event) (a b : List Event) → some is_heartbeat xs ≡ false → xs ++ x ∷ [] ≡ a ++ e ∷ b → e.code ≡ 3 → e ≡ x
last_one [] x e [] b n q t = cc
last_one [] x e (y ∷ a) b n q t = absurd (omega (arith, ap length q, length-append a (e ∷ b)))
last_one (y ∷ xs) x e [] b n q t =
    let same : y ≡ e = cc in
    absurd (both_ways _ (or_parts (is_heartbeat y) _ n).0 (eq-eqb y.code 3 (ap (λ (z : Event). z.code) same ∙ t)))
last_one (y ∷ xs) x e (z ∷ a) b n q t = last_one xs x e a b (or_parts (is_heartbeat y) _ n).1 (cc) t

found : (a b : List Event) (e : Event) → e.code ≡ 3 → says_session_ok (a ++ e ∷ b) ≡ true
found a b e t = some_append is_heartbeat a (e ∷ b) ∙ or_right (some is_heartbeat a) _ (rw (eq-eqb e.code 3 t))

abbrev Open : State → ℕ → Type 0
Open state n = (state ≡ Confirming n 0) ⊎ (state ≡ Up (Some n) 0)

abbrev sent_ok : Session → Event
sent_ok s = record { code = 3; number = next_number s; detail = 0 }

its_number : (s : Session) (sweep : Sweep) (a b : List Event) (e : Event) → flat (tells (terms_of s.site) sweep) s.pushes ++ sent_ok s ∷ [] ≡ a ++ e ∷ b
    → e.code ≡ 3 → next_number s ≡ e.number
its_number s sweep a b e h t =
    ap (λ (x : Event). x.number)
    (sym (last_one (flat (tells (terms_of s.site) sweep) s.pushes) (sent_ok s) e a b (told_fails is_heartbeat (λ n d. refl) (terms_of s.site) sweep s.pushes) h t))

move_opens : (s : Session) (m : Move) → Sends (next_number s) m → (a b : List Event) (e : Event) → events_by s m ≡ a ++ e ∷ b → e.code ≡ 3
    → Open m.to e.number
move_opens s m (none q) a b e h t = absurd (unsaid s m q (rw h (found a b e t)))
move_opens s m (answer f) a b e h t =
    inl (ap (λ (x : Move). x.to) f ∙ ap (λ (n : ℕ). Confirming n 0) (its_number s sweeps.Still a b e (sym (ap (events_by s) f) ∙ h) t))
move_opens s m (heartbeat f) a b e h t =
    inr (ap (λ (x : Move). x.to) f ∙ ap (λ (n : ℕ). Up (Some n) 0) (its_number s sweeps.Older a b e (sym (ap (events_by s) f) ∙ h) t))

pub sent_is_open : SentIsOpen
sent_is_open s c a b e =
    by_turns (λ (k : ℕ) (r : Answered). r.events ≡ a ++ e ∷ b → e.code ≡ 3 → Open r.next.state e.number) s c
    (λ k h t. absurd (omega (arith, ap length h, length-append a (e ∷ b))))
    (λ m o. move_opens s m (⊎_elim (λ q. none q) (λ w. answer w.1) (onward_sends m o)) a b e)
    (λ d. move_opens s _ (tick_sends s.site.interval (next_number s) s.state) a b e)
