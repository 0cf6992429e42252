-- With which ticks a state is entered. Assumes nothing.
use Rattle.std.specs.Prelude.{Option, None, Some}
use mathlib.Core.Path.{◌≡◌, refl, sym, ap, ◌∙◌}
use mathlib.Core.Bool.{Bool, true, false}
use mathlib.Core.Logic.{◌⊎◌, inl, inr}
use Prim.Native.Nat.{ℕ, ◌+◌}
use native.Mathlib.Omega.{arith}
use lib.Dec.{ltb}
use Rattle.std.proofs.lemmas.Bool.Decides.{nat_tests}
use Rattle.message.proofs.Laws.{on_either}
use Rattle.conduct.specs.Session.{Session, state_number}
use Rattle.conduct.specs.Rules.{tick, next_number}
use Rattle.conduct.specs.Step.{events_by, Answered, step}
use Rattle.conduct.specs.Timers.{says_session_ok, EnteredAfresh}
use Rattle.conduct.specs.declared.State.{State}
use Rattle.conduct.specs.declared.State.TheVariants.{Waiting, Connecting, Opening, Confirming, Up, Stopped}
use Rattle.conduct.specs.declared.Call.{Call}
use Rattle.conduct.specs.declared.Move.{Move}
use Rattle.conduct.proofs.Moves.{is_session_ok}
use Rattle.conduct.proofs.Onward.{Onward}
use Rattle.conduct.proofs.Onward.Onward.{same, opens, answers, confirms, hears, ends, stops}
use Rattle.conduct.proofs.Clocks.{by_turns}
use Rattle.conduct.proofs.Sent.{says_by_lem}

-- from a state to another, where `says`: a SessionOk is sent
record Fresh (from to : State) (says : Bool) : Type 0 where
  opening : (age : ℕ) → (state_number from ≡ 3 → ⊥) → to ≡ Opening age → age ≡ 0
  confirming : (n age : ℕ) → (state_number from ≡ 4 → ⊥) → to ≡ Confirming n age → (age ≡ 0) × (says ≡ true)
  up : (waiting : Option ℕ) (age : ℕ) → (state_number from ≡ 5 → ⊥) → to ≡ Up waiting age
      → (waiting ≡ None) × ((n : ℕ) × (from ≡ Confirming n age))
  waiting : (left : ℕ) → (state_number from ≡ 1 → ⊥) → to ≡ Waiting left → left ≡ 300

module _ (from to : State) (says : Bool) where
  -- to a state with the same number, which may be older
  alike : state_number to ≡ state_number from → Fresh from to says
  alike e = grind (arith, nat_tests)

  -- to each of the four, and elsewhere
  opened : to ≡ Opening 0 → Fresh from to says
  opened e = grind (arith, nat_tests)

  confirmed : (k : ℕ) → to ≡ Confirming k 0 → says ≡ true → Fresh from to says
  confirmed k e s = grind (arith, nat_tests)

  came_up : (k age : ℕ) → from ≡ Confirming k age → to ≡ Up None age → Fresh from to says
  came_up k age g e = grind (arith, nat_tests)

  ended : to ≡ Waiting 300 → Fresh from to says
  ended e = grind (arith, nat_tests)

  elsewhere : (state_number to ≡ 2) ⊎ (state_number to ≡ 6) → Fresh from to says
  elsewhere (inl e) = grind (arith, nat_tests)
  elsewhere (inr e) = grind (arith, nat_tests)

-- ---- calls

module _ (s : Session) (m : Move) where
  abbrev Leads : State → Type 0
  Leads from = Fresh from m.to (says_session_ok (events_by s m))

onward_fresh : (s : Session) {c : Call} {from : State} (m : Move) → Onward (next_number s) c from m → Leads s m from
onward_fresh s {from = from} m (same e q) = alike from m.to _ (ap state_number e)
onward_fresh s {from = from} m (opens f t q) = opened from m.to _ t
onward_fresh s {from = from} m (answers age f t) =
    confirmed from m.to _ (next_number s) (ap (λ (x : Move). x.to) t) (says_by_lem s m ∙ ap (λ (x : Move). is_session_ok x.remark) t)
onward_fresh s {from = from} m (confirms k age f t q) = came_up from m.to _ k age f t
onward_fresh s {from = from} m (hears k age f t q b) = alike from m.to _ (ap state_number t ∙ sym (ap state_number f))
onward_fresh s {from = from} m (ends more t q) = ended from m.to _ t
onward_fresh s {from = from} m (stops t q) = elsewhere from m.to _ (inr (ap state_number t))

module _ (s : Session) (interval next : ℕ) where
  -- by a tick, whatever it says
  abbrev Ticks : State → Move → Type 0
  Ticks from m = Leads s m from

  waiting_ticks : (left : ℕ) → Ticks (Waiting left) (tick interval next (Waiting left))
  waiting_ticks left = on_either (Ticks (Waiting left)) (ltb 1 left) (alike _ _ _ refl) (elsewhere _ _ _ (inl refl))

  opening_ticks : (age : ℕ) → Ticks (Opening age) (tick interval next (Opening age))
  opening_ticks age = on_either (Ticks (Opening age)) (ltb age 19) (alike _ _ _ refl) (ended _ _ _ refl)

  confirming_ticks : (number age : ℕ) → Ticks (Confirming number age) (tick interval next (Confirming number age))
  confirming_ticks number age = on_either (Ticks (Confirming number age)) (ltb age 19) (alike _ _ _ refl) (ended _ _ _ refl)

  open_ticks : (number age : ℕ) → Ticks (Up (Some number) age) (tick interval next (Up (Some number) age))
  open_ticks number age = on_either (Ticks (Up (Some number) age)) (ltb age 19) (alike _ _ _ refl) (ended _ _ _ refl)

  heard_ticks : (age : ℕ) → Ticks (Up None age) (tick interval next (Up None age))
  heard_ticks age = on_either (Ticks (Up None age)) (ltb (age + 1) interval) (alike _ _ _ refl) (alike _ _ _ refl)

  tick_fresh : (state : State) → Ticks state (tick interval next state)
  tick_fresh (Waiting left) = waiting_ticks left
  tick_fresh Connecting = alike _ _ _ refl
  tick_fresh (Opening age) = opening_ticks age
  tick_fresh (Confirming number age) = confirming_ticks number age
  tick_fresh (Up (Some number) age) = open_ticks number age
  tick_fresh (Up None age) = heard_ticks age
  tick_fresh Stopped = alike _ _ _ refl

pub entered_afresh : EnteredAfresh
entered_afresh s c =
    let f : Fresh s.state (step s c).next.state (says_session_ok (step s c).events) =
    by_turns (λ (k : ℕ) (r : Answered). Fresh s.state r.next.state (says_session_ok r.events)) s c
    (λ k. alike s.state s.state false refl) (onward_fresh s) (λ e. tick_fresh s s.site.interval (next_number s) s.state)
    in
    record { opening = f.opening; confirming = f.confirming; up = f.up; waiting = f.waiting }
