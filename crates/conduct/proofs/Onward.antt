-- Where a call that is no tick can lead from a state: it leaves the state with its ticks, hears of the SessionOk, or leads elsewhere; and so do an Ok and an
-- Advisory by the number that they name. Assumes nothing.
use Rattle.std.specs.Prelude.{None, Some}
use mathlib.Core.Path.{◌≡◌, refl, sym, ◌∙◌}
use mathlib.Core.Bool.{Bool, false, ◌||◌, or-false}
use mathlib.Core.List.{List, [], ◌∷◌}
use mathlib.Core.Logic.{◌⊎◌}
use Prim.Native.Nat.{ℕ, ◌<◌}
use native.Mathlib.Omega.{arith}
use lib.Dec.{eqb}
use borrow.Author.Tests.{eqb-true}
use Rattle.std.proofs.lemmas.Bool.{cond_both}
use Rattle.message.specs.declared.Message.{Message}
use Rattle.message.specs.declared.Advice.{Advice}
use Rattle.message.proofs.Laws.{on_either}
use Rattle.conduct.specs.Lists.{among}
use Rattle.conduct.specs.Session.{Session, state_number, push_numbers}
use Rattle.conduct.specs.Rules.{goes, note, ok_naming, advisory_naming, next_number}
use Rattle.conduct.specs.History.{Bearing, advice_bearing, call_bearing}
use Rattle.conduct.specs.History.Bearing.{acknowledged}
use Rattle.conduct.specs.declared.State.{State}
use Rattle.conduct.specs.declared.State.TheVariants.{Waiting, Connecting, Opening, Confirming, Up, Stopped}
use Rattle.conduct.specs.declared.Call.{Call}
use Rattle.conduct.specs.declared.Call.TheVariants as calls
use Rattle.conduct.specs.declared.Move.{Move}
use Rattle.conduct.proofs.Moves.{is_session_ok}

-- ---- where a call that is no tick leads

-- what bears on a number is a message that names it
abbrev pub Tells : List Bearing → Type 0
Tells bs = (bs ≡ acknowledged ∷ []) ⊎ (b : Bool) × (bs ≡ advice_bearing b ∷ [])

-- the move of such a call, where `next` is the number that a SessionOk takes; only the answer to the SessionOpenRequest sends one
pub data Onward (next : ℕ) (c : Call) (from : State) (m : Move) : Type 0 where
  same : m.to ≡ from → is_session_ok m.remark ≡ false → Onward next c from m
  opens : from ≡ Connecting → m.to ≡ Opening 0 → is_session_ok m.remark ≡ false → Onward next c from m
  answers : (age : ℕ) → from ≡ Opening age → m ≡ goes (Confirming next 0) (note 3) → Onward next c from m
  -- the ticks since the SessionOk go on
  confirms : (n age : ℕ) → from ≡ Confirming n age → m.to ≡ Up None age → is_session_ok m.remark ≡ false → Onward next c from m
  hears : (n age : ℕ) → from ≡ Up (Some n) age → m.to ≡ Up None age → is_session_ok m.remark ≡ false
      → Tells (call_bearing n c) → Onward next c from m
  ends : 1 < state_number from → m.to ≡ Waiting 300 → is_session_ok m.remark ≡ false → Onward next c from m
  stops : m.to ≡ Stopped → is_session_ok m.remark ≡ false → Onward next c from m

-- ---- a message

module _ (s : Session) (m : Message) where
  abbrev pub From : State → Move → Type 0
  From state move = Onward (next_number s) (calls.Heard m) state move

  -- where it is an Ok, or an Advisory, that names n
  module _ (n : ℕ) where
    pub ok_onward : Tells (call_bearing n (calls.Heard m)) → (state : State) → From state (ok_naming s n state)
    ok_onward t (Waiting left) = same refl refl
    ok_onward t Connecting = same refl refl
    ok_onward t (Opening age) = same refl refl
    ok_onward t (Confirming number age) =
        on_either (From (Confirming number age)) (eqb n number) (confirms number age refl refl refl) (same refl refl)
    ok_onward t (Up None age) =
        on_either (From (Up None age)) (among n (push_numbers s.pushes)) (same refl refl) (same refl refl)
    ok_onward t (Up (Some k) age) =
        cond_both (eqb n k || false) _ _ (From (Up (Some k) age))
        (λ e. let q : n ≡ k = eqb-true n k (sym (or-false (eqb n k)) ∙ e) in hears k age refl refl refl (rw (← q) t))
        (λ e. on_either (From (Up (Some k) age)) (among n (push_numbers s.pushes)) (same refl refl) (same refl refl))
    ok_onward t Stopped = same refl refl

    pub advisory_onward : (advice : Advice) → Tells (call_bearing n (calls.Heard m)) → (state : State)
        → From state (advisory_naming s advice n state)
    advisory_onward advice t (Waiting left) = same refl refl
    advisory_onward advice t Connecting = same refl refl
    advisory_onward advice t (Opening age) = same refl refl
    advisory_onward advice t (Confirming number age) =
        on_either (From (Confirming number age)) (eqb n number) (ends (omega arith) refl refl) (same refl refl)
    advisory_onward advice t (Up None age) =
        on_either (From (Up None age)) (among n (push_numbers s.pushes)) (same refl refl) (same refl refl)
    advisory_onward advice t (Up (Some k) age) =
        cond_both (eqb n k || false) _ _ (From (Up (Some k) age))
        (λ e. let q : n ≡ k = eqb-true n k (sym (or-false (eqb n k)) ∙ e) in hears k age refl refl refl (rw (← q) t))
        (λ e. on_either (From (Up (Some k) age)) (among n (push_numbers s.pushes)) (same refl refl) (same refl refl))
    advisory_onward advice t Stopped = same refl refl
