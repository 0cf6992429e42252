-- Confirming lasts 20 ticks, whatever else is called meanwhile. Assumes nothing.
use mathlib.Core.Path.{◌≡◌, refl}
use mathlib.Core.Bool.{true}
use mathlib.Core.List.{[], ◌∷◌}
use Prim.Native.Nat.{ℕ, suc, ◌+◌, ◌<◌}
use native.Mathlib.Omega.{arith}
use lib.Dec.{ltb}
use borrow.Author.Tests.{ltb-true}
use Rattle.std.proofs.lemmas.Bool.{cond_both}
use Rattle.conduct.specs.Session.{Session, state_number}
use Rattle.conduct.specs.Sound.{sound_state}
use Rattle.conduct.specs.Rules.{tick}
use Rattle.conduct.specs.Step.{step}
use Rattle.conduct.specs.History.{codes_of, history, session_after, ticks}
use Rattle.conduct.specs.Timers.{ConfirmingLasts}
use Rattle.conduct.specs.declared.State.{State}
use Rattle.conduct.specs.declared.State.TheVariants.{Waiting, Confirming}
use Rattle.conduct.specs.declared.Call.TheVariants as calls
use Rattle.conduct.specs.declared.Move.{Move}
use Rattle.conduct.proofs.Reached.{reached_is_sound}
use Rattle.conduct.proofs.Good.{good}
use Rattle.conduct.proofs.Clocks.{tick_taken}
use Rattle.conduct.proofs.Lasting.{lasting, untouched, none_open, not_before, over}

confirming_on : (n interval next a : ℕ) (state : State) → state ≡ Confirming n a → state_number (tick interval next state).to ≡ 4
    → (tick interval next state).to ≡ Confirming n (a + 1)
confirming_on n interval next a state e =
    rw e
    (cond_both (ltb a 19) _ _ (λ (m : Move). state_number m.to ≡ 4 → m.to ≡ Confirming n (a + 1)) (λ l n. refl) (λ l n. absurd (omega arith)))

confirming_quiet : (t : Session) (n a : ℕ) → t.state ≡ Confirming n a → suc a < 20
    → (codes_of (step t calls.Tick).events ≡ []) × (state_number (step t calls.Tick).next.state ≡ 4)
confirming_quiet t n a e h = rw (tick_taken t (Confirming n a) e refl, not_before a h) (rw (untouched t), refl)

confirming_last : (t : Session) (n a : ℕ) → t.state ≡ Confirming n a → t.pushes ≡ [] → suc a ≡ 20
    → (codes_of (step t calls.Tick).events ≡ 19 ∷ 7 ∷ []) × ((step t calls.Tick).next.state ≡ Waiting 300)
confirming_last t n a e none h = rw (tick_taken t (Confirming n a) e refl, over a h) (rw none, refl)

pub confirming_lasts : ConfirmingLasts
confirming_lasts s cs n ok e st =
    let a = ticks (history s cs) in
    let t : Session = session_after s cs in
    let now : t.state ≡ Confirming n a =
    lasting 4 (omega arith) (λ (k : ℕ) (state : State). state ≡ Confirming n k) (λ k state f. rw f) (confirming_on n) cs s ok e st
    in
    let sound_now : sound_state t.site.interval (Confirming n a) ≡ true = rw now at (good {s = t} (reached_is_sound s cs ok)).state_is in
    record {
      shorter = ltb-true a 20 sound_now;
      quiet = confirming_quiet t n a now;
      last = confirming_last t n a now (none_open cs s ok now refl);
    }
