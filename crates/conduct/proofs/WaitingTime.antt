-- Waiting lasts as many ticks as it has left, whatever else is called meanwhile. Assumes nothing.
use mathlib.Core.Path.{◌≡◌, refl, ap, ◌∙◌}
use mathlib.Core.Bool.{true}
use mathlib.Core.List.{[], ◌∷◌}
use Prim.Native.Nat.{ℕ, ◌+◌, ◌<◌}
use native.Mathlib.Omega.{arith}
use lib.Dec.{leb}
use borrow.Author.Tests.{lt-ltb, leb-true}
use Rattle.std.proofs.lemmas.Bool.{and_parts}
use Rattle.std.proofs.lemmas.Bool.Decides.{nat_tests}
use Rattle.conduct.specs.Session.{Session, state_number}
use Rattle.conduct.specs.Sound.{sound_state}
use Rattle.conduct.specs.Rules.{tick}
use Rattle.conduct.specs.Step.{step}
use Rattle.conduct.specs.History.{codes_of, history, session_after, ticks}
use Rattle.conduct.specs.Timers.{WaitingLasts}
use Rattle.conduct.specs.declared.State.{State}
use Rattle.conduct.specs.declared.State.TheVariants.{Waiting, Connecting}
use Rattle.conduct.specs.declared.Call.TheVariants as calls
use Rattle.conduct.proofs.Reached.{reached_is_sound}
use Rattle.conduct.proofs.Good.{good}
use Rattle.conduct.proofs.Clocks.{tick_taken}
use Rattle.conduct.proofs.Lasting.{lasting, untouched}

-- of `left` ticks a are gone
abbrev Left : ℕ → ℕ → State → Type 0
Left left a state = (more : ℕ) × (state ≡ Waiting more) × (more + a ≡ left)

waiting_on : (left interval next a : ℕ) (state : State) → Left left a state → state_number (tick interval next state).to ≡ 1
    → Left left (a + 1) (tick interval next state).to
waiting_on left interval next a state h = grind (arith, nat_tests)

waiting_quiet : (t : Session) (more : ℕ) → t.state ≡ Waiting more → 1 < more
    → (codes_of (step t calls.Tick).events ≡ []) × (state_number (step t calls.Tick).next.state ≡ 1)
waiting_quiet t more e h = rw (tick_taken t (Waiting more) e refl, lt-ltb 1 more h) (rw (untouched t), refl)

waiting_last : (t : Session) → t.state ≡ Waiting 1
    → (codes_of (step t calls.Tick).events ≡ 1 ∷ []) × ((step t calls.Tick).next.state ≡ Connecting)
waiting_last t e = rw (tick_taken t (Waiting 1) e refl) (rw (untouched t), refl)

pub waiting_lasts : WaitingLasts
waiting_lasts s cs left ok e st =
    let a = ticks (history s cs) in
    let t : Session = session_after s cs in
    let now : Left left a t.state =
    lasting 1 (omega arith) (Left left) (λ k state f. rw f.1) (waiting_on left) cs s ok (left, e, omega arith) st
    in
    let more = now.0 in
    let sound_now : sound_state t.site.interval (Waiting more) ≡ true = rw now.1 at (good {s = t} (reached_is_sound s cs ok)).state_is in
    let some_left = leb-true 1 more (and_parts (leb 1 more) _ sound_now).0 in
    record {
      shorter = omega (arith, now.2, some_left);
      quiet = λ h. waiting_quiet t more now.1 (omega (arith, now.2));
      last = λ h. let one : more ≡ 1 = omega (arith, now.2) in waiting_last t (now.1 ∙ ap Waiting one);
    }
