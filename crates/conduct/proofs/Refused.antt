-- Which calls are refused and with what, and that a refused call changes nothing. Assumes nothing.
use mathlib.Core.Path.{◌≡◌, refl, ap, ◌∙◌}
use mathlib.Core.Bool.{true, false, not, ◌||◌}
use mathlib.Core.List.{[], ◌∷◌}
use Prim.Native.Nat.{ℕ, zero, suc}
use native.Mathlib.Omega.{arith}
use lib.Dec.{eqb}
use Rattle.std.proofs.lemmas.Bool.Decides.{nat_tests}
use Rattle.conduct.specs.Lists.{among}
use Rattle.conduct.specs.Session.{Session, is_connecting, is_up, is_linked, is_stopped, state_number}
use Rattle.conduct.specs.Session.{fits, refusal_of}
use Rattle.conduct.specs.Step.{answer, step}
use Rattle.conduct.specs.Bounds.{RefusedChangesNothing, RefusedStopped, RefusedFull, RefusedMisfit, AcceptedElse, fitting}
use Rattle.conduct.specs.declared.State.{State}
use Rattle.conduct.specs.declared.State.TheVariants.{Waiting, Connecting, Opening, Confirming, Up, Stopped}
use Rattle.conduct.specs.declared.Call.{Call}
use Rattle.conduct.specs.declared.Call.TheVariants as calls

pub refused_changes_nothing : RefusedChangesNothing
refused_changes_nothing s c = grind (arith, nat_tests)

-- the refusal that is answered is the one that the session finds
pub refused_by : (s : Session) (c : Call) → (step s c).refusal ≡ refusal_of s c
refused_by s c = go (refusal_of s c)
  where
    go : (k : ℕ) → (answer k s c).refusal ≡ k
    go zero = refl
    go (suc k) = refl

-- an accepted call fits the state
pub accepted_fits : (s : Session) (c : Call) → refusal_of s c ≡ 0 → fits s.state c ≡ true
accepted_fits s c = grind (arith, nat_tests)

pub refused_stopped : RefusedStopped
refused_stopped s c = grind (arith, nat_tests)

pub refused_full : RefusedFull
refused_full s what h u = grind (arith, nat_tests)

-- ---- the calls that do not fit

-- what refuses: a call that does not fit, and nothing else with 6
misfit_by : (s : Session) (c : Call) → is_stopped s.state ≡ false → eqb (step s c).refusal 6 ≡ not (fits s.state c)
misfit_by s c h = grind (arith, nat_tests)

-- the words for states, as the numbers of the states that they hold of
named_states : (state : State)
    → (not (is_stopped state) ≡ among (state_number state) (1 ∷ 2 ∷ 3 ∷ 4 ∷ 5 ∷ []))
    × (is_connecting state ≡ among (state_number state) (2 ∷ [])) × (is_up state ≡ among (state_number state) (5 ∷ []))
    × (is_linked state ≡ among (state_number state) (3 ∷ 4 ∷ 5 ∷ []))
    × ((is_connecting state || is_linked state) ≡ among (state_number state) (2 ∷ 3 ∷ 4 ∷ 5 ∷ []))
named_states (Waiting left) = (refl, refl, refl, refl, refl)
named_states Connecting = (refl, refl, refl, refl, refl)
named_states (Opening age) = (refl, refl, refl, refl, refl)
named_states (Confirming number age) = (refl, refl, refl, refl, refl)
named_states (Up waits age) = (refl, refl, refl, refl, refl)
named_states Stopped = (refl, refl, refl, refl, refl)

fits_as : (state : State) (c : Call) → fits state c ≡ among (state_number state) (fitting c)
fits_as state calls.Tick = (named_states state).0
fits_as state calls.Connected = (named_states state).1
fits_as state calls.Lost = (named_states state).4
fits_as state calls.Stop = (named_states state).0
fits_as state (calls.Push what handle) = (named_states state).2
fits_as state (calls.Heard m) = (named_states state).3
fits_as state (calls.Unreadable r) = grind (arith, nat_tests)

pub refused_misfit : RefusedMisfit
refused_misfit s c h = misfit_by s c h ∙ ap not (fits_as s.state c)

pub accepted_else : AcceptedElse
accepted_else s c going fitted other = refused_by s c ∙ rw (going, fits_as s.state c ∙ fitted, other)
