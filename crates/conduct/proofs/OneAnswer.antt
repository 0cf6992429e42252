-- THEOREM: the contract of the public function of this crate has one answer. Assumes nothing.
use mathlib.Core.Path.{◌≡◌}
use Prim.Native.Nat.{ℕ}
use Rattle.laws.proofs.OneAnswer.{one_answer}
use Rattle.conduct.specs.Session.{state_number}
use Rattle.conduct.specs.declared.State.{State}

pub from_state_once : (state : State) {r r' : ℕ} → r ≡ state_number state → r' ≡ state_number state → r ≡ r'
from_state_once state = one_answer
