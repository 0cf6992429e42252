-- The rules of Confirming at work, which antt computes. Assumes nothing.
use mathlib.Core.Path.{refl}
use Rattle.conduct.specs.Numbers.{next_free}
use Rattle.conduct.specs.AtWorkStates.{ConfirmingAtWork}

pub confirming_at_work : ConfirmingAtWork
unfolding next_free
confirming_at_work = refl
