-- The endings of a session at work, which antt computes. Assumes nothing.
use mathlib.Core.Path.{refl}
use Rattle.conduct.specs.Numbers.{next_free}
use Rattle.conduct.specs.AtWorkStates.{EndingsAtWork}

pub endings_at_work : EndingsAtWork
unfolding next_free
endings_at_work = refl
