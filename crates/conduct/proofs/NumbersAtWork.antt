-- The numbers of messages at work, which antt computes. Assumes nothing.
use mathlib.Core.Path.{refl}
use Rattle.conduct.specs.Numbers.{next_free}
use Rattle.conduct.specs.AtWorkNumbers.{NumbersAtWork}

pub numbers_at_work : NumbersAtWork
unfolding next_free
numbers_at_work = refl
