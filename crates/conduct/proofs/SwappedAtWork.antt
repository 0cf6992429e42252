-- Two messages at once, in examples, which antt computes. Assumes nothing.
use mathlib.Core.Path.{refl}
use Rattle.conduct.specs.Numbers.{next_free}
use Rattle.conduct.specs.AtWorkSwapped.{DifferentAtWork, SameAtWork}

pub different_at_work : DifferentAtWork
unfolding next_free
different_at_work = refl

pub same_at_work : SameAtWork
unfolding next_free
same_at_work = refl
