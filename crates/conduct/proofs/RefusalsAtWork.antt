-- The refusals of calls at work, which antt computes. Assumes nothing.
use mathlib.Core.Path.{refl}
use Rattle.conduct.specs.Numbers.{next_free}
use Rattle.conduct.specs.AtWorkRefusals.{RefusalsAtWork}

pub refusals_at_work : RefusalsAtWork
unfolding next_free
refusals_at_work = refl
