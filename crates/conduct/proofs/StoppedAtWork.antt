-- What is left of a stopped session, which antt computes. Assumes nothing.
use mathlib.Core.Path.{refl}
use Rattle.conduct.specs.Numbers.{next_free}
use Rattle.conduct.specs.AtWorkStates.{StoppedAtWork}

pub stopped_at_work : StoppedAtWork
unfolding next_free
stopped_at_work = refl
