-- The rules of Opening at work, which antt computes. Assumes nothing.
use mathlib.Core.Path.{refl}
use Rattle.conduct.specs.Numbers.{next_free}
use Rattle.conduct.specs.AtWorkStates.{OpeningAtWork}

pub opening_at_work : OpeningAtWork
unfolding next_free
opening_at_work = refl
