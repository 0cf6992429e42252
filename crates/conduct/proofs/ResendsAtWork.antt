-- The resends at work, which antt computes. Assumes nothing.
use mathlib.Core.Path.{refl}
use Rattle.conduct.specs.Numbers.{next_free}
use Rattle.conduct.specs.AtWorkResends.{ResendsAtWork}

pub resends_at_work : ResendsAtWork
unfolding next_free
resends_at_work = refl
