-- What becomes of one push whatever its counts, which antt computes. Assumes nothing.
use mathlib.Core.Path.{refl}
use Rattle.conduct.specs.AtWorkResends.{FatesAtWork}

pub fates_at_work : FatesAtWork
fates_at_work = (refl, refl, refl)
