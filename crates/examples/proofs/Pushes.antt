-- What becomes of pushes, which antt computes. Assumes nothing.
use mathlib.Core.Path.{refl}
use Rattle.conduct.specs.Numbers.{next_free}
use Rattle.examples.proofs.Rows.{Row}

pub pushes_closed : Row 10 × Row 11 × Row 12
unfolding next_free
pushes_closed = (refl, refl, refl)
