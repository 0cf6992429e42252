-- The test behind 27 at work, which antt computes. Assumes nothing.
use mathlib.Core.Path.{refl}
use Rattle.conduct.specs.AtWorkRefusals.{SoundAtWork}

pub sound_at_work : SoundAtWork
sound_at_work = (refl, refl)
