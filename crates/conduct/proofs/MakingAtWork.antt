-- Making a session at work, which antt computes. Assumes nothing.
use mathlib.Core.Path.{refl}
use Rattle.conduct.specs.AtWorkRefusals.{MakingAtWork}

pub making_at_work : MakingAtWork
making_at_work = refl
