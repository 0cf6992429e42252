-- The table of kinds and states at work, which antt computes. Assumes nothing.
use mathlib.Core.Path.{refl}
use Rattle.conduct.specs.Numbers.{next_free}
use Rattle.conduct.specs.AtWorkMessages.{TableAtWork}

pub table_at_work : TableAtWork
unfolding next_free
table_at_work = refl
