-- What values mean at work, which antt computes. Assumes nothing.
use mathlib.Core.Path.{refl}
use Rattle.conduct.specs.Numbers.{next_free}
use Rattle.conduct.specs.AtWorkMessages.{ValuesAtWork}

pub values_at_work : ValuesAtWork
unfolding next_free
values_at_work = refl
