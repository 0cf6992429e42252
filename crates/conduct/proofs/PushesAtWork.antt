-- The rules of pushes at work, which antt computes. Assumes nothing.
use mathlib.Core.Path.{refl}
use Rattle.conduct.specs.Numbers.{next_free}
use Rattle.conduct.specs.AtWorkPushes.{PushesAtWork}

pub pushes_at_work : PushesAtWork
unfolding next_free
pushes_at_work = refl
