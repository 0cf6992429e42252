-- The order in a tick at work, which antt computes. Assumes nothing.
use mathlib.Core.Path.{refl}
use Rattle.conduct.specs.Numbers.{next_free}
use Rattle.conduct.specs.AtWorkPushes.{TickOrderAtWork}

pub tick_order_at_work : TickOrderAtWork
unfolding next_free
tick_order_at_work = refl
