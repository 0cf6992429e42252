-- The heartbeat's rules at work, which antt computes. Assumes nothing.
use mathlib.Core.Path.{refl}
use Rattle.conduct.specs.Numbers.{next_free}
use Rattle.conduct.specs.AtWorkStates.{HeartbeatAtWork}

pub heartbeat_at_work : HeartbeatAtWork
unfolding next_free
heartbeat_at_work = refl
