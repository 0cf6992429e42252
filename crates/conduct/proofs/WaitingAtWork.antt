-- The rules of Waiting and Connecting at work, which antt computes. Assumes nothing.
use mathlib.Core.Path.{refl}
use Rattle.conduct.specs.Numbers.{next_free}
use Rattle.conduct.specs.AtWorkStates.{WaitingAtWork}

pub waiting_at_work : WaitingAtWork
unfolding next_free
waiting_at_work = refl
