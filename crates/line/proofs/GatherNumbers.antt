-- THEOREM `gather_numbers_written`: what the list holds after a call of `ali_gather` that is not refused. Assumes nothing.
use Rattle.line.specs.Gather.{gather_refusal, gather_list}
use Rattle.line.specs.Promises.{GatherNumbersWritten}

pub gather_numbers_written : GatherNumbersWritten
unfolding gather_refusal gather_list
gather_numbers_written b s p g m a accepted = rw accepted
