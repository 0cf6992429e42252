-- `scan::names::short` meets its contract: a run does not end before it begins. Assumes nothing.
use Rattle.message.proofs.Laws.{ends_from}
use Rattle.scan.proofs.names.short.Goals as goal

pub overflow_sub-end : goal.overflow_sub-end
overflow_sub-end c = rw c.name_end-end.ensures (ends_from _ _ _)
