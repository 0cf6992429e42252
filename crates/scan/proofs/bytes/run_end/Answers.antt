-- `scan::bytes::run_end` meets its contract: the bytes that pass stand in the message. Assumes nothing.
use native.Mathlib.Omega.{arith}
use Rattle.message.proofs.Laws.{up_in}
use Rattle.scan.proofs.bytes.run_end.Goals as goal

pub overflow_add-i : goal.overflow_add-i
overflow_add-i c = omega (arith, up_in _ _ _ _ c.few-n.ensures)
