-- `scan::names::name` meets its contract: each place that the loop comes to is further on, and in the message. Assumes nothing.
use mathlib.Core.Path.{sym, ◌∙◌}
use native.Mathlib.Omega.{arith}
use Rattle.message.specs.Class.{class_in}
use Rattle.message.proofs.Said.{said_is}
use Rattle.message.proofs.Laws.{has_lt}
use Rattle.message.proofs.Trees.{part_on}
use Rattle.scan.proofs.names.name.Goals as goal
use Rattle.scan.proofs.names.name.Invariants.{first}

pub loop-end-init : goal.loop-end-init
loop-end-init c = first _ _ _ _

pub overflow_add-local : goal.overflow_add-local
overflow_add-local c = omega (arith, has_lt _ _ _ (sym c.is_at.ensures ∙ c.if-not-is_at.false))

pub loop-end-smaller : goal.loop-end-smaller
loop-end-smaller c =
    let a = c.args in
    omega (arith, part_on (class_in a.table.now) a.s.now a.most (said_is c.part.ensures c.in_ok-end.was))
