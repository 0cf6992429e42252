-- `framing::cutting::tail` meets its contract. The invariant of its loop: no more than the first bytes still to be tried end the piece. Assumes nothing.
use Prim.Native.Nat.{◌-◌}
use mathlib.Core.Path.{sym, ◌∙◌}
use native.Mathlib.Omega.{arith}
use lib.ListN.{length}
use Rattle.framing.proofs.Borders.{above_next, above_found, above_none}
use Rattle.framing.proofs.Pieces.{tail_stands}
use Rattle.framing.proofs.cutting.tail.Goals as goal

pub returns-then-part_stands : goal.returns-then-part_stands
returns-then-part_stands c =
    let a = c.args in
    let tried = c.loop-tried.tried - 1 in
    above_found (length a.boundary.now) a.boundary.now a.piece.now tried c.loop-tried.invariant (omega arith)
    (sym (tail_stands a.boundary.now a.piece.now tried (omega arith) (omega arith)) ∙ sym c.part_stands.ensures ∙ c.if-part_stands.true)

pub loop-tried-preserved : goal.loop-tried-preserved
loop-tried-preserved c =
    let a = c.args in
    let tried = c.loop-tried.tried - 1 in
    above_next (length a.boundary.now) a.boundary.now a.piece.now tried c.loop-tried.invariant
    (sym (tail_stands a.boundary.now a.piece.now tried (omega arith) (omega arith)) ∙ sym c.part_stands.ensures ∙ c.if-part_stands.false)

pub returns : goal.returns
returns c =
    let a = c.args in
    above_none (length a.boundary.now) a.boundary.now a.piece.now (c.loop-tried.tried - 1) c.loop-tried.invariant (omega arith) (omega arith)
