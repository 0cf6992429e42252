-- `framing::cutting::cut_piece` meets its contract. Where a match is held, the item ends within the piece's first bytes, or the match is forgotten after them.
-- Assumes nothing.
use Prim.Native.Nat.{◌-◌}
use mathlib.Core.Path.{◌∙◌}
use native.Mathlib.Omega.{arith}
use lib.ListN.{length}
use Rattle.framing.proofs.Pieces.{seam_ended, seam_nowhere}
use Rattle.framing.proofs.cutting.cut_piece.Goals as goal

pub returns-then-is_none : goal.returns-then-is_none
returns-then-is_none c =
    let b = c.args.boundary.now in
    let p = c.args.piece.now in
    let cut = c.scan-cut in
    cut.ensures ∙ seam_ended b p c.args.held (omega arith) (length b - 1) (omega arith) (rw cut.ensures at c.if-is_none.ensures)

pub returns : goal.returns
returns c = grind (arith, seam_nowhere)
