-- `framing::cutting::cut_free` meets its contract: an item ends behind the first place at which the boundary stands, or nowhere in the piece. Assumes nothing.
use Prim.Native.Nat.{◌+◌, ◌-◌}
use native.Mathlib.Omega.{arith}
use lib.ListN.{length}
use Rattle.framing.proofs.Stands.{First, first_has}
use Rattle.framing.proofs.Pieces.{cut_found, cut_nowhere}
use Rattle.framing.proofs.cutting.cut_free.Goals as goal

pub returns-then-place-end : goal.returns-then-place-end
returns-then-place-end c =
    let b = c.args.boundary.now in
    let p = c.args.piece.now in
    let place = c.first_place-place in
    let first : First b p 0 (length p - length b + 1) place.result = rw place.ensures (first_has b p 0 (length p - length b + 1) (omega arith)) in
    cut_found b p (omega arith) (omega arith) place.result first c.if-place-end.true

pub returns-else-place-end : goal.returns-else-place-end
returns-else-place-end c =
    let b = c.args.boundary.now in
    let p = c.args.piece.now in
    let place = c.first_place-place in
    let first : First b p 0 (length p - length b + 1) place.result = rw place.ensures (first_has b p 0 (length p - length b + 1) (omega arith)) in
    rw c.tail.ensures (cut_nowhere b p (omega arith) (omega arith) place.result first c.if-place-end.false)
