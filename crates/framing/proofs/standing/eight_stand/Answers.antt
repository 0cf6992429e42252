-- `framing::standing::eight_stand` meets its contract. The invariant of its loop: `same` says whether the first i of the eight are. Assumes nothing.
use mathlib.Core.Path.{sym}
use native.Mathlib.Omega.{arith}
use Rattle.laws.proofs.Same.{same_none, same_more}
use Rattle.framing.proofs.standing.eight_stand.Goals as goal

pub loop-i-init : goal.loop-i-init
loop-i-init c = sym (same_none _ _ _ _)

pub loop-i-preserved : goal.loop-i-preserved
loop-i-preserved c =
    let a = c.args in
    let at-loop = c.loop-i in
    same_more a.boundary.now a.from a.piece.now a.at at-loop.i at-loop.same (omega arith) (omega arith) at-loop.invariant
