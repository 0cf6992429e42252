-- `framing::standing::by_blocks` meets its contract. The invariant of its loop: the boundary stands at no place below i. A block that is not worth a closer look has
-- none (`block_free`), and of one that is, `one_by_one` says so. Assumes nothing.
use Prim.Native.Nat.{◌-◌, ◌≤◌}
use Rattle.framing.proofs.Stands.{NoneFrom}
use Rattle.framing.proofs.standing.by_blocks.Given as goal

abbrev pub invariant-loop-i : goal.invariant-loop-i
invariant-loop-i l = (l.i ≤ l.end) × NoneFrom l.boundary l.piece 0 l.i

abbrev pub decreases-loop-i : goal.decreases-loop-i
decreases-loop-i l = l.end - l.i
