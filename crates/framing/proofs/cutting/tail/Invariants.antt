-- `framing::cutting::tail` meets its contract. The invariant of its loop: no more than the first bytes still to be tried end the piece. Assumes nothing.
use Prim.Native.Nat.{◌-◌}
use lib.ListN.{length}
use Rattle.framing.proofs.Borders.{NoneAbove}
use Rattle.framing.proofs.cutting.tail.Given as goal

abbrev pub invariant-loop-tried : goal.invariant-loop-tried
invariant-loop-tried l = NoneAbove (length l.boundary) l.boundary l.piece (l.tried - 1)
