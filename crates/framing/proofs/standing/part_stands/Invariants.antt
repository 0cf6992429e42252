-- `framing::standing::part_stands` meets its contract. The invariant of its loop: the bytes at each place below i are the same. Assumes nothing.
use Prim.Native.Nat.{ℕ, ◌+◌, ◌<◌}
use mathlib.Core.Path.{◌≡◌}
use lib.ListN.{get_or}
use Rattle.framing.proofs.standing.part_stands.Given as goal

abbrev pub invariant-loop-i : goal.invariant-loop-i
invariant-loop-i l = (y : ℕ) → y < l.i → get_or l.piece (l.at + y) 0 ≡ get_or l.boundary y 0
