-- `framing::standing::pair_in` meets its contract. The invariant of its loop: `found` says whether the pair stands at one of the block's first i places.
-- Assumes nothing.
use Prim.Native.Nat.{◌+◌}
use mathlib.Core.Path.{◌≡◌}
use Rattle.framing.specs.Standing.{pair_at, some_below}
use Rattle.framing.proofs.standing.pair_in.Given as goal

abbrev pub invariant-loop-i : goal.invariant-loop-i
invariant-loop-i l = l.found ≡ some_below (λ d. pair_at l.boundary l.place l.piece (l.at + d)) l.i
