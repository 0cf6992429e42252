-- `framing::standing::pair_in` meets its contract. The invariant of its loop: `found` says whether the pair stands at one of the block's first i places.
-- Assumes nothing.
use Prim.Native.Nat.{◌+◌}
use mathlib.Core.Path.{refl}
use Rattle.framing.specs.Standing.{pair_at, some_below}
use Rattle.framing.proofs.Stands.{some_more}
use Rattle.framing.proofs.standing.pair_in.Goals as goal

pub loop-i-init : goal.loop-i-init
unfolding some_below
loop-i-init c = refl

pub loop-i-preserved : goal.loop-i-preserved
loop-i-preserved c =
    let a = c.args in
    some_more (λ d. pair_at a.boundary.now a.place a.piece.now (a.at + d)) c.loop-i.i c.loop-i.found c.loop-i.invariant
