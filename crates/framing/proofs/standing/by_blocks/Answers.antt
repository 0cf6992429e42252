-- `framing::standing::by_blocks` meets its contract. The invariant of its loop: the boundary stands at no place below i. A block that is not worth a closer look has
-- none (`block_free`), and of one that is, `one_by_one` says so. Assumes nothing.
use Prim.Native.Nat.{◌+◌}
use mathlib.Core.Path.{◌≡◌, sym, ◌∙◌}
use native.Mathlib.Omega.{arith}
use Rattle.framing.specs.Standing.{block_places}
use Rattle.framing.proofs.Stands.{First, none_on, block_free, first_is, first_has, first_nowhere}
use Rattle.framing.proofs.standing.by_blocks.Goals as goal

pub returns-then-place-i : goal.returns-then-place-i
returns-then-place-i c =
    let a = c.args in
    let b = a.boundary.now in
    let p = a.piece.now in
    let at-loop = c.loop-i in
    let at = c.min-at in
    let found = c.one_by_one-place in
    let first : First b p at.result (at.result + block_places) found.result = rw found.ensures (first_has b p at.result (at.result + block_places) (omega arith)) in
    first_is b p 0 a.end found.result
    (record {
      low = omega arith;
      high = omega (arith, at.ensures);
      none = none_on b p 0 at-loop.i at.result found.result (omega (arith, at.ensures)) at-loop.invariant.1 first.none;
      there = λ below. first.there c.if-place-i.true;
    })

pub loop-i-preserved-else-place-i : goal.loop-i-preserved-else-place-i
loop-i-preserved-else-place-i c =
    let a = c.args in
    let b = a.boundary.now in
    let p = a.piece.now in
    let at-loop = c.loop-i in
    let at = c.min-at in
    let found = c.one_by_one-place in
    let first : First b p at.result (at.result + block_places) found.result = rw found.ensures (first_has b p at.result (at.result + block_places) (omega arith)) in (
      omega (arith, at.ensures),
      none_on b p 0 at-loop.i at.result (at.result + block_places) (omega (arith, at.ensures)) at-loop.invariant.1
          (first_nowhere b p at.result (at.result + block_places) found.result first c.if-place-i.false),
    )

pub loop-i-preserved : goal.loop-i-preserved
loop-i-preserved c =
    let a = c.args in
    let b = a.boundary.now in
    let p = a.piece.now in
    let at-loop = c.loop-i in
    let at = c.min-at in (
      omega (arith, at.ensures),
      none_on b p 0 at-loop.i at.result (at.result + block_places) (omega (arith, at.ensures)) at-loop.invariant.1
          (block_free b p at.result (omega arith) (sym c.may_stand.ensures ∙ c.if-may_stand.false)),
    )

pub returns : goal.returns
returns c =
    let a = c.args in
    let at-loop = c.loop-i in
    let all : at-loop.i ≡ a.end = omega arith in
    first_is a.boundary.now a.piece.now 0 a.end a.end
    (record { low = omega arith; high = omega arith; none = rw all at at-loop.invariant.1; there = λ below. absurd (omega arith) })
