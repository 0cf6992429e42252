-- `framing::standing::one_by_one` meets its contract. The invariant of its loop: the boundary stands at none of the places from `from` on and below `at`. Assumes nothing.
use mathlib.Core.Path.{◌≡◌, sym, ◌∙◌}
use native.Mathlib.Omega.{arith}
use Rattle.framing.proofs.Stands.{first_is}
use Rattle.framing.proofs.standing.one_by_one.Goals as goal

pub returns-then-stands : goal.returns-then-stands
returns-then-stands c =
    let a = c.args in
    let at-loop = c.loop-at in
    first_is a.boundary.now a.piece.now a.from a.end at-loop.at
    (record { low = omega arith; high = omega arith; none = at-loop.invariant; there = λ below. sym c.stands.ensures ∙ c.if-stands.true })

pub returns : goal.returns
returns c =
    let a = c.args in
    let at-loop = c.loop-at in
    let all : at-loop.at ≡ a.end = omega arith in
    first_is a.boundary.now a.piece.now a.from a.end a.end
    (record { low = omega arith; high = omega arith; none = rw all at at-loop.invariant; there = λ below. absurd (omega arith) })
