-- `framing::matching::ends` meets its contract: the last byte, and then the boundary against itself. Assumes nothing.
use mathlib.Core.Path.{◌∙◌}
use borrow.Author.Tests.{ne_eqb}
use Rattle.framing.proofs.Borders.{last_differs, last_same}
use Rattle.framing.proofs.matching.ends.Goals as goal

pub returns-then-boundary-last : goal.returns-then-boundary-last
returns-then-boundary-last c =
    let a = c.args in
    c.part_stands.ensures ∙ last_same a.boundary.now a.matched a.byte a.tried c.requires.matched_in_bounds c.requires.tried_in_bounds c.if-boundary-last.true

pub returns-else-boundary-last : goal.returns-else-boundary-last
returns-else-boundary-last c =
    let a = c.args in
    ne_eqb _ _ c.if-boundary-last.false
    ∙ last_differs a.boundary.now a.matched a.byte a.tried c.requires.matched_in_bounds c.requires.tried_in_bounds c.if-boundary-last.false
