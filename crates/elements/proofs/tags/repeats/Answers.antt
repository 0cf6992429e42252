-- `elements::tags::repeats` meets its contract: bytes that are the same at both places are repeated. Assumes nothing.
use mathlib.Core.Path.{◌∙◌}
use native.Mathlib.Omega.{arith}
use Rattle.elements.proofs.Repeats.{repeats_behind, repeats_long, repeats_same}
use Rattle.elements.proofs.tags.repeats.Goals as goal

pub returns-then-s-at : goal.returns-then-s-at
returns-then-s-at c =
    let a = c.args in
    repeats_behind a.s.now a.b a.e a.at c.requires.e_in_bounds c.if-s-at.true

pub returns-then-s-at-2 : goal.returns-then-s-at-2
returns-then-s-at-2 c =
    let a = c.args in
    repeats_long a.s.now a.b a.e a.at c.requires.e_in_bounds (omega arith) (omega arith)

pub returns-then-n-lt8 : goal.returns-then-n-lt8
returns-then-n-lt8 c =
    let a = c.args in
    c.few_stand.ensures ∙ repeats_same a.s.now a.b a.e a.at c.requires.e_in_bounds c.requires.b_le_e (omega arith)

pub returns : goal.returns
returns c =
    let a = c.args in
    c.many_stand.ensures ∙ repeats_same a.s.now a.b a.e a.at c.requires.e_in_bounds c.requires.b_le_e (omega arith)
