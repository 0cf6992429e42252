-- `elements::tags::few_stand` meets its contract. The invariant of its loop: the bytes at each place below i are the same. Assumes nothing.
use mathlib.Core.Path.{sym}
use native.Mathlib.Omega.{arith}
use Rattle.laws.proofs.Same.{all_same, one_other}
use Rattle.elements.proofs.tags.few_stand.Goals as goal

pub returns-then-s-at : goal.returns-then-s-at
returns-then-s-at c =
    let a = c.args in
    sym (one_other a.s.now a.b a.s.now a.at a.n c.loop-i.i (omega arith) c.if-s-at.true)

pub returns : goal.returns
returns c =
    let a = c.args in
    sym (all_same a.s.now a.b a.s.now a.at a.n (omega arith) (omega arith) (λ y below. c.loop-i.invariant y (omega arith)))
