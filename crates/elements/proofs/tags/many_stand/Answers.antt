-- `elements::tags::many_stand` meets its contract. The invariant of its loop: the first k bytes are the same. Assumes nothing.
use Prim.Native.Nat.{◌+◌, ◌-◌}
use mathlib.Core.Path.{◌≡◌, sym, ◌∙◌}
use borrow.Author.Rules.{rules}
use native.Mathlib.Omega.{arith}
use Rattle.laws.proofs.Same.{same_none, other_part, same_joined}
use Rattle.elements.proofs.tags.many_stand.Goals as goal

pub loop-k-init : goal.loop-k-init
loop-k-init c = (search rules, same_none _ _ _ _)

pub returns-then-not-eight_stand : goal.returns-then-not-eight_stand
returns-then-not-eight_stand c =
    let a = c.args in
    let s = a.s.now in
    let off = sym c.eight_stand.ensures ∙ c.if-not-eight_stand.true in
    sym (other_part s a.b s a.at c.loop-k.k 8 (omega arith) (omega arith) a.n (omega arith) off)

pub loop-k-preserved : goal.loop-k-preserved
loop-k-preserved c =
    let a = c.args in
    let s = a.s.now in
    let at-loop = c.loop-k in
    let on = sym c.eight_stand.ensures ∙ c.if-not-eight_stand.false in
    (search rules, sym (same_joined s a.b s a.at at-loop.k 8 (omega arith) (omega arith) at-loop.k (omega arith) at-loop.invariant.1) ∙ on)

pub returns : goal.returns
returns c =
    let a = c.args in
    let s = a.s.now in
    let at-loop = c.loop-k in
    let all : a.n - 8 + 8 ≡ a.n = omega arith in
    c.eight_stand-2.ensures ∙ rw all at (same_joined s a.b s a.at (a.n - 8) 8 (omega arith) (omega arith) at-loop.k (omega arith) at-loop.invariant.1)
