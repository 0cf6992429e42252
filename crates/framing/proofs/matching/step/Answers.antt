-- `framing::matching::step` meets its contract. The invariant of its loop: no more than the first bytes still to be tried end the matched bytes and then `byte`.
-- Assumes nothing.
use Prim.Native.Nat.{suc, ◌-◌}
use mathlib.Core.Path.{sym, ◌∙◌}
use mathlib.Core.List.{[], ◌∷◌, ◌++◌}
use native.Mathlib.Omega.{arith}
use lib.ListN.{length, take}
use Rattle.framing.proofs.Borders.{above_first, above_next, above_found, above_none}
use Rattle.framing.proofs.matching.step.Goals as goal

pub loop-tried-init : goal.loop-tried-init
loop-tried-init c = above_first _ _ _ _ c.requires (omega arith)

pub returns-then-ends : goal.returns-then-ends
returns-then-ends c =
    let a = c.args in
    above_found (suc (length a.boundary.now)) a.boundary.now (take a.matched a.boundary.now ++ (a.byte ∷ [])) (c.loop-tried.tried - 1) c.loop-tried.invariant (omega arith)
    (sym c.ends.ensures ∙ c.if-ends.true)

pub loop-tried-preserved : goal.loop-tried-preserved
loop-tried-preserved c =
    let a = c.args in
    above_next (suc (length a.boundary.now)) a.boundary.now (take a.matched a.boundary.now ++ (a.byte ∷ [])) (c.loop-tried.tried - 1) c.loop-tried.invariant
    (sym c.ends.ensures ∙ c.if-ends.false)

pub returns : goal.returns
returns c =
    let a = c.args in
    above_none (suc (length a.boundary.now)) a.boundary.now (take a.matched a.boundary.now ++ (a.byte ∷ [])) (c.loop-tried.tried - 1) c.loop-tried.invariant (omega arith) (omega arith)
