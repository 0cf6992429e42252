-- `scan::bytes::ends` meets its contract: from each place that the loop comes to, the run ends where it ends from the first. Assumes nothing.
use mathlib.Core.Path.{sym, ◌∙◌}
use native.Mathlib.Omega.{arith}
use Rattle.message.proofs.Laws.{ends_more, ends_stop}
use Rattle.scan.proofs.bytes.ends.Goals as goal

pub overflow_add-i : goal.overflow_add-i
overflow_add-i g c = omega (arith, c.has.ensures.0 c.loop-i-test.true)

pub loop-i-smaller : goal.loop-i-smaller
loop-i-smaller g c = omega (arith, c.has.ensures.0 c.loop-i-test.true)

pub loop-i-preserved : goal.loop-i-preserved
loop-i-preserved g c = λ f computes.
    sym (ends_more f _ _ (sym (c.has.ensures.1 f computes) ∙ c.loop-i-test.true)) ∙ c.loop-i.invariant f computes

pub returns : goal.returns
returns g c = λ f computes.
    sym (ends_stop f _ _ (sym (c.has.ensures.1 f computes) ∙ c.loop-i-test.false)) ∙ c.loop-i.invariant f computes
