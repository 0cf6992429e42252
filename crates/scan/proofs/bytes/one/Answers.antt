-- `scan::bytes::one` meets its contract: where the test passes, a byte stands there, and the next place is the answer. Assumes nothing.
use mathlib.Core.Path.{sym, ap, ◌∙◌}
use native.Mathlib.Omega.{arith}
use Rattle.message.specs.Reading.{said}
use Rattle.message.proofs.Laws.{one_yes, one_no}
use Rattle.scan.proofs.bytes.one.Goals as goal

pub overflow_add-result : goal.overflow_add-result
overflow_add-result g c = omega (arith, c.has.ensures.0 c.if-has.true)

pub returns-then-has : goal.returns-then-has
returns-then-has g c = λ f computes. sym (one_yes f _ _ (sym (c.has.ensures.1 f computes) ∙ c.if-has.true))

pub returns-else-has : goal.returns-else-has
returns-else-has g c = λ f computes. ap said c.refused.ensures ∙ sym (one_no f _ _ (sym (c.has.ensures.1 f computes) ∙ c.if-has.false))
