-- `text::runs::text` meets its contract: behind the plain text at each place that the loop comes to, what is left to read gives what was asked for at the start. Assumes nothing.
use mathlib.Core.Path.{refl, sym, subst⁻¹, ◌∙◌}
use native.Mathlib.Omega.{arith}
use Rattle.message.proofs.Laws.{went, cond_true, cond_false, ends_after}
use Rattle.message.proofs.Said.{said_is, exited}
use Rattle.message.proofs.Progress.{beyond_plain_on}
use Rattle.message.proofs.Loops.{Left, left_first, left_on, left_done, texts}
use Rattle.text.proofs.runs.text.Goals as goal

pub loop-at-init : goal.loop-at-init
loop-at-init c = left_first (texts _ _) _ refl

pub returns-then-is_at : goal.returns-then-is_at
returns-then-is_at c =
    let left = subst⁻¹ (Left (texts _ _) _) c.plain_end-stop.ensures c.loop-at.invariant in
    left_done (texts _ _) (λ next. cond_true _ (sym c.is_at.ensures ∙ c.if-is_at.true)) left

pub returns-in_err-i : goal.returns-in_err-i
returns-in_err-i c =
    let left = subst⁻¹ (Left (texts _ _) _) c.plain_end-stop.ensures c.loop-at.invariant in
    left_done (texts _ _) (λ next.
    exited next c.from_residual.result c.beyond_plain.ensures c.in_err-i.was c.from_residual.ensures.1 ∙ cond_false _ (sym c.is_at.ensures ∙ c.if-is_at.false)) left

pub loop-at-smaller : goal.loop-at-smaller
loop-at-smaller c =
    omega (arith, beyond_plain_on _ _ _ _ (said_is c.beyond_plain.ensures c.in_ok-i.was), ends_after _ _ _ c.plain_end-stop.ensures)

pub loop-at-preserved : goal.loop-at-preserved
loop-at-preserved c =
    let read = said_is c.beyond_plain.ensures c.in_ok-i.was in
    let left = subst⁻¹ (Left (texts _ _) _) c.plain_end-stop.ensures c.loop-at.invariant in
    left_on (texts _ _) _ refl (beyond_plain_on _ _ _ _ read).0
    (λ next. went next read ∙ cond_false _ (sym c.is_at.ensures ∙ c.if-is_at.false)) left
