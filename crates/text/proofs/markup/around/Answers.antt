-- `text::markup::around` meets its contract: from each place that the loop comes to, with fuel that is enough, the specification gives what it gave at
-- the start. Assumes nothing.
use mathlib.Core.Path.{sym, ap, ◌∙◌}
use Rattle.message.specs.Reading.{said}
use Rattle.message.proofs.Laws.{went, cond_true, cond_false}
use Rattle.message.proofs.Said.{said_is, exited}
use Rattle.message.proofs.Loops.{left_first, left_on, left_done}
use Rattle.message.proofs.MarkupLoop.{around as loop, around_less, bang_on}
use Rattle.text.proofs.markup.around.Goals as goal

pub loop-stop-init : goal.loop-stop-init
loop-stop-init c = left_first (loop _ _) _ c.blanks-stop.ensures

pub returns-in_err-next : goal.returns-in_err-next
returns-in_err-next c =
    left_done (loop _ _) (λ next. exited next c.from_residual.result c.bang.ensures c.in_err-next.was c.from_residual.ensures.1 ∙ cond_true _ (sym c.opens_at.ensures ∙ c.loop-stop-test.true)) c.loop-stop.invariant

pub loop-stop-smaller : goal.loop-stop-smaller
loop-stop-smaller c = around_less _ _ _ _ _ (said_is c.bang.ensures c.in_ok-next.was) c.blanks-stop-in-loop-stop.ensures

pub loop-stop-preserved : goal.loop-stop-preserved
loop-stop-preserved c =
    let read = said_is c.bang.ensures c.in_ok-next.was in
    left_on (loop _ _) _ c.blanks-stop-in-loop-stop.ensures (bang_on _ _ read).0
    (λ next. went next read ∙ cond_true _ (sym c.opens_at.ensures ∙ c.loop-stop-test.true)) c.loop-stop.invariant

pub returns-then-opens_at : goal.returns-then-opens_at
returns-then-opens_at c = ap said c.refused.ensures
    ∙ left_done (loop _ _) (λ next. cond_true _ (sym c.opens_at-2.ensures ∙ c.if-opens_at.true) ∙ cond_false _ (sym c.opens_at.ensures ∙ c.loop-stop-test.false)) c.loop-stop.invariant

pub returns : goal.returns
returns c = left_done (loop _ _) (λ next. cond_false _ (sym c.opens_at-2.ensures ∙ c.if-opens_at.false) ∙ cond_false _ (sym c.opens_at.ensures ∙ c.loop-stop-test.false)) c.loop-stop.invariant
