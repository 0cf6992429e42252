-- `text::runs::comment` meets its contract: at each stop that the loop comes to, what is left to read gives what was asked for at the start. Assumes nothing.
use mathlib.Core.Path.{sym, ◌∙◌}
use native.Mathlib.Omega.{arith}
use Rattle.message.proofs.Laws.{went, cond_true, cond_false, ends_after, hyphens_lt}
use Rattle.message.proofs.Said.{said_is, exited}
use Rattle.message.proofs.Progress.{beyond_note_on}
use Rattle.message.proofs.Loops.{left_first, left_on, left_done, comments}
use Rattle.text.proofs.runs.comment.Goals as goal

pub loop-stop-init : goal.loop-stop-init
loop-stop-init c = left_first (comments _ _) _ c.plain_note_end-stop.ensures

pub returns-in_err-next : goal.returns-in_err-next
returns-in_err-next c =
    left_done (comments _ _) (λ next. exited next c.from_residual.result c.beyond_note.ensures c.in_err-next.was c.from_residual.ensures.1 ∙ cond_false _ (sym c.hyphens_at.ensures ∙ c.loop-stop-test.true)) c.loop-stop.invariant

pub loop-stop-smaller : goal.loop-stop-smaller
loop-stop-smaller c = omega (arith, beyond_note_on _ _ _ (said_is c.beyond_note.ensures c.in_ok-next.was), ends_after _ _ _ c.plain_note_end-stop-in-loop-stop.ensures)

pub loop-stop-preserved : goal.loop-stop-preserved
loop-stop-preserved c =
    let read = said_is c.beyond_note.ensures c.in_ok-next.was in
    left_on (comments _ _) _ c.plain_note_end-stop-in-loop-stop.ensures (beyond_note_on _ _ _ read).0
    (λ next. went next read ∙ cond_false _ (sym c.hyphens_at.ensures ∙ c.loop-stop-test.true)) c.loop-stop.invariant

pub overflow_add-stop : goal.overflow_add-stop
overflow_add-stop c = omega (arith, hyphens_lt _ _ (sym c.hyphens_at.ensures ∙ c.loop-stop-test.false))

pub returns : goal.returns
returns c = c.byte.ensures ∙ left_done (comments _ _) (λ next. cond_true _ (sym c.hyphens_at.ensures ∙ c.loop-stop-test.false)) c.loop-stop.invariant
