-- `elements::content::free_by_turns` meets its contract: from each place that the loop comes to, with fuel that is enough, the definition gives what it gave at the start. Assumes nothing.
use mathlib.Core.Path.{refl, sym, ◌∙◌}
use native.Mathlib.Omega.{arith}
use Rattle.std.proofs.lemmas.Result.{err_from_is_err_and}
use Rattle.message.proofs.Said.{said_is, handed}
use Rattle.message.proofs.Laws.{went, cond_true, cond_false}
use Rattle.message.proofs.Loops.{left_first, left_on, left_done}
use Rattle.message.proofs.MarkupLoop.{bang_on}
use Rattle.message.proofs.Trees.{text_whole}
use Rattle.elements.proofs.FreeLoop.{frees}
use Rattle.elements.proofs.content.free_by_turns.Goals as goal

pub loop-stop-init : goal.loop-stop-init
loop-stop-init c = left_first (frees _ _) _ refl

pub returns-in_err-stop : goal.returns-in_err-stop
returns-in_err-stop c =
    let p = err_from_is_err_and c.from_residual.result c.from_residual.ensures.1 in
    rw (p.1, p.2) (left_done (frees _ _) (λ next. handed _ c.text.ensures c.in_err-stop.was) c.loop-stop.invariant)

pub returns-in_err-i : goal.returns-in_err-i
returns-in_err-i c =
    let p = err_from_is_err_and c.from_residual-in_err-i.result c.from_residual-in_err-i.ensures.1 in
    rw (p.1, p.2) (left_done (frees _ _) (λ next.
    handed next c.bang.ensures c.in_err-i.was ∙ cond_true _ (sym c.is_at.ensures ∙ c.if-is_at.true) ∙ went _ (said_is c.text.ensures c.in_ok-stop.was)) c.loop-stop.invariant)

pub returns-then-is_at-2 : goal.returns-then-is_at-2
returns-then-is_at-2 c =
    rw c.refused.ensures (left_done (frees _ _) (λ next.
    cond_true _ (sym c.is_at-else-is_at.ensures ∙ c.if-is_at-2.true)
    ∙ cond_false _ (sym c.is_at.ensures ∙ c.if-is_at.false)
    ∙ went _ (said_is c.text.ensures c.in_ok-stop.was)) c.loop-stop.invariant)

pub returns-else-is_at-2 : goal.returns-else-is_at-2
returns-else-is_at-2 c =
    left_done (frees _ _) (λ next.
    cond_false _ (sym c.is_at-else-is_at.ensures ∙ c.if-is_at-2.false)
    ∙ cond_false _ (sym c.is_at.ensures ∙ c.if-is_at.false)
    ∙ went _ (said_is c.text.ensures c.in_ok-stop.was)) c.loop-stop.invariant

pub loop-stop-preserved : goal.loop-stop-preserved
loop-stop-preserved c =
    left_on (frees _ _) _ refl
    (omega (arith, text_whole _ c.args.s.now _ _ (said_is c.text.ensures c.in_ok-stop.was), bang_on _ c.args.s.now (said_is c.bang.ensures c.in_ok-i.was)))
    (λ next.
    went next (said_is c.bang.ensures c.in_ok-i.was)
    ∙ cond_true _ (sym c.is_at.ensures ∙ c.if-is_at.true)
    ∙ went _ (said_is c.text.ensures c.in_ok-stop.was)) c.loop-stop.invariant
