-- `elements::content::element` meets its contract. The levels that are left fall where it calls itself. The loop keeps, from each place that it comes to and with what it holds on to by then, what the definition gives from the start of the content. Assumes nothing.
use mathlib.Core.Path.{sym, ◌∙◌, ap}
use native.Mathlib.Omega.{arith}
use Rattle.std.proofs.lemmas.Result.{err_from_is_err_and}
use Rattle.message.specs.Reading.Reading.{whole}
use Rattle.message.proofs.Said.{said_is}
use Rattle.message.proofs.Laws.{went, stopped}
use Rattle.message.specs.Limits.{link_limits}
use Rattle.elements.specs.Seen.{seen}
use Rattle.elements.specs.declared.Inside.{Inside}
use Rattle.elements.proofs.EndTags.{name_stands}
use Rattle.message.proofs.Facts.{start_starts}
use Rattle.message.proofs.Trees.{free_whole}
use Rattle.elements.proofs.ContentLoop.{inside_same, content_first, content_refused, content_closed, content_child_refused, content_child, seen_on, emptied_is, element_none, element_some, element_asked, started_is}
use Rattle.elements.proofs.content.+element.Goals as goal

pub returns-then-depth-eq0 : goal.returns-then-depth-eq0
returns-then-depth-eq0 t c = c.too_deep.ensures ∙ ap (seen _) (element_none _ _ _ _ c.if-depth-eq0.true)

pub returns-in_err-start : goal.returns-in_err-start
returns-in_err-start t c =
    let p = err_from_is_err_and c.from_residual.result c.from_residual.ensures.1 in
    rw (p.1, p.2) (ap (seen _) (stopped _ (started_is c.start_tag.ensures c.in_err-start.was) ∙ element_some _ _ _ _ c.if-depth-eq0.false))

pub returns-then-start : goal.returns-then-start
returns-then-start t c =
    ap whole c.emptied.ensures ∙ emptied_is _ _ _ _ c.if-start.true ∙ ap (seen _) (went _ (started_is c.start_tag.ensures c.in_ok-start.was) ∙ element_some _ _ _ _ c.if-depth-eq0.false)

pub loop-stop-init : goal.loop-stop-init
loop-stop-init t c =
    let d = c.default-inside.ensures in
    (omega (arith, d.0), content_first _ _ _ _ (inside_same d.0 d.1.0 d.1.1.0 d.1.1.1))

pub returns-in_err-stop : goal.returns-in_err-stop
returns-in_err-stop t c =
    let p = err_from_is_err_and c.from_residual-in_err-stop.result c.from_residual-in_err-stop.ensures.1 in
    rw (p.1, p.2) (content_refused _ _ _ _ _ _ (said_is c.free.ensures c.in_err-stop.was) c.loop-stop.invariant.1
    ∙ element_asked _ _ _ _ _ c.if-depth-eq0.false (started_is c.start_tag.ensures c.in_ok-start.was) c.if-start.false)

pub returns-then-is_at : goal.returns-then-is_at
returns-then-is_at t c =
    content_closed _ _ _ _ _ _ (said_is c.free.ensures c.in_ok-stop.was) (sym c.is_at.ensures ∙ c.if-is_at.true) c.close.ensures c.loop-stop.invariant.1
    ∙ element_asked _ _ _ _ _ c.if-depth-eq0.false (started_is c.start_tag.ensures c.in_ok-start.was) c.if-start.false

pub returns-in_err-child : goal.returns-in_err-child
returns-in_err-child t c =
    let p = err_from_is_err_and c.from_residual-in_err-child.result c.from_residual-in_err-child.ensures.1 in
    rw (p.1, p.2) (content_child_refused _ _ _ _ _ _ (said_is c.free.ensures c.in_ok-stop.was) (sym c.is_at.ensures ∙ c.if-is_at.false) (said_is c.element.ensures c.in_err-child.was) c.loop-stop.invariant.1
    ∙ element_asked _ _ _ _ _ c.if-depth-eq0.false (started_is c.start_tag.ensures c.in_ok-start.was) c.if-start.false)

pub loop-stop-preserved : goal.loop-stop-preserved
loop-stop-preserved t c =
    let read = said_is c.free.ensures c.in_ok-stop.was in
    let child = said_is c.element.ensures c.in_ok-child.was in (
      omega (arith, c.loop-stop.invariant.0, free_whole _ c.args.s.now _ _ read, seen_on _ c.args.s.now _ _ _ child, ap (λ (x : Inside). x.children) c.note-inside.ensures),
      content_child _ _ _ _ _ _ read _ _ (sym c.is_at.ensures ∙ c.if-is_at.false) child c.note-inside.ensures (omega (arith, free_whole _ c.args.s.now _ _ read, seen_on _ c.args.s.now _ _ _ child)) c.loop-stop.invariant.1,
    )

pub close-requires-clause-name_stands : goal.close-requires-clause-name_stands
close-requires-clause-name_stands t c = name_stands _ _ _ _ (start_starts _ _ link_limits _ _ (started_is c.start_tag.ensures c.in_ok-start.was)).named
