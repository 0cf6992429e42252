-- `reader::messages::advisory` meets its contract: the one child element, the first AdvisoryType in it, and the value in its start tag if it is there. Assumes nothing.
use mathlib.Core.Path.{sym, ◌∙◌, ap}
use Rattle.message.proofs.Laws.{went, stopped}
use Rattle.message.proofs.Said.{said_is}
use Rattle.message.specs.Messages.{number_value}
use Rattle.reader.proofs.Seven.{handed_on, child_refused, child_is, value_is, typed_none, typed_some, typed_again}
use Rattle.reader.proofs.messages.advisory.Goals as goal

pub returns-in_err-e : goal.returns-in_err-e
returns-in_err-e c = λ root so held. handed_on _ _ c.from_residual.ensures.1 ∙ child_refused _ _ _ root so held _ _ (said_is c.only_child.ensures c.in_err-e.was)

pub returns-then-typed-eq0 : goal.returns-then-typed-eq0
returns-then-typed-eq0 c = λ root so held.
    let x = child_is _ _ _ root so held _ _ (said_is c.only_child.ensures c.in_ok-e.was) in
    rw c.refused.ensures (stopped _ (typed_none _ _ 29 x.child.inside x.inner (sym x.nested ∙ c.if-typed-eq0.true)) ∙ went _ x.only)

pub returns : goal.returns
returns c = λ root so held.
    let x = child_is _ _ _ root so held _ _ (said_is c.only_child.ensures c.in_ok-e.was) in
    let y = typed_some _ _ 29 x.child.inside x.inner (λ z. c.if-typed-eq0.false (x.nested ∙ z)) in
    rw (c.bare.ensures, c.number_if_there.ensures ∙ ap (number_value _ _) (value_is _ _ _ x.child.tag x.end), c.type_value.ensures y.element (typed_again _ _ 29 x.child.inside y _ x.nested)) (went _ y.first ∙ went _ x.only)
