-- `reader::messages::request` meets its contract: the one child element, and the value that is needed in its start tag. Assumes nothing.
use mathlib.Core.Path.{◌∙◌}
use Rattle.message.proofs.Laws.{went}
use Rattle.message.proofs.Said.{said_is}
use Rattle.reader.proofs.Seven.{handed_on, child_refused, child_is, value_missing, value_there}
use Rattle.reader.proofs.messages.request.Goals as goal

pub returns-in_err-e : goal.returns-in_err-e
returns-in_err-e c = λ root so held. handed_on _ _ c.from_residual.ensures.1 ∙ child_refused _ _ _ root so held _ _ (said_is c.only_child.ensures c.in_err-e.was)

pub returns-in_err-value : goal.returns-in_err-value
returns-in_err-value c = λ root so held.
    let x = child_is _ _ _ root so held _ _ (said_is c.only_child.ensures c.in_ok-e.was) in
    handed_on _ _ c.from_residual-in_err-value.ensures.1 ∙ value_missing _ _ _ x.child.tag x.end _ c.needed.ensures _ c.in_err-value.was ∙ went _ x.only

pub returns : goal.returns
returns c = λ root so held.
    let x = child_is _ _ _ root so held _ _ (said_is c.only_child.ensures c.in_ok-e.was) in
    rw (c.bare.ensures, c.number_value.ensures) (value_there _ _ _ x.child.tag x.end _ c.needed.ensures _ c.in_ok-value.was ∙ went _ x.only)
