-- `reader::messages::response` meets its contract: the one child element, and the value in its start tag if it is there. Assumes nothing.
use mathlib.Core.Path.{◌∙◌, ap}
use Rattle.message.proofs.Laws.{went}
use Rattle.message.proofs.Said.{said_is}
use Rattle.message.specs.Messages.{number_value}
use Rattle.reader.proofs.Seven.{handed_on, child_refused, child_is, value_is}
use Rattle.reader.proofs.messages.response.Goals as goal

pub returns-in_err-e : goal.returns-in_err-e
returns-in_err-e c = λ root so held. handed_on _ _ c.from_residual.ensures.1 ∙ child_refused _ _ _ root so held _ _ (said_is c.only_child.ensures c.in_err-e.was)

pub returns : goal.returns
returns c = λ root so held.
    let x = child_is _ _ _ root so held _ _ (said_is c.only_child.ensures c.in_ok-e.was) in
    rw (c.bare.ensures, c.number_if_there.ensures ∙ ap (number_value _ _) (value_is _ _ _ x.child.tag x.end)) (went _ x.only)
