-- `reader::messages::message_with` meets its contract: the document, the kind by the name of its root, and the message of that kind. Assumes nothing.
use mathlib.Core.Path.{◌∙◌}
use Rattle.message.proofs.Said.{said_is}
use Rattle.reader.proofs.Seven.{handed_on, read_root, message_refused, message_unknown, message_known}
use Rattle.reader.proofs.messages.message_with.Goals as goal

pub returns-in_err-root : goal.returns-in_err-root
returns-in_err-root c = handed_on _ _ c.from_residual.ensures.1 ∙ message_refused _ _ _ (said_is c.document.ensures c.in_err-root.was)

pub returns-in_err-kind : goal.returns-in_err-kind
returns-in_err-kind c = handed_on _ _ c.from_residual-in_err-kind.ensures.1 ∙ message_unknown _ _ _ _ (read_root _ _ _ _ (said_is c.document.ensures c.in_ok-root.was)) (said_is c.root_kind.ensures c.in_err-kind.was)

pub returns : goal.returns
returns c =
    let x = read_root _ _ _ _ (said_is c.document.ensures c.in_ok-root.was) in
    message_known _ _ _ _ x _ (said_is c.root_kind.ensures c.in_ok-kind.was) (c.of_kind.ensures x.root x.reads x.held_is)
