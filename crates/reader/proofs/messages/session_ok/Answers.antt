-- `reader::messages::session_ok` meets its contract: the value that it needs is looked for in the root's start tag. Assumes nothing.
use mathlib.Core.Path.{◌∙◌}
use Rattle.reader.proofs.Seven.{handed_on, root_end, value_missing, value_there}
use Rattle.reader.proofs.messages.session_ok.Goals as goal

pub returns-in_err-value : goal.returns-in_err-value
returns-in_err-value c = λ root so held. handed_on _ _ c.from_residual.ensures.1 ∙ value_missing _ _ _ root.tag (c.name_end.ensures ∙ root_end _ _ _ root so held) _ c.needed.ensures _ c.in_err-value.was

pub returns : goal.returns
returns c = λ root so held. rw (c.bare.ensures, c.number_value.ensures) (value_there _ _ _ root.tag (c.name_end.ensures ∙ root_end _ _ _ root so held) _ c.needed.ensures _ c.in_ok-value.was)
