-- `reader::messages::message` meets its contract: the table is the one of the rule. Assumes nothing.
use mathlib.Core.Path.{◌∙◌, ap}
use Rattle.message.specs.Class.{class_in}
use Rattle.message.proofs.ClassTable.{table_is}
use Rattle.reader.proofs.Seven.{classes_same}
use Rattle.reader.proofs.messages.message.Goals as goal

pub returns : goal.returns
returns c = c.message_with.ensures ∙ classes_same _ _ (ap class_in c.table-table.ensures ∙ table_is)
