-- `line::reading::write_message` meets its contract: the parts are written one behind the other (`ReadCases`). Assumes nothing.
use mathlib.Core.Path.{◌∙◌}
use Rattle.line.proofs.ReadCases.{message_written}
use Rattle.line.proofs.reading.write_message.Goals as goal

pub returns : goal.returns
returns c =
    let a = c.args in
    message_written a.message a.list.now c.from-2.result c.from-status.result c.from-advice.result (c.from-2.ensures ∙ c.from.ensures) c.from-status.ensures
    c.from-advice.ensures c.write.ensures c.write_value.ensures c.write_number.ensures c.write_number-2.ensures c.write_number-3.ensures c.write_value-2.ensures
