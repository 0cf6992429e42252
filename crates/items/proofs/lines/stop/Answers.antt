-- Both fields of the line have room (`texts`, `Fields`).
use Rattle.std.proofs.Common.{arith}
use Rattle.texts.specs.Fields.{space, line_end}
use Rattle.texts.proofs.Fields.{holds_nothing, holds_text, holds_number}
use Rattle.items.specs.Texts.{stop_word, most_line}
use Rattle.items.specs.Lines.{stop_line}
use Rattle.items.proofs.lines.stop.Goals as goal

pub returns : goal.returns
unfolding stop_line
returns c =
    let word = holds_text most_line (holds_nothing c.new-line.ensures) space 4 stop_word c.put.ensures (omega arith) (omega arith) in
    (holds_number most_line word line_end 1 (omega arith) c.put_number.ensures (omega arith)).is
