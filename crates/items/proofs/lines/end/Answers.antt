-- Both fields of the line have room (`texts`, `Fields`).
use Rattle.std.proofs.Common.{arith}
use Rattle.texts.specs.Fields.{space, line_end}
use Rattle.texts.proofs.Fields.{holds_nothing, holds_text, holds_number}
use Rattle.items.specs.Texts.{end_word, most_line}
use Rattle.items.specs.Lines.{end_line}
use Rattle.items.proofs.lines.end.Goals as goal

pub returns : goal.returns
unfolding end_line
returns c =
    let word = holds_text most_line (holds_nothing c.new-line.ensures) space 3 end_word c.put.ensures (omega arith) (omega arith) in
    (holds_number most_line word line_end c.args.waiting (omega arith) (rw c.from.ensures at c.put_number.ensures) (omega arith)).is
