-- Both fields of the line have room (`texts`, `Fields`).
use Rattle.std.proofs.Common.{arith}
use Rattle.message.specs.Words.{codes}
use Rattle.texts.specs.Fields.{space, line_end}
use Rattle.texts.proofs.Fields.{holds_nothing, holds_text, holds_number}
use Rattle.replay.specs.Lines.{stop_line}
use Rattle.replay.proofs.lines.stop.Goals as goal

pub returns : goal.returns
unfolding stop_line
returns c =
    let word = holds_text 4096 (holds_nothing c.clear.ensures) space 4 (codes "stop") c.put.ensures (omega arith) (omega arith) in
    (holds_number 4096 word line_end c.args.refusal (omega arith) (rw c.from.ensures at c.put_number.ensures) (omega arith)).is
