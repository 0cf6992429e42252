-- The three fields of the line have room (`texts`, `Fields`).
use Rattle.std.proofs.Common.{arith, ◌∙◌, append_assoc}
use Rattle.message.specs.Words.{codes}
use Rattle.texts.specs.Fields.{space, line_end}
use Rattle.texts.proofs.Fields.{holds_nothing, holds_text, holds_number}
use Rattle.replay.specs.Lines.{bad_line}
use Rattle.replay.proofs.lines.bad.Goals as goal

pub returns : goal.returns
unfolding bad_line
returns c =
    let word = holds_text 4096 (holds_nothing c.clear.ensures) space 4 (codes "line") c.put.ensures (omega arith) (omega arith) in
    let number = holds_number 4096 word space c.args.number (omega arith) c.put_number.ensures (omega arith) in
    (holds_text 4096 number line_end 3 (codes "bad") c.put-2.ensures (omega arith) (omega arith)).is ∙ simp append_assoc
