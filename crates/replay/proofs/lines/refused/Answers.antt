-- The three fields of the line have room (`texts`, `Fields`).
use Rattle.std.proofs.Common.{arith, ◌∙◌, append_assoc}
use Rattle.message.specs.Words.{codes}
use Rattle.texts.specs.Fields.{space, line_end}
use Rattle.texts.proofs.Fields.{holds_nothing, holds_text, holds_number}
use Rattle.replay.specs.Lines.{refused_line}
use Rattle.replay.proofs.lines.refused.Goals as goal

pub returns : goal.returns
unfolding refused_line
returns c =
    let call = holds_number 4096 (holds_nothing c.clear.ensures) space c.args.call (omega arith) c.put_number.ensures (omega arith) in
    let word = holds_text 4096 call space 7 (codes "refused") c.put.ensures (omega arith) (omega arith) in
    (holds_number 4096 word line_end c.args.refusal (omega arith) (rw c.from.ensures at c.put_number-2.ensures) (omega arith)).is ∙ simp append_assoc
