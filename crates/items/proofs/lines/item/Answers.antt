-- The five fields of the line have room (`texts`, `Fields`).
use Rattle.std.proofs.Common.{arith, ◌∙◌, append_assoc}
use Rattle.texts.specs.Fields.{space, line_end}
use Rattle.texts.proofs.Fields.{holds_nothing, holds_text, holds_number}
use Rattle.items.specs.Texts.{most_line}
use Rattle.items.specs.Lines.{counted, item_line}
use Rattle.items.proofs.lines.item.Goals as goal

pub returns : goal.returns
unfolding item_line
returns c =
    let a = c.args in
    let count = c.put_count.ensures in
    let of_number = holds_number most_line (holds_nothing c.clear.ensures) space a.number (omega arith) c.put_number.ensures (omega arith) in
    let of_bytes = holds_text most_line of_number space 20 (counted a.bytes) count.written count.within (omega arith) in
    let of_kind = holds_text most_line of_bytes space 19 a.kind.now c.put.ensures (omega arith) (omega arith) in
    let of_refusal = holds_number most_line of_kind space a.refusal (omega arith) (rw c.from.ensures at c.put_number-2.ensures) (omega arith) in
    (holds_number most_line of_refusal line_end a.place (omega arith) c.put_number-3.ensures (omega arith)).is ∙ simp append_assoc
