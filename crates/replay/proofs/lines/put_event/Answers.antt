-- The four fields of the event have room (`texts`, `Fields`).
use Rattle.std.proofs.Common.{arith, ◌∙◌, append_assoc, length, ap}
use Rattle.texts.specs.Fields.{space, line_end}
use Rattle.texts.proofs.Fields.{holds_itself, holds_number}
use Rattle.replay.specs.Lines.{event_line}
use Rattle.replay.proofs.lines.put_event.Goals as goal

pub returns : goal.returns
unfolding event_line
returns c =
    let e = c.args.e in
    let pre = c.requires in
    let call = holds_number 4096 (holds_itself c.args.line.now) space c.args.call (omega arith) c.put_number.ensures (omega arith) in
    let code = holds_number 4096 call space e.code (omega arith) (rw c.from.ensures at c.put_number-2.ensures) (omega arith) in
    let number = holds_number 4096 code space e.number (omega arith) (rw c.from-2.ensures at c.put_number-3.ensures) (omega arith) in
    let all = holds_number 4096 number line_end e.detail (omega arith) (rw c.from-3.ensures at c.put_number-4.ensures) (omega arith) in
    record { written = all.is ∙ simp append_assoc; ends = omega (arith, ap length all.is, all.short) }
