-- The three fields of the line have room (`texts`, `Fields`).
use Rattle.std.proofs.Common.{arith, ◌∙◌, append_assoc, ap, List, ℕ, ◌++◌}
use Rattle.message.specs.Words.{codes}
use Rattle.texts.specs.Fields.{space, line_end, field, decimal}
use Rattle.texts.proofs.Fields.{holds_nothing, holds_text, holds_number}
use Rattle.replay.specs.Lines.{end_line}
use Rattle.replay.proofs.lines.end.Goals as goal

pub returns : goal.returns
unfolding end_line
returns c =
    let count = c.args.session.pushes.count in
    let word = holds_text 4096 (holds_nothing c.clear.ensures) space 3 (codes "end") c.put.ensures (omega arith) (omega arith) in
    let name = holds_text 4096 word space 10 c.name.result.now c.put-2.ensures c.name.ensures.within (omega arith) in
    (holds_number 4096 name line_end count (omega arith) c.put_number.ensures (omega arith)).is
    ∙ ap (λ (w : List ℕ). (field (codes "end") space ++ field w space) ++ field (decimal count) line_end) c.name.ensures.named
    ∙ simp append_assoc
