-- The line is that of the reader's answer.
use Rattle.std.proofs.Common.{ap, sym, ◌∙◌, length, List, ℕ}
use Rattle.message.specs.Reading.{said}
use Rattle.texts.specs.Fields.{decimal}
use Rattle.items.specs.Texts.{dash}
use Rattle.items.specs.Lines.{answer_line, item_line, message_line}
use Rattle.items.proofs.lines.message.Goals as goal

pub returns-in-Ok : goal.returns-in-Ok
unfolding message_line
returns-in-Ok c =
    let a = c.args in
    let size = length a.message.now in
    c.item.ensures
    ∙ ap (λ (w : List ℕ). item_line a.number (decimal size) w 0 0) c.name.ensures.named
    ∙ ap (answer_line a.number size) (sym (ap said c.in-Ok.is) ∙ c.read.ensures)

pub returns-in-Err : goal.returns-in-Err
unfolding message_line
returns-in-Err c =
    let a = c.args in
    let size = length a.message.now in
    c.item-in-Err.ensures
    ∙ ap (λ (n : ℕ). item_line a.number (decimal size) dash n c.in-Err.refusal.place) c.from.ensures
    ∙ ap (answer_line a.number size) (sym (ap said c.in-Err.is) ∙ c.read.ensures)
