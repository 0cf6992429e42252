-- `line::reading::ali_read` meets its contract: each `return` is one of `ReadCases`. Assumes nothing.
use mathlib.Core.Path.{sym, ap, ◌∙◌}
use borrow.Author.Tests.{lt-ltb, le-ltb}
use Rattle.message.specs.Reading.{said}
use Rattle.line.specs.Read.{read_numbers}
use Rattle.line.proofs.ReadCases.{read_short, read_answered}
use Rattle.line.proofs.reading.ali_read.Goals as goal

pub returns-then-answer-lt-PLACES : goal.returns-then-answer-lt-PLACES
returns-then-answer-lt-PLACES c =
    let short = read_short c.args.message.now c.args.answer.now (lt-ltb _ _ c.if-answer-lt-PLACES.true) in
    record { number = short.0; list = short.1 }

pub returns-in-Ok : goal.returns-in-Ok
unfolding read_numbers
returns-in-Ok c =
    let answered = read_answered c.args.message.now c.args.answer.now _ (le-ltb _ _ c.if-answer-lt-PLACES.false) (sym (ap said c.in-Ok.is) ∙ c.read.ensures) c.write_message.ensures in
    record { number = answered.0; list = answered.1 }

pub returns-in-Err : goal.returns-in-Err
unfolding read_numbers
returns-in-Err c =
    let answered = read_answered c.args.message.now c.args.answer.now _ (le-ltb _ _ c.if-answer-lt-PLACES.false) (sym (ap said c.in-Err.is) ∙ c.read.ensures) c.write_refusal.ensures in
    record { number = answered.0; list = answered.1 }
