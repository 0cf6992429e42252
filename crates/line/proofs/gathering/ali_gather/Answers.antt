-- `line::gathering::ali_gather` meets its contract: each `return` is one of `Cases`.
-- Assumes nothing.
use borrow.Author.Tests.{lt-ltb, le-ltb}
use mathlib.Core.Path.{refl, ◌∙◌}
use Rattle.framing.specs.Cutting.{taken_said}
use Rattle.line.proofs.Cases.{list_short, call_answered}
use Rattle.line.proofs.gathering.ali_gather.Goals as goal

pub returns-then-answer-lt-PLACES : goal.returns-then-answer-lt-PLACES
returns-then-answer-lt-PLACES c =
    let a = c.args in
    let short = list_short a.boundary.now a.store.now a.piece.now a.gathered a.matched a.answer.now (lt-ltb _ _ c.if-answer-lt-PLACES.true) in
    record { number = short.0; store = short.1.0; list = short.1.1 }

pub returns : goal.returns
returns c =
    let a = c.args in
    let said =
    call_answered a.boundary.now a.store.now a.piece.now a.gathered a.matched a.answer.now
    (le-ltb _ _ c.if-answer-lt-PLACES.false)
    (taken_said c.in-Ok.call) c.in-Ok.ensures.answer c.gather.new.store c.gather.ensures.store refl in
    record { number = said.0; store = said.1.0; list = rw (c.from.ensures, c.length.ensures) at c.write.ensures ∙ said.1.1 }
