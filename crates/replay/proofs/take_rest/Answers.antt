-- By the count of the bytes that wait (`Turns`).
use Rattle.std.proofs.Common.{arith, ap, ◌∙◌, take}
use Rattle.replay.specs.declared.script.Line.{Line}
use Rattle.replay.specs.Runs.{taken}
use Rattle.replay.proofs.Words.{word_within}
use Rattle.replay.proofs.Turns.{nothing_waits, too_much_waits, a_line_waits}
use Rattle.replay.proofs.take_rest.Goals as goal

pub returns-then-held-eq0 : goal.returns-then-held-eq0
returns-then-held-eq0 g c =
    let a = c.args in
    nothing_waits a.held.run a.store.now a.held.gathered c.if-held-eq0.true

pub returns-then-held-gt-LINK_LIMIT : goal.returns-then-held-gt-LINK_LIMIT
returns-then-held-gt-LINK_LIMIT g c =
    let a = c.args in
    c.take_line.ensures ∙ too_much_waits a.held.run a.store.now a.held.gathered (omega arith) c.if-held-gt-LINK_LIMIT.true

pub take_line-requires-2 : goal.take_line-requires-2
take_line-requires-2 g c =
    let a = c.args in
    rw c.line_of.ensures (word_within (take a.held.gathered a.store.now))

pub returns : goal.returns
returns g c =
    let a = c.args in
    let bytes = take a.held.gathered a.store.now in
    c.take_line-2.ensures ∙ ap (λ (l : Line). (taken a.held.run l bytes).run) c.line_of.ensures
    ∙ a_line_waits a.held.run a.store.now a.held.gathered (omega arith) c.if-held-eq0.false c.if-held-gt-LINK_LIMIT.false
