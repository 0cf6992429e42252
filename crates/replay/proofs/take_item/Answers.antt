-- A line is as long as the framing says, and a message has the bytes of its word (`Words`).
use Rattle.std.proofs.Common.{ap, ◌∙◌, take}
use Rattle.replay.specs.declared.script.Line.{Line}
use Rattle.replay.specs.Runs.{taken}
use Rattle.replay.specs.Turns.{taken_after}
use Rattle.replay.proofs.Words.{word_within}
use Rattle.replay.proofs.take_item.Goals as goal

pub take_line-requires-in-Message : goal.take_line-requires-in-Message
take_line-requires-in-Message g c = rw c.line_of.ensures (word_within (take c.in-Message.length c.args.store.now))

pub returns-in-Message : goal.returns-in-Message
unfolding taken_after
returns-in-Message g c =
    let a = c.args in
    let bytes = take c.in-Message.length a.store.now in
    rw c.in-Message.is (c.take_line-in-Message.ensures ∙ ap (λ (l : Line). (taken a.run l bytes).run) c.line_of.ensures)

-- an edit of the packs that is refused here changes a callee too, and no goal without an answer is tried then
pub returns-in-TooLong : goal.returns-in-TooLong
unfolding taken_after
returns-in-TooLong g c = rw c.in-TooLong.is c.take_line-in-TooLong.ensures
