-- By the answer: an accepted call has refusal 0, and a refused one another.
use Rattle.replay.specs.Lines.{answer_lines}
use Rattle.replay.proofs.Turns.{refused_by_a_number}
use Rattle.replay.proofs.lines.answer.Goals as goal

pub returns-in-Ok : goal.returns-in-Ok
unfolding answer_lines
returns-in-Ok c = rw c.in-Ok.is c.events.ensures

pub returns-in-Err : goal.returns-in-Err
unfolding answer_lines
returns-in-Err c = rw (c.in-Err.is, refused_by_a_number c.in-Err.refusal, ← c.from.ensures) c.refused.ensures
