-- Phase by phase (`Turns`).
use Rattle.std.proofs.Common.{ap, ◌∙◌}
use Rattle.replay.specs.Runs.{next_line}
use Rattle.replay.proofs.Turns.{taken_ready}
use Rattle.replay.proofs.take_line.Goals as goal

pub returns-in-Settling : goal.returns-in-Settling
returns-in-Settling g c =
    let a = c.args in
    c.next_line.ensures ∙ ap next_line c.set_line.ensures
    ∙ taken_ready a.before a.line a.bytes.now c.ready-run.ensures c.in-Settling.is

pub returns-in-Running : goal.returns-in-Running
returns-in-Running g c =
    let a = c.args in
    c.next_line-in-Running.ensures ∙ ap next_line c.run_line.ensures
    ∙ taken_ready a.before a.line a.bytes.now c.ready-run.ensures c.in-Running.is

pub returns-in-Refused : goal.returns-in-Refused
returns-in-Refused g c =
    let a = c.args in
    taken_ready a.before a.line a.bytes.now c.ready-run.ensures c.in-Refused.is
