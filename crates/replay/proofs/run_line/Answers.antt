-- The events of a call have room, and a message stands behind its word (`Turns`).
use Rattle.std.proofs.Common.{◌-◌, length, take, drop}
use Rattle.session.specs.Answers.{call_of_bytes}
use Rattle.replay.specs.Runs.{ran}
use Rattle.replay.proofs.Turns.{events_fit, called_run, heard_run}
use Rattle.replay.proofs.run_line.Goals as goal

pub run_call-requires : goal.run_call-requires
run_call-requires g c = events_fit c.args.run.session c.in-Other.call c.told.ensures

pub slice_bounds-hear-count : goal.slice_bounds-hear-count
slice_bounds-hear-count g c = rw c.in-Message.is at c.requires

pub run_call-requires-in-Message : goal.run_call-requires-in-Message
run_call-requires-in-Message g c =
    let bytes = c.args.bytes.now in
    events_fit c.args.run.session (call_of_bytes (take (length bytes - 8) (drop 8 bytes))) c.hear.ensures

pub returns-in-Other : goal.returns-in-Other
unfolding ran
returns-in-Other g c = rw c.in-Other.is (called_run c.args.run c.in-Other.call c.told.ensures c.run_call.ensures)

pub returns-in-Message : goal.returns-in-Message
unfolding ran
returns-in-Message g c = rw c.in-Message.is (heard_run c.args.run c.args.bytes.now c.hear.ensures c.run_call-in-Message.ensures)
