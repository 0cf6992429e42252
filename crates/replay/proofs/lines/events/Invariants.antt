-- The lines of the events so far are written, and no event has more than 84 bytes.
use Rattle.std.proofs.Common.{◌≡◌, ◌*◌, ◌≤◌, length, take}
use Rattle.replay.specs.Lines.{event_lines}
use Rattle.replay.proofs.lines.events.Given as goal

abbrev pub invariant-loop-event : goal.invariant-loop-event
invariant-loop-event l =
    record { room : length l.line ≤ 84 * l.event-index; written : l.line ≡ event_lines l.call (take l.event-index l.event-items) }
