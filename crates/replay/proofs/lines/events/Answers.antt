-- Before each turn the lines of the events so far are written (`Written`).
use Rattle.std.proofs.Common.{arith, ap, ◌∙◌, length, take}
use lib.ListN.{length-take}
use lib.Seq.{take_all}
use native.Mathlib.Nat.{min-le_left}
use Rattle.session.specs.Rows.{list_of}
use Rattle.replay.specs.Lines.{event_lines}
use Rattle.replay.proofs.Written.{lines_next}
use Rattle.replay.proofs.lines.events.Goals as goal

pub put_event-requires : goal.put_event-requires
put_event-requires c =
    let e = c.args.events in
    omega (arith, length-take e.count e.list, min-le_left e.count (length e.list), c.loop-event.invariant.room)

pub loop-event-preserved : goal.loop-event-preserved
loop-event-preserved c =
    let l = c.loop-event in
    let e = c.args.events in
    let said = c.put_event.ensures in
    record {
      room = omega (arith, said.ends, l.invariant.room);
      written = said.written ∙ lines_next c.args.call (take e.count e.list) l.event-index c.loop-event-test.true l.invariant.written;
    }

pub returns : goal.returns
unfolding list_of
returns c =
    let l = c.loop-event in
    let e = c.args.events in
    l.invariant.written
    ∙ ap (event_lines c.args.call) (take_all l.event-index (take e.count e.list) c.loop-event-test.false)
