-- `session::writing::Written::sweep` meets its contract: each push more has room, and becomes what its fate says. Assumes nothing.
use Rattle.session.proofs.Sweeping.{room_kept, room_said}
use Rattle.session.proofs.writing.Written.sweep.Goals as goal

pub keep-requires : goal.keep-requires
keep-requires c = room_kept _ _ _ _ _ _ c.loop-p.invariant c.loop-p-test.true c.requires.rows_bound c.requires.nothing_kept

pub keep-requires-in-Again : goal.keep-requires-in-Again
keep-requires-in-Again c = room_kept _ _ _ _ _ _ c.loop-p.invariant c.loop-p-test.true c.requires.rows_bound c.requires.nothing_kept

pub say-requires : goal.say-requires
say-requires c =
    rw c.keep-in-Again.ensures (room_said _ _ _ _ _ _ c.loop-p.invariant c.loop-p-test.true c.requires.rows_bound c.requires.events_bound)

pub say-requires-in-Close : goal.say-requires-in-Close
say-requires-in-Close c = room_said _ _ _ _ _ _ c.loop-p.invariant c.loop-p-test.true c.requires.rows_bound c.requires.events_bound
