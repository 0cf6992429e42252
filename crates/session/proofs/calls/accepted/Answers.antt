-- `session::calls::accepted` meets its contract: the table has room for the push that the call opens. Assumes nothing.
use Rattle.std.proofs.Common.{ap, length, arith}
use Rattle.conduct.specs.declared.Move.{Move}
use Rattle.conduct.specs.Step.{opens}
use Rattle.session.specs.Record.{session_of}
use Rattle.session.proofs.Rows.{unmapped, rows_count}
use Rattle.session.proofs.Records.{count_fits, sound_session, room_opens}
use Rattle.session.proofs.calls.accepted.Goals as goal

pub perform-requires : goal.perform-requires
perform-requires c =
    let d = c.args.s.now in
    let size = rows_count d.pushes (search unmapped) (count_fits d c.requires.s_value) in
    let room = room_opens (session_of d) c.args.call (sound_session d c.requires.s_value) c.requires.call_value in
    let moved = rw c.of-holding.ensures at c.move_of.ensures in
    rw c.of-holding.ensures (omega (arith, ap (λ (m : Move). length (opens 0 m.remark)) moved))
