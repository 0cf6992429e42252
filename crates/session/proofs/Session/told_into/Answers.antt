-- `session::Session::told_into` meets its contract: the list has room for what is told. Assumes nothing.
use Rattle.session.proofs.Passing.{has_room}
use Rattle.session.proofs.Session.told_into.Goals as goal

pub said_in-requires : goal.said_in-requires
said_in-requires c = has_room c.args.list.now c.args.self c.args.call c.told-told.result c.told-told.ensures
