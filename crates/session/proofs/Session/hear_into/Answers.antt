-- `session::Session::hear_into` meets its contract: the list has room for what is told of the bytes. Assumes nothing.
use Rattle.session.specs.Answers.{call_of_bytes}
use Rattle.session.proofs.Passing.{has_room}
use Rattle.session.proofs.Session.hear_into.Goals as goal

pub said_in-requires : goal.said_in-requires
said_in-requires c = has_room c.args.list.now c.args.self (call_of_bytes c.args.message.now) c.hear-heard.result c.hear-heard.ensures
