-- `session::Session::told` meets its contract, which is that of `calls::told`. (The prover needs no such file; with it a wrong version is refused here, whatever
-- is refused below.) Assumes nothing.
use Rattle.session.proofs.Session.told.Goals as goal

pub returns : goal.returns
returns c = c.told.ensures
