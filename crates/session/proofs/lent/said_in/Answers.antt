-- `session::lent::said_in` meets its contract: a refused call leaves the list. Assumes nothing.
use Rattle.std.proofs.lemmas.Result.{err_from_is_err_and}
use Rattle.session.proofs.Passing.{refused_in_list}
use Rattle.session.proofs.lent.said_in.Goals as goal

pub returns-in_err-accepted : goal.returns-in_err-accepted
returns-in_err-accepted c =
    let p = err_from_is_err_and c.from_residual.result c.from_residual.ensures.1 in
    rw (p.1, p.2, c.in_err-accepted.was) (λ d. refused_in_list d _ c.args.list.now)
