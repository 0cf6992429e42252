-- `session::writing::Written::say` meets its contract, by the law on a store behind the events. Assumes nothing.
use Rattle.std.proofs.Common.{ap, ◌∙◌, arith}
use Rattle.session.specs.Rows.{rows_of}
use Rattle.session.specs.Written.{Draft, said_in}
use Rattle.session.proofs.Rows.{listed_count, event_stored, listed_stored}
use Rattle.session.proofs.writing.Written.say.Goals as goal

pub bounds-self-inside-self-inside : goal.bounds-self-inside-self-inside
bounds-self-inside-self-inside c =
    let w = c.self.inside in
    let room = rw (← c.self.view_is) at c.requires in
    omega (arith, listed_count w.events c.self.invariant.1)

pub invariant_of-self : goal.invariant_of-self
invariant_of-self c =
    let room = rw (← c.self.view_is) at c.requires in
    (c.self.invariant.0, listed_stored c.self.inside.events c.args.e c.self.invariant.1 room)

pub returns : goal.returns
returns c =
    let w = c.self.inside in
    let room = rw (← c.self.view_is) at c.requires in
    ap {B = Draft} (λ events. record { pushes = rows_of w.table; events = events; last = w.last }) (event_stored w.events c.args.e c.self.invariant.1 room)
    ∙ ap (λ (d : Draft). said_in d c.args.e) c.self.view_is
