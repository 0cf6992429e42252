-- `session::writing::Written::keep` meets its contract, by the law on a store behind the rows. Assumes nothing.
use Rattle.std.proofs.Common.{ap, ◌∙◌, arith}
use Rattle.session.specs.Rows.{list_of}
use Rattle.session.specs.Written.{Draft, kept_in}
use Rattle.session.proofs.Rows.{packed_count, row_stored, packed_stored}
use Rattle.session.proofs.writing.Written.keep.Goals as goal

pub bounds-self-inside-self-inside : goal.bounds-self-inside-self-inside
bounds-self-inside-self-inside c =
    let w = c.self.inside in
    let room = rw (← c.self.view_is) at c.requires in
    omega (arith, packed_count w.table c.self.invariant.0)

pub invariant_of-self : goal.invariant_of-self
invariant_of-self c =
    let room = rw (← c.self.view_is) at c.requires in
    (packed_stored c.self.inside.table c.args.p c.self.invariant.0 room, c.self.invariant.1)

pub returns : goal.returns
returns c =
    let w = c.self.inside in
    let room = rw (← c.self.view_is) at c.requires in
    ap {B = Draft} (λ rows. record { pushes = rows; events = list_of w.events; last = w.last }) (row_stored w.table c.args.p c.self.invariant.0 room)
    ∙ ap (λ (d : Draft). kept_in d c.args.p) c.self.view_is
