-- A turn hands on what the framing and the line answer (`Calls`).
use Rattle.std.proofs.Common.{arith, ap}
use Rattle.framing.specs.Cutting.{Answer, link_limit, item_length}
use Rattle.framing.proofs.Bounds.{answer_short, taken_within}
use Rattle.items.proofs.Calls.{turn_is, line_is, refused_turn_is, refused_line_is}
use Rattle.items.proofs.turns.next.Goals as goal

pub item_line-requires : goal.item_line-requires
item_line-requires c =
    let a = c.args in
    let cut = a.held.cut in
    let short = answer_short link_limit a.boundary.now a.store.now a.piece.now cut.gathered cut.matched in
    omega (arith, short, ap (λ (x : Answer). item_length x.item) c.in-Ok.ensures.answer)

pub returns-clause-within : goal.returns-clause-within
returns-clause-within c =
    let a = c.args in
    let cut = a.held.cut in
    let within = taken_within link_limit a.boundary.now a.store.now a.piece.now cut.gathered cut.matched in
    omega (arith, within, ap (λ (x : Answer). x.taken) c.in-Ok.ensures.answer)

pub returns-clause-turned : goal.returns-clause-turned
returns-clause-turned c =
    let a = c.args in
    turn_is a.boundary.now a.store.now a.piece.now a.held c.in-Ok.said c.in-Ok.ensures.answer c.next_number.ensures

pub returns-clause-written : goal.returns-clause-written
returns-clause-written c =
    let a = c.args in
    line_is a.boundary.now a.store.now a.piece.now a.held c.gather.ensures.store c.in-Ok.said c.in-Ok.ensures.answer c.item_line.ensures

pub returns-in_default-clause-turned : goal.returns-in_default-clause-turned
returns-in_default-clause-turned c =
    let a = c.args in
    refused_turn_is a.boundary.now a.store.now a.piece.now a.held c.in_default.field-0 c.in_default.ensures.answer

pub returns-in_default-clause-written : goal.returns-in_default-clause-written
returns-in_default-clause-written c =
    let a = c.args in
    refused_line_is a.boundary.now a.store.now a.piece.now a.held c.in_default.field-0 c.in_default.ensures.answer c.clear.ensures
