-- A turn hands on what the framing and the line answer (`Turns`).
use Rattle.std.proofs.Common.{arith, ap}
use Rattle.framing.specs.Cutting.{Answer, link_limit, item_length}
use Rattle.framing.proofs.Bounds.{answer_short, taken_within}
use Rattle.replay.specs.Turns.{boundary}
use Rattle.replay.proofs.Turns.{turn_is, refused_turn_is}
use Rattle.replay.proofs.take_next.Goals as goal

pub take_item-requires : goal.take_item-requires
take_item-requires g c =
    let a = c.args in
    let short = answer_short link_limit boundary a.store.now a.piece.now a.held.gathered 0 in
    omega (arith, short, ap (λ (x : Answer). item_length x.item) c.in-Ok.ensures.answer)

pub returns-clause-within : goal.returns-clause-within
returns-clause-within g c =
    let a = c.args in
    let within = taken_within link_limit boundary a.store.now a.piece.now a.held.gathered 0 in
    omega (arith, within, ap (λ (x : Answer). x.taken) c.in-Ok.ensures.answer)

pub returns-clause-turned : goal.returns-clause-turned
returns-clause-turned g c =
    let a = c.args in
    turn_is a.store.now a.piece.now a.held c.in-Ok.said c.in-Ok.ensures.answer c.gather.ensures.store c.take_item.ensures

pub returns-in_default-clause-turned : goal.returns-in_default-clause-turned
returns-in_default-clause-turned g c =
    let a = c.args in
    refused_turn_is a.store.now a.piece.now a.held c.in_default.field-0 c.in_default.ensures.answer
