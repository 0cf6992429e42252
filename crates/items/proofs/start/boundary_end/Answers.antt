-- The LF that `position` finds is the first (`FirstEnd`).
use Rattle.std.proofs.Common.{◌≡◌, ◌∙◌, ap, rules, tests, take, eqb, Option, ℕ}
use Rattle.std.specs.Option.{unwrap_or}
use Rattle.std.specs.List.{position}
use Rattle.std.proofs.lemmas.Iterator.{YieldsList-from_slice, YieldsList-from_take}
use Rattle.std.proofs.lemmas.Iterator.Search.{position_from_yields_List}
use Rattle.items.specs.Listing.{boundary_end}
use Rattle.items.proofs.FirstEnd.{first_lf}
use Rattle.items.proofs.start.boundary_end.Goals as goal

pub returns-clause-is : goal.returns-clause-is
unfolding boundary_end
returns-clause-is c =
    let input = c.args.input.now in
    let found : c.position.result ≡ position (λ b. eqb b 10) (take 17 input) =
    position_from_yields_List (λ (b : ℕ). eqb b 10) _ _ c.position.result c.position.ensures.ran (YieldsList-from_take 17 (YieldsList-from_slice input (rw c.take.ensures.source c.iter.ensures.rest)) c.take.ensures.count) (λ x b q k. search (rules, tests)) in
    c.unwrap_or.ensures ∙ ap (λ (o : Option ℕ). unwrap_or o 17) found ∙ first_lf input 17
