-- No other call looks at the conduct, and a session is made with the one that was chosen: specs/Conducts. Assumes nothing.
use mathlib.Core.Path.{refl, ap, ◌∙◌}
use mathlib.Core.Bool.{not}
use mathlib.Core.List.{[], ◌∷◌}
use native.Mathlib.Omega.{arith}
use borrow.Author.Tests.{not-true}
use Rattle.std.proofs.lemmas.Bool.{and_parts}
use Rattle.std.proofs.lemmas.Bool.Decides.{nat_tests}
use Rattle.conduct.specs.Step.{Answered, step}
use Rattle.conduct.specs.History.{entry, history, session_after}
use Rattle.conduct.specs.Conducts.{by_conduct, OnlyThere, never_by_conduct, OnlyThereThroughout}
use Rattle.conduct.specs.Conducts.{MadeAsChosen, NewWhereUnsaid, NewWhereRefused}

-- ---- nothing else looks at the conduct

pub only_there : OnlyThere
only_there k s c h = grind (arith, nat_tests)

pub only_there_throughout : OnlyThereThroughout
only_there_throughout k s [] h = (refl, refl)
only_there_throughout k s (c ∷ cs) h =
    let parts = and_parts (not (by_conduct s c)) (never_by_conduct (step s c).next cs) h in
    let here = only_there k s c (not-true (by_conduct s c) parts.0) in
    let later = only_there_throughout k (step s c).next cs parts.1 in (
      (λ i. record { call = c; refusal = (here i).refusal; events = (here i).events; state = (here i).next.state } ∷ history (here i).next cs)
          ∙ ap (◌∷◌ (entry s c)) later.0,
      ap (λ (r : Answered). session_after r.next cs) here ∙ later.1,
    )

-- ---- making one

pub made_as_chosen : MadeAsChosen
made_as_chosen site = grind (arith, nat_tests)

pub new_where_unsaid : NewWhereUnsaid
new_where_unsaid interval = refl

pub new_where_refused : NewWhereRefused
new_where_refused site = grind (arith, nat_tests)
