-- What a making answers, of records. Assumes nothing.
use mathlib.Core.Path.{◌≡◌, refl, subst⁻¹}
use mathlib.Core.List.{[]}
use native.Mathlib.Omega.{arith}
use Rattle.conduct.specs.Session.{Session, make}
use Rattle.conduct.specs.declared.Site.{Site}
use Rattle.conduct.specs.declared.State.{State}
use Rattle.conduct.proofs.Conducts.{made_as_chosen, new_where_refused}
use Rattle.conduct.proofs.Resends.{every_making_answered}
use Rattle.session.specs.Record.{record_of, made_of}
use Rattle.session.specs.Code.{Begins, MadeAllowed, NeverBegun, MadeRefused, MadeRefusedResends}
use Rattle.session.proofs.Rows.{rows_of_lem}

begins : (site : Site) (state : State) (s : Session) → s ≡ record { site = site; state = state; pushes = []; last = 0 } → Begins site state (record_of s)
begins site state s is = subst⁻¹ (λ (t : Session). Begins site state (record_of t)) is (refl, refl, rows_of_lem [], refl)

never_begun : (site : Site) → ((make site).refusal ≡ 0 → ⊥) → NeverBegun (made_of site).session
never_begun site refused = begins _ _ (make site).session (new_where_refused site refused)

pub made_allowed : MadeAllowed
made_allowed site low high few =
    let accepted = (every_making_answered site).else_none (low, high) few in
    (accepted, begins site _ (make site).session (made_as_chosen site accepted))

pub made_refused : MadeRefused
made_refused site outside =
    let by_4 = (every_making_answered site).interval_first outside in
    (by_4, never_begun site (λ none. omega (arith, by_4, none)))

pub made_refused_resends : MadeRefusedResends
made_refused_resends site low high many =
    let by-18 = (every_making_answered site).then_resends (low, high) many in
    (by-18, never_begun site (λ none. omega (arith, by-18, none)))
