-- RedundantSession is answered as the status for which it stands in the conduct: specs/Conducts. Assumes nothing.
use mathlib.Core.Path.{◌≡◌, refl, ap, ◌∙◌}
use mathlib.Core.List.{List, [], ◌∷◌, map}
use Rattle.std.proofs.lemmas.Bool.Decides.{nat_tests}
use native.Mathlib.Omega.{arith}
use Rattle.conduct.specs.Session.{Session}
use Rattle.conduct.specs.Step.{Answered, step}
use Rattle.conduct.specs.History.{entry, history, session_after}
use Rattle.conduct.specs.Conducts.{CountsAs, counted_call, counted_entry, CountsAsThroughout}
use Rattle.conduct.specs.declared.Conduct.{Conduct}
use Rattle.conduct.specs.declared.Site.{Site}
use Rattle.conduct.specs.declared.Call.{Call}
use Rattle.conduct.specs.declared.Call.TheVariants as calls
use Rattle.conduct.proofs.Sites.{site_stays}

-- ---- RedundantSession and the status for which it stands

pub counts_as : CountsAs
counts_as s m h = grind (arith, nat_tests)

counted_step : (k : Conduct) (s : Session) → s.site.conduct ≡ k → (c : Call) → step s (counted_call k c) ≡ step s c
counted_step k s e calls.Tick = refl
counted_step k s e calls.Connected = refl
counted_step k s e calls.Lost = refl
counted_step k s e calls.Stop = refl
counted_step k s e (calls.Push what handle) = refl
counted_step k s e (calls.Heard m) = grind (arith, nat_tests)
counted_step k s e (calls.Unreadable refusal) = refl

pub counts_as_throughout : CountsAsThroughout
counts_as_throughout s cs = by s.site.conduct s cs refl
  where
    by : (k : Conduct) (s : Session) (cs : List Call) → s.site.conduct ≡ k
        → (history s (map (counted_call k) cs) ≡ map (counted_entry k) (history s cs)) × (session_after s (map (counted_call k) cs) ≡ session_after s cs)
    by k s [] e = (refl, refl)
    by k s (c ∷ cs) e =
        let here = counted_step k s e c in
        let later = by k (step s c).next cs (ap (λ (site : Site). site.conduct) (site_stays s c) ∙ e) in (
          (λ i. record { call = counted_call k c; refusal = (here i).refusal; events = (here i).events; state = (here i).next.state }
              ∷ history (here i).next (map (counted_call k) cs))
              ∙ ap (◌∷◌ (counted_entry k (entry s c))) later.0,
          ap (λ (r : Answered). session_after r.next (map (counted_call k) cs)) here ∙ later.1,
        )
