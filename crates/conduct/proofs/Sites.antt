-- What a session was made with stays, whatever is called. Assumes nothing.
use mathlib.Core.Path.{◌≡◌, refl, ◌∙◌}
use mathlib.Core.List.{[], ◌∷◌}
use Prim.Native.Nat.{ℕ, zero, suc}
use Rattle.conduct.specs.Session.{Session, refusal_of}
use Rattle.conduct.specs.Step.{answer, step}
use Rattle.conduct.specs.Timers.{SiteKept}
use Rattle.conduct.specs.declared.Call.{Call}

pub site_stays : (s : Session) (c : Call) → (step s c).next.site ≡ s.site
site_stays s c = go (refusal_of s c)
  where
    go : (k : ℕ) → (answer k s c).next.site ≡ s.site
    go zero = refl
    go (suc k) = refl

pub site_kept : SiteKept
site_kept s [] = refl
site_kept s (c ∷ cs) = site_kept (step s c).next cs ∙ site_stays s c
