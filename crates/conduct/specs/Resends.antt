-- Promise: a site's resends (document 02, M-105): which are refused, and that they decide nothing but what becomes of an open push, which specs/Followed says.
-- They are kept with the rest of the site (`SiteKept` of specs/Timers). (proofs/Resends)
-- Assumes nothing.
use Rattle.std.specs.Prelude.{◌≡◌, not, ◌⊎◌, ℕ, ◌≤◌, ◌<◌}
use Rattle.conduct.specs.Lists.{those}
use Rattle.conduct.specs.Session.{Session, make}
use Rattle.conduct.specs.Step.{Answered, step}
use Rattle.conduct.specs.History.{of_push}
use Rattle.conduct.specs.declared.Site.{Site}
use Rattle.conduct.specs.declared.Event.{Event}
use Rattle.conduct.specs.declared.Call.{Call}

-- ---- making a session

abbrev pub is_interval : ℕ → Type 0
is_interval interval = (21 ≤ interval) × (interval ≤ 6000)

-- 4 for any other interval, whatever the resends; with an allowed one 18 for more than 3 resends, and only then
pub record MakingAnswered (site : Site) : Type 0 where
  pub interval_first : (site.interval < 21) ⊎ (6000 < site.interval) → (make site).refusal ≡ 4
  pub then_resends : is_interval site.interval → 3 < site.resends → (make site).refusal ≡ 18
  pub else_none : is_interval site.interval → site.resends ≤ 3 → (make site).refusal ≡ 0

abbrev pub EveryMakingAnswered : Type 0
EveryMakingAnswered = (site : Site) → MakingAnswered site

-- ---- nothing else

-- a session but for the resends
abbrev pub resending_up_to : ℕ → Session → Session
resending_up_to most s =
    record { site = record { interval = s.site.interval; conduct = s.site.conduct; resends = most }; state = s.state; pushes = s.pushes; last = s.last }

-- two answers but for what is said and left of open pushes
pub record AlikeButPushes (a b : Answered) : Type 0 where
  pub refused_alike : a.refusal ≡ b.refusal
  pub said_alike : those (λ (e : Event). not (of_push e)) a.events ≡ those (λ (e : Event). not (of_push e)) b.events
  pub same_state : a.next.state ≡ b.next.state
  pub same_last : a.next.last ≡ b.next.last

abbrev pub OnlyOfPushes : Type 0
OnlyOfPushes = (most : ℕ) (s : Session) (c : Call) → AlikeButPushes (step (resending_up_to most s) c) (step s c)
