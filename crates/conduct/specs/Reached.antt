-- Promise: sessions that come about: each made one passes the test behind 27, and so does each that is reached from one that passes. (proofs/Reached, Tested)
-- Assumes nothing.
use Rattle.std.specs.Prelude.{◌≡◌, true, List, ◌∷◌, ◌++◌, map, ℕ, ◌+◌, ◌≤◌, ◌<◌, length, None, Some}
use Rattle.conduct.specs.Lists.{distinct}
use Rattle.conduct.specs.Session.{Session, make, session_ok_numbers}
use Rattle.conduct.specs.Sound.{sound}
use Rattle.conduct.specs.History.{session_after}
use Rattle.conduct.specs.Followed.{most_resendings}
use Rattle.conduct.specs.declared.State.{State}
use Rattle.conduct.specs.declared.State.TheVariants.{Waiting, Connecting, Opening, Confirming, Up, Stopped}
use Rattle.conduct.specs.declared.Site.{Site}
use Rattle.conduct.specs.declared.Push.{Push}
use Rattle.conduct.specs.declared.Call.{Call}

abbrev pub MadeIsSound : Type 0
MadeIsSound = (site : Site) → sound (make site).session ≡ true

abbrev pub ReachedIsSound : Type 0
ReachedIsSound = (s : Session) (cs : List Call) → sound s ≡ true → sound (session_after s cs) ≡ true

-- ---- what the test asks, in the paper's figures

-- how far the timer of a state can have run, at a site with this interval
abbrev pub TimerIn : ℕ → State → Type 0
TimerIn interval (Waiting left) = (1 ≤ left) × (left ≤ 300)
TimerIn interval Connecting = Unit {0}
TimerIn interval (Opening age) = age < 20
TimerIn interval (Confirming number age) = age < 20
TimerIn interval (Up (Some number) age) = age < 20
TimerIn interval (Up None age) = age < interval
TimerIn interval Stopped = Unit {0}

pub record Tested (s : Session) : Type 0 where
  pub interval_allowed : (21 ≤ s.site.interval) × (s.site.interval ≤ 6000)
  pub resends_allowed : s.site.resends ≤ 3
  pub timer_in_range : TimerIn s.site.interval s.state
  -- each open push was sent, a Response again no oftener than the site says and an Advisory never, and less than 20 ticks ago
  pub sendings_in_range : (a b : List Push) (p : Push) → s.pushes ≡ a ++ p ∷ b
      → (1 ≤ p.sent) × (p.sent ≤ most_resendings s.site.resends p.what + 1) × (p.age < 20)

abbrev pub PassingIsTested : Type 0
PassingIsTested = (s : Session) → sound s ≡ true → Tested s

-- ---- what that means of the sessions between the calls

-- no two open pushes, nor the open SessionOk, share a number
abbrev pub NumbersDiffer : Type 0
NumbersDiffer =
    (s : Session) (cs : List Call) → sound s ≡ true
    → distinct (session_ok_numbers (session_after s cs).state ++ map (λ (p : Push). p.number) (session_after s cs).pushes) ≡ true

-- at most 32 pushes are open
abbrev pub FewPushes : Type 0
FewPushes = (s : Session) (cs : List Call) → sound s ≡ true → length (session_after s cs).pushes ≤ 32
