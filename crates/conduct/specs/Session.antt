-- A session (document 01, "The session"), the numbers that it holds, and which calls it refuses. Assumes nothing.
use Rattle.std.specs.Prelude.{Bool, true, false, cond, not, ◌&&◌, ◌||◌, List, [], ◌∷◌, ◌++◌, map, ℕ, leb, ltb, length, Option, None, Some}
use Rattle.conduct.specs.Pushes.{most_resends}
use Rattle.conduct.specs.declared.State.{State}
use Rattle.conduct.specs.declared.State.TheVariants.{Waiting, Connecting, Opening, Confirming, Up, Stopped}
use Rattle.conduct.specs.declared.Conduct.{Conduct}
use Rattle.conduct.specs.declared.Conduct.TheVariants.{New}
use Rattle.conduct.specs.declared.Site.{Site}
use Rattle.conduct.specs.declared.Push.{Push}
use Rattle.conduct.specs.declared.Call.{Call}
use Rattle.conduct.specs.declared.Call.TheVariants as calls

pub record Session : Type 0 where
  -- what it was made with
  pub site : Site
  pub state : State
  -- the open ones, in order of acceptance
  pub pushes : List Push
  -- the last number taken
  pub last : ℕ

-- what is meant where only the ticks from one SessionOk to the next are named: the new conduct, and a Response is sent again once
abbrev pub usual : ℕ → Site
usual interval = record { interval = interval; conduct = New; resends = 1 }

-- a site with another interval, another conduct, or another number of resends
abbrev pub at_interval : ℕ → Site → Site
at_interval interval site = record { interval = interval; conduct = site.conduct; resends = site.resends }

abbrev pub in_conduct : Conduct → Site → Site
in_conduct conduct site = record { interval = site.interval; conduct = conduct; resends = site.resends }

abbrev pub with_resends : ℕ → Site → Site
with_resends resends site = record { interval = site.interval; conduct = site.conduct; resends = resends }

-- Waiting, one tick left, and no number taken: so the first is 1
abbrev pub fresh : Site → Session
fresh site = record { site = site; state = Waiting 1; pushes = []; last = 0 }

-- ---- making one

-- refusal 4
abbrev pub allowed_interval : ℕ → Bool
allowed_interval interval = leb 21 interval && leb interval 6000

-- refusal 18
abbrev pub allowed_resends : ℕ → Bool
allowed_resends resends = leb resends most_resends

pub record Made : Type 0 where
  pub refusal : ℕ
  pub session : Session

-- what either refusal leaves: a stopped session with the shortest interval and no resends
abbrev pub refused_making : ℕ → Made
refused_making refusal = record { refusal = refusal; session = record { site = with_resends 0 (usual 21); state = Stopped; pushes = []; last = 0 } }

-- 4 is looked for first
abbrev pub make : Site → Made
make site =
    cond (allowed_interval site.interval)
    (cond (allowed_resends site.resends) (record { refusal = 0; session = fresh site }) (refused_making 18))
    (refused_making 4)

-- ---- the states, by the paper's order

abbrev pub state_number : State → ℕ
state_number (Waiting left) = 1
state_number Connecting = 2
state_number (Opening age) = 3
state_number (Confirming number age) = 4
state_number (Up waits age) = 5
state_number Stopped = 6

abbrev pub is_connecting : State → Bool
is_connecting (Waiting left) = false
is_connecting Connecting = true
is_connecting (Opening age) = false
is_connecting (Confirming number age) = false
is_connecting (Up waits age) = false
is_connecting Stopped = false

abbrev pub is_up : State → Bool
is_up (Waiting left) = false
is_up Connecting = false
is_up (Opening age) = false
is_up (Confirming number age) = false
is_up (Up waits age) = true
is_up Stopped = false

-- Opening, Confirming, Up
abbrev pub is_linked : State → Bool
is_linked (Waiting left) = false
is_linked Connecting = false
is_linked (Opening age) = true
is_linked (Confirming number age) = true
is_linked (Up waits age) = true
is_linked Stopped = false

abbrev pub is_stopped : State → Bool
is_stopped (Waiting left) = false
is_stopped Connecting = false
is_stopped (Opening age) = false
is_stopped (Confirming number age) = false
is_stopped (Up waits age) = false
is_stopped Stopped = true

-- ---- the numbers that are held: the open SessionOk's and the open pushes'

abbrev pub awaited_numbers : Option ℕ → List ℕ
awaited_numbers None = []
awaited_numbers (Some n) = n ∷ []

abbrev pub session_ok_numbers : State → List ℕ
session_ok_numbers (Waiting left) = []
session_ok_numbers Connecting = []
session_ok_numbers (Opening age) = []
session_ok_numbers (Confirming number age) = number ∷ []
session_ok_numbers (Up waits age) = awaited_numbers waits
session_ok_numbers Stopped = []

abbrev pub push_numbers : List Push → List ℕ
push_numbers ps = map (λ (p : Push). p.number) ps

abbrev pub held : Session → List ℕ
held s = session_ok_numbers s.state ++ push_numbers s.pushes

-- ---- which calls are refused: 5 where the session is stopped, 6 where the call does not fit the state, 7 where 32 pushes are open

-- a number that an item or the reader gives
abbrev pub given_by_reader : ℕ → Bool
given_by_reader refusal = leb 8 refusal && leb refusal 14

abbrev pub fits : State → Call → Bool
fits state calls.Tick = not (is_stopped state)
fits state calls.Connected = is_connecting state
fits state calls.Lost = is_connecting state || is_linked state
fits state calls.Stop = not (is_stopped state)
fits state (calls.Push what handle) = is_up state
fits state (calls.Heard message) = is_linked state
fits state (calls.Unreadable refusal) = is_linked state && given_by_reader refusal

abbrev pub is_push : Call → Bool
is_push calls.Tick = false
is_push calls.Connected = false
is_push calls.Lost = false
is_push calls.Stop = false
is_push (calls.Push what handle) = true
is_push (calls.Heard message) = false
is_push (calls.Unreadable refusal) = false

abbrev pub room_for : Call → ℕ → Bool
room_for c count = not (is_push c) || ltb count 32

-- 0: it is accepted
abbrev pub refusal_of : Session → Call → ℕ
refusal_of s c = cond (is_stopped s.state) 5 (cond (fits s.state c) (cond (room_for c (length s.pushes)) 0 7) 6)
