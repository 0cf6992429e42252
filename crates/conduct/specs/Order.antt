-- Promise: the order of events and numbers. (proofs/Acceptance, Spoken, Leaving, Heartbeats, Taken)
-- Assumes nothing.
use Rattle.std.specs.Prelude.{◌≡◌, true, false, List, [], ◌∷◌, ◌++◌, map, ℕ, ◌+◌, ◌<◌, ◌%◌, ◌^◌, eqb}
use Rattle.conduct.specs.Lists.{those, some, among}
use Rattle.conduct.specs.Session.{Session, is_up, held}
use Rattle.conduct.specs.Sound.{sound}
use Rattle.conduct.specs.Step.{step}
use Rattle.conduct.specs.History.{history, session_after, first_sending, is_closing, of_push, events_in, takes}
use Rattle.conduct.specs.Followed.{first_code}
use Rattle.conduct.specs.declared.Event.{Event}
use Rattle.conduct.specs.declared.Push.{Push}
use Rattle.conduct.specs.declared.Call.{Call}

-- ---- the order of acceptance

-- xs is ys, some left out
pub data Thinned {A : Type 0} : List A → List A → Type 0 where
  none : Thinned [] []
  kept : (x : A) (xs ys : List A) → Thinned xs ys → Thinned (x ∷ xs) (x ∷ ys)
  left : (y : A) (xs ys : List A) → Thinned xs ys → Thinned xs (y ∷ ys)

-- the event by which a push was accepted
abbrev pub acceptance : Push → Event
acceptance p = record { code = first_code p.what; number = p.number; detail = p.handle }

-- the open pushes stand in the order in which they were accepted
abbrev pub InOrderOfAcceptance : Type 0
InOrderOfAcceptance =
    (s : Session) (cs : List Call)
    → Thinned (map acceptance (session_after s cs).pushes) (map acceptance s.pushes ++ those first_sending (events_in (history s cs)))

-- A call speaks of pushes that were open, of each once at most, in the order in which they were accepted, and by number and handle.
abbrev pub spoken_of : Event → ℕ × ℕ
spoken_of e = (e.number, e.detail)

abbrev pub as_opened : Push → ℕ × ℕ
as_opened p = (p.number, p.handle)

abbrev pub OpenOnesInOrder : Type 0
OpenOnesInOrder = (s : Session) (c : Call) → Thinned (map spoken_of (those of_push (step s c).events)) (map as_opened s.pushes)

-- ---- leaving Up: whatever is said, and then 12 for each open push, in order of acceptance

abbrev pub lost_event : Push → Event
lost_event p = record { code = 12; number = p.number; detail = p.handle }

abbrev pub LeavingUpCloses : Type 0
LeavingUpCloses =
    (s : Session) (c : Call) → is_up s.state ≡ true → is_up (step s c).next.state ≡ false
    → (first : List Event) × ((step s c).events ≡ first ++ map lost_event s.pushes) × (some is_closing first ≡ false) × ((step s c).next.pushes ≡ [])

-- while the session stays up nothing is closed as lost
abbrev pub LostOnlyLeavingUp : Type 0
LostOnlyLeavingUp =
    (s : Session) (c : Call) → is_up (step s c).next.state ≡ true → some (λ (e : Event). eqb e.code 12) (step s c).events ≡ false

-- in a tick what is said of the pushes comes before a heartbeat
abbrev pub HeartbeatLast : Type 0
HeartbeatLast =
    (s : Session) (c : Call) (a b : List Event) (e : Event) → (step s c).events ≡ a ++ e ∷ b → e.code ≡ 3 → b ≡ []

-- ---- numbers

-- the number after j more than n
abbrev pub past : ℕ → ℕ → ℕ
past n j = (n + 1 + j) % 2 ^ 32

-- m is the first number after n that is not among the held ones
pub record NextAfter (held : List ℕ) (n m : ℕ) : Type 0 where
  pub passed : ℕ
  pub is : m ≡ past n passed
  pub free : among m held ≡ false
  pub all_held : (j : ℕ) → j < passed → among (past n j) held ≡ true

-- the numbers that are taken one after the other after n, and the last of them
pub data Taken (held : List ℕ) : ℕ → List ℕ → ℕ → Type 0 where
  done : (n : ℕ) → Taken held n [] n
  next : (n m last : ℕ) (ms : List ℕ) → NextAfter held n m → Taken held m ms last → Taken held n (m ∷ ms) last

abbrev pub numbers_taken : List Event → List ℕ
numbers_taken es = map (λ (e : Event). e.number) (those (λ (e : Event). takes e.code) es)

-- each send event but 5 takes the next free number after the last taken, in the order of the events; what was held when the call began is passed over
abbrev pub NumbersInOrder : Type 0
NumbersInOrder =
    (s : Session) (c : Call) → sound s ≡ true
    → Taken (held s) s.last (numbers_taken (step s c).events) (step s c).next.last
