-- Promise: refusals, room and events of one call. (proofs/Refused, Counted, Few, Heartbeats, OneEvent, Carried)
-- Assumes nothing.
use Rattle.std.specs.Prelude.{◌≡◌, Bool, true, false, cond, not, ◌&&◌, ◌||◌, List, [], ◌∷◌, ◌⊎◌, ℕ, ◌+◌, ◌≤◌, leb, eqb, length}
use Rattle.conduct.specs.Lists.{those, some, all, among}
use Rattle.conduct.specs.Session.{Session, state_number, is_up, is_stopped, is_push, session_ok_numbers}
use Rattle.conduct.specs.Sound.{sound}
use Rattle.conduct.specs.Step.{step}
use Rattle.conduct.specs.History.{history, session_after, call_bearing, closing, events_in, first_sending}
use Rattle.conduct.specs.History.Bearing.{acknowledged}
use Rattle.conduct.specs.declared.Event.{Event}
use Rattle.conduct.specs.declared.Pushed.{Pushed}
use Rattle.conduct.specs.declared.Call.{Call}
use Rattle.conduct.specs.declared.Call.TheVariants as calls

-- a refused call changes nothing and says nothing
abbrev pub RefusedChangesNothing : Type 0
RefusedChangesNothing =
    (s : Session) (c : Call) → ((step s c).refusal ≡ 0 → ⊥) → ((step s c).next ≡ s) × ((step s c).events ≡ [])

-- refused with 5 exactly where the session is stopped; a push in Up exactly where 32 are open, and with 7: so closed room is used again at once
abbrev pub RefusedStopped : Type 0
RefusedStopped = (s : Session) (c : Call) → eqb (step s c).refusal 5 ≡ is_stopped s.state

abbrev pub RefusedFull : Type 0
RefusedFull =
    (s : Session) (what : Pushed) (h : ℕ) → is_up s.state ≡ true
    → (32 ≤ length s.pushes → (step s (calls.Push what h)).refusal ≡ 7) × (length s.pushes + 1 ≤ 32 → (step s (calls.Push what h)).refusal ≡ 0)

-- the states that each call fits, by their numbers; in another, if the session is not stopped, the call is refused with 6
abbrev pub fitting : Call → List ℕ
fitting calls.Tick = 1 ∷ 2 ∷ 3 ∷ 4 ∷ 5 ∷ []
fitting calls.Connected = 2 ∷ []
fitting calls.Lost = 2 ∷ 3 ∷ 4 ∷ 5 ∷ []
fitting calls.Stop = 1 ∷ 2 ∷ 3 ∷ 4 ∷ 5 ∷ []
fitting (calls.Push what handle) = 5 ∷ []
fitting (calls.Heard m) = 3 ∷ 4 ∷ 5 ∷ []
fitting (calls.Unreadable refusal) = cond (among refusal (8 ∷ 9 ∷ 10 ∷ 11 ∷ 12 ∷ 13 ∷ 14 ∷ [])) (3 ∷ 4 ∷ 5 ∷ []) []

abbrev pub RefusedMisfit : Type 0
RefusedMisfit =
    (s : Session) (c : Call) → is_stopped s.state ≡ false
    → eqb (step s c).refusal 6 ≡ not (among (state_number s.state) (fitting c))

-- another call that fits is accepted: only a push is refused for want of room
abbrev pub AcceptedElse : Type 0
AcceptedElse =
    (s : Session) (c : Call) → is_stopped s.state ≡ false → among (state_number s.state) (fitting c) ≡ true → is_push c ≡ false
    → (step s c).refusal ≡ 0

-- as many are open as were accepted and not closed
abbrev pub sendings : List Event → ℕ
sendings es = length (those first_sending es)

abbrev pub closed : List Event → ℕ
closed es = length (those (λ (e : Event). closing e.code) es)

abbrev pub OpenAreCounted : Type 0
OpenAreCounted =
    (s : Session) (cs : List Call)
    → length (session_after s cs).pushes + closed (events_in (history s cs)) ≡ length s.pushes + sendings (events_in (history s cs))

-- at most 34 events come from a call
abbrev pub FewEvents : Type 0
FewEvents = (s : Session) (c : Call) → sound s ≡ true → length (step s c).events ≤ 34

-- while a SessionOk is open no other is sent
abbrev pub OneSessionOk : Type 0
OneSessionOk =
    (s : Session) (c : Call) → sound s ≡ true → some (λ (e : Event). eqb e.code 3) (step s c).events ≡ true → session_ok_numbers s.state ≡ []

-- an accepted message, or refusal of one, gives one event; an Ok for the open SessionOk in Up gives none
abbrev pub is_message : Call → Bool
is_message calls.Tick = false
is_message calls.Connected = false
is_message calls.Lost = false
is_message calls.Stop = false
is_message (calls.Push what handle) = false
is_message (calls.Heard m) = true
is_message (calls.Unreadable refusal) = true

pub record Silent (s : Session) (c : Call) : Type 0 where
  pub number : ℕ
  pub in_up : is_up s.state ≡ true
  pub is_open : session_ok_numbers s.state ≡ number ∷ []
  pub is_ok : call_bearing number c ≡ acknowledged ∷ []
  pub says_nothing : (step s c).events ≡ []

abbrev pub OneEvent : Type 0
OneEvent =
    (s : Session) (c : Call) → sound s ≡ true → is_message c ≡ true → (step s c).refusal ≡ 0
    → (length (step s c).events ≡ 1) ⊎ Silent s c

-- what an event of each code carries: a number only 2 to 6, 9 to 12, 18 and 19, and a detail only 4 to 6, 9 to 12 and 16
abbrev pub number_fits : Event → Bool
number_fits e =
    (leb 2 e.code && leb e.code 6) || ((leb 9 e.code && leb e.code 12) || (eqb e.code 18 || (eqb e.code 19 || eqb e.number 0)))

abbrev pub detail_fits : Event → Bool
detail_fits e = (leb 4 e.code && leb e.code 6) || ((leb 9 e.code && leb e.code 12) || (eqb e.code 16 || eqb e.detail 0))

abbrev pub OnlyTheseCarry : Type 0
OnlyTheseCarry = (s : Session) (c : Call) → (all number_fits (step s c).events ≡ true) × (all detail_fits (step s c).events ≡ true)
