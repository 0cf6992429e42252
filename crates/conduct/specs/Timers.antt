-- Promise: the session's timers over any calls: how long it waits, opens and confirms, and when it sends a SessionOk. (proofs/WaitingTime, OpeningTime, ConfirmingTime,
-- Unheard, Answers, Sent, Intervals, Sites, Entered)
-- Assumes nothing.
use Rattle.std.specs.Prelude.{◌≡◌, Bool, true, false, not, ◌&&◌, ◌||◌, List, [], ◌∷◌, ◌++◌, map, ◌⊎◌, ℕ, suc, ◌<◌, eqb, Option, None, Some}
use Rattle.conduct.specs.Lists.{some, all}
use Rattle.conduct.specs.Session.{Session, state_number, is_up}
use Rattle.conduct.specs.Sound.{sound}
use Rattle.conduct.specs.Step.{step, Answered}
use Rattle.conduct.specs.History.{Entry, entry, history, session_after, ticks, bearing, advice_bearing, codes_of, of_push}
use Rattle.conduct.specs.History.Bearing.{ticked, acknowledged}
use Rattle.conduct.specs.declared.State.{State}
use Rattle.conduct.specs.declared.State.TheVariants.{Waiting, Connecting, Opening, Confirming, Up}
use Rattle.conduct.specs.declared.Event.{Event}
use Rattle.conduct.specs.declared.Push.{Push}
use Rattle.conduct.specs.declared.Call.{Call}
use Rattle.conduct.specs.declared.Call.TheVariants as calls

-- ---- words

-- after the calls cs a tick
abbrev pub tick_after : Session → List Call → Answered
tick_after s cs = step (session_after s cs) calls.Tick

-- all calls left the session in the state with this number
abbrev pub stays : ℕ → Session → List Call → Type 0
stays number s cs = all (λ (x : Entry). eqb (state_number x.state) number) (history s cs) ≡ true

abbrev pub says_session_ok : List Event → Bool
says_session_ok es = some (λ (e : Event). eqb e.code 3) es

-- ---- states that last so many ticks

-- The calls cs left the session in the state with this number. They had fewer than `most` accepted ticks; a tick that is not the last of them says nothing and
-- leaves the session there, and the last says `codes` and leads to `to`.
pub record Lasts (number most : ℕ) (codes : List ℕ) (to : State) (s : Session) (cs : List Call) : Type 0 where
  pub shorter : ticks (history s cs) < most
  pub quiet : suc (ticks (history s cs)) < most → (codes_of (tick_after s cs).events ≡ []) × (state_number (tick_after s cs).next.state ≡ number)
  pub last : suc (ticks (history s cs)) ≡ most → (codes_of (tick_after s cs).events ≡ codes) × ((tick_after s cs).next.state ≡ to)

-- Waiting with `left` ticks left: then connect
abbrev pub WaitingLasts : Type 0
WaitingLasts =
    (s : Session) (cs : List Call) (left : ℕ) → sound s ≡ true → s.state ≡ Waiting left → stays 1 s cs
    → Lasts 1 left (1 ∷ []) Connecting s cs

-- Opening, just entered: 20 ticks, then Alert, GoingOutOfService and disconnect, and 300 ticks of Waiting
abbrev pub OpeningLasts : Type 0
OpeningLasts =
    (s : Session) (cs : List Call) → sound s ≡ true → s.state ≡ Opening 0 → stays 3 s cs
    → Lasts 3 20 (18 ∷ 19 ∷ 7 ∷ []) (Waiting 300) s cs

-- Confirming, the SessionOk n just sent: 20 ticks, then GoingOutOfService and disconnect
abbrev pub ConfirmingLasts : Type 0
ConfirmingLasts =
    (s : Session) (cs : List Call) (n : ℕ) → sound s ≡ true → s.state ≡ Confirming n 0 → stays 4 s cs
    → Lasts 4 20 (19 ∷ 7 ∷ []) (Waiting 300) s cs

-- ---- a SessionOk in Up

-- no accepted message with the number n: nothing bears on it but ticks
abbrev pub unanswered : ℕ → List Entry → Type 0
unanswered n xs = (a b : List Entry) (x : Entry) → xs ≡ a ++ x ∷ b → (bearing n x ≡ []) ⊎ (bearing n x ≡ ticked ∷ [])

-- Up, the SessionOk n just sent and not answered since: fewer than 20 ticks; an earlier one leaves the session up and says nothing but of its pushes,
-- and the 20th says GoingOutOfService and disconnect, closes every push and leads to 300 ticks of Waiting
pub record Unheard (s : Session) (cs : List Call) : Type 0 where
  pub shorter : ticks (history s cs) < 20
  pub quiet : suc (ticks (history s cs)) < 20 → (all of_push (tick_after s cs).events ≡ true) × (is_up (tick_after s cs).next.state ≡ true)
  pub last : suc (ticks (history s cs)) ≡ 20
      → (codes_of (tick_after s cs).events ≡ 19 ∷ 7 ∷ map (λ (p : Push). 12) (session_after s cs).pushes) × ((tick_after s cs).next.state ≡ Waiting 300)

abbrev pub HeartbeatUnheard : Type 0
HeartbeatUnheard =
    (s : Session) (cs : List Call) (n : ℕ) → sound s ≡ true → s.state ≡ Up (Some n) 0 → stays 5 s cs → unanswered n (history s cs)
    → Unheard s cs

-- An accepted message with the number of the open SessionOk, an Ok or an Advisory. In Confirming the one brings the session up and the other ends it; in Up either
-- closes the SessionOk, and the one in silence. The ticks since it was sent go on.
pub record Answers (s : Session) (c : Call) (n : ℕ) : Type 0 where
  pub confirms : (age : ℕ) → s.state ≡ Confirming n age → bearing n (entry s c) ≡ acknowledged ∷ []
      → (codes_of (step s c).events ≡ 8 ∷ []) × ((step s c).next.state ≡ Up None age)
  pub ends : (age : ℕ) (b : Bool) → s.state ≡ Confirming n age → bearing n (entry s c) ≡ advice_bearing b ∷ []
      → (codes_of (step s c).events ≡ 7 ∷ []) × ((step s c).next.state ≡ Waiting 300)
  pub closes : (age : ℕ) → s.state ≡ Up (Some n) age → bearing n (entry s c) ≡ acknowledged ∷ []
      → (codes_of (step s c).events ≡ []) × ((step s c).next.state ≡ Up None age)
  pub closes_too : (age : ℕ) (b : Bool) → s.state ≡ Up (Some n) age → bearing n (entry s c) ≡ advice_bearing b ∷ []
      → (codes_of (step s c).events ≡ 17 ∷ []) × ((step s c).next.state ≡ Up None age)

abbrev pub AnswerIsHeard : Type 0
AnswerIsHeard = (s : Session) (c : Call) (n : ℕ) → sound s ≡ true → Answers s c n

-- once it is answered, no tick ends the session until the next is sent: it says nothing but of pushes, or sends that
abbrev pub HeardStaysUp : Type 0
HeardStaysUp =
    (s : Session) (age : ℕ) → s.state ≡ Up None age
    → (all (λ (e : Event). of_push e || eqb e.code 3) (step s calls.Tick).events ≡ true) × (is_up (step s calls.Tick).next.state ≡ true)

-- ---- a SessionOk every interval

abbrev pub is_confirming_or_up : State → Bool
is_confirming_or_up state = eqb (state_number state) 4 || eqb (state_number state) 5

-- event 3 leaves its SessionOk open, with no tick counted
abbrev pub SentIsOpen : Type 0
SentIsOpen =
    (s : Session) (c : Call) (a b : List Event) (e : Event) → (step s c).events ≡ a ++ e ∷ b → e.code ≡ 3
    → ((step s c).next.state ≡ Confirming e.number 0) ⊎ ((step s c).next.state ≡ Up (Some e.number) 0)

-- The SessionOk n was just sent; since then the session is confirming or up and sent no other. Then fewer ticks than the interval were accepted, and a
-- tick says 3 exactly if it is the last of it.
pub record Due (s : Session) (cs : List Call) : Type 0 where
  pub shorter : ticks (history s cs) < s.site.interval
  pub quiet : suc (ticks (history s cs)) < s.site.interval → says_session_ok (tick_after s cs).events ≡ false
  pub last : suc (ticks (history s cs)) ≡ s.site.interval → says_session_ok (tick_after s cs).events ≡ true

abbrev pub EveryInterval : Type 0
EveryInterval =
    (s : Session) (cs : List Call) (n : ℕ) → sound s ≡ true → (s.state ≡ Confirming n 0) ⊎ (s.state ≡ Up (Some n) 0)
    → all (λ (x : Entry). is_confirming_or_up x.state && not (says_session_ok x.events)) (history s cs) ≡ true
    → Due s cs

-- what the session was made with is kept: its interval, its conduct and its resends are those of the making
abbrev pub SiteKept : Type 0
SiteKept = (s : Session) (cs : List Call) → (session_after s cs).site ≡ s.site

-- and but for a tick only the answer to the SessionOpenRequest sends one
abbrev pub SentInTicks : Type 0
SentInTicks =
    (s : Session) (c : Call) → says_session_ok (step s c).events ≡ true → (c ≡ calls.Tick) ⊎ (state_number s.state ≡ 3)

-- ---- entering a state

-- A state in which the call did not find the session. Opening is entered with no tick counted; Confirming too, and by sending a SessionOk; Up from Confirming
-- alone, with the ticks since that SessionOk, which is no longer open; Waiting with 300 ticks left.
pub record Enters (s : Session) (c : Call) : Type 0 where
  pub opening : (age : ℕ) → (state_number s.state ≡ 3 → ⊥) → (step s c).next.state ≡ Opening age → age ≡ 0
  pub confirming : (n age : ℕ) → (state_number s.state ≡ 4 → ⊥) → (step s c).next.state ≡ Confirming n age
      → (age ≡ 0) × (says_session_ok (step s c).events ≡ true)
  pub up : (waiting : Option ℕ) (age : ℕ) → (state_number s.state ≡ 5 → ⊥) → (step s c).next.state ≡ Up waiting age
      → (waiting ≡ None) × ((n : ℕ) × (s.state ≡ Confirming n age))
  pub waiting : (left : ℕ) → (state_number s.state ≡ 1 → ⊥) → (step s c).next.state ≡ Waiting left → left ≡ 300

abbrev pub EnteredAfresh : Type 0
EnteredAfresh = (s : Session) (c : Call) → Enters s c
