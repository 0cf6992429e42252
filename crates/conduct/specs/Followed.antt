-- Promise: demand 3 over every history: what holds of an accepted push from its acceptance on. (proofs/Trace)
-- Assumes nothing.
use Rattle.std.specs.Prelude.{◌≡◌, Bool, true, false, cond, List, [], ◌∷◌, ◌++◌, ◌⊎◌, ℕ, ◌+◌, ◌*◌, ◌≤◌, ltb, eqb, length}
use Rattle.conduct.specs.Lists.{some, all}
use Rattle.conduct.specs.Session.{Session, is_up}
use Rattle.conduct.specs.Sound.{sound}
use Rattle.conduct.specs.History.{Entry, history, ticks, Bearing, bearing, is_closing, acknowledges, sends_again, gives, said, closings, resendings, sayings}
use Rattle.conduct.specs.History.Bearing.{ticked, acknowledged, unreadable_message, advised}
use Rattle.conduct.specs.declared.Event.{Event}
use Rattle.conduct.specs.declared.Pushed.{Pushed}
use Rattle.conduct.specs.declared.Pushed.TheVariants.{Response, Advisory}
use Rattle.conduct.specs.declared.Call.{Call}
use Rattle.conduct.specs.declared.Call.TheVariants as calls

-- the code of its first sending
abbrev pub first_code : Pushed → ℕ
first_code Response = 4
first_code Advisory = 6

-- how often it is sent again at most, at a site with so many resends, and the accepted ticks by the end of which it is closed
abbrev pub most_resendings : ℕ → Pushed → ℕ
most_resendings most Response = most
most_resendings most Advisory = 0

abbrev pub most_ticks : ℕ → Pushed → ℕ
most_ticks most what = 20 * (most_resendings most what + 1)

-- ---- what it has behind it, in the entries a since its acceptance

-- the accepted ticks since its last sending: t before the entries, and counted anew when it is sent again
abbrev pub ticks_on : ℕ → ℕ → List Entry → ℕ
ticks_on n t [] = t
ticks_on n t (x ∷ xs) = ticks_on n (cond (some (sends_again n) x.events) 0 (t + ticks (x ∷ []))) xs

abbrev pub ticks_since_sent : ℕ → List Entry → ℕ
ticks_since_sent n a = ticks_on n 0 a

abbrev pub sending_left : ℕ → Pushed → ℕ → List Entry → Bool
sending_left most what n a = ltb (length (resendings n a)) (most_resendings most what)

-- ---- what is due to be said of it, while it is open

-- By what the next entry is to it. In the 20th tick since its last sending, and on an UnreadableMessage, it is sent again (5) if a sending is left, and else closed, with 11
-- or 10; an Ok closes it with 9, any other Advisory with 10; and nothing else is said of it.
abbrev pub due_for : Bool → Bool → List Bearing → List ℕ
due_for left twentieth [] = []
due_for left twentieth (ticked ∷ bs) = cond twentieth (cond left (5 ∷ []) (11 ∷ [])) []
due_for left twentieth (acknowledged ∷ bs) = 9 ∷ []
due_for left twentieth (unreadable_message ∷ bs) = cond left (5 ∷ []) (10 ∷ [])
due_for left twentieth (advised ∷ bs) = 10 ∷ []

-- and where the session is not up any more, that it is closed as lost (12)
abbrev pub due_in : ℕ → Pushed → ℕ → List Entry → Entry → List ℕ
due_in most what n a x = cond (is_up x.state) (due_for (sending_left most what n a) (eqb (ticks_since_sent n a + 1) 20) (bearing n x)) (12 ∷ [])

-- ---- what holds of a push with the number n and the host's handle h, of the entries after its acceptance, at a site with so many resends

pub record Followed (most : ℕ) (what : Pushed) (n h : ℕ) (rest : List Entry) : Type 0 where
  -- it is closed at most once
  pub once : length (closings n rest) ≤ 1
  -- and what closes it is the last that is said of it
  pub last_word : (a b : List Event) (e : Event) → said n rest ≡ a ++ e ∷ b → is_closing e ≡ true → b ≡ []
  -- sent by the event of its acceptance, and again no oftener than it may be
  pub resent : length (resendings n rest) ≤ most_resendings most what
  -- closed by the end of so many accepted ticks
  pub in_time : (a b : List Entry) → rest ≡ a ++ b → most_ticks most what ≤ ticks a → length (closings n a) ≡ 1
  -- while it is open, an entry closes it as acknowledged exactly if it is an accepted Ok with its number
  pub as_acknowledged : (a b : List Entry) (x : Entry) → rest ≡ a ++ x ∷ b → closings n a ≡ []
      → (some (acknowledges n) x.events ≡ true → bearing n x ≡ acknowledged ∷ [])
      × (bearing n x ≡ acknowledged ∷ [] → some (acknowledges n) x.events ≡ true)
  -- it is sent again only in the 20th accepted tick after the sending before, or on an UnreadableMessage Advisory with its number
  pub resent_when : (a b : List Entry) (x : Entry) → rest ≡ a ++ x ∷ b → closings n a ≡ [] → some (sends_again n) x.events ≡ true
      → ((bearing n x ≡ ticked ∷ []) × (ticks_since_sent n a + 1 ≡ 20)) ⊎ (bearing n x ≡ unreadable_message ∷ [])
  -- while it is open, an entry says of it just what is due
  pub exactly : (a b : List Entry) (x : Entry) → rest ≡ a ++ x ∷ b → closings n a ≡ [] → sayings n x ≡ due_in most what n a x
  -- while it is open its number is given to nothing else
  pub unshared : (a b : List Entry) (x : Entry) → rest ≡ a ++ x ∷ b → closings n a ≡ [] → some (gives n) x.events ≡ false
  -- all that is said of it has its handle
  pub handled : all (λ (e : Event). eqb e.detail h) (said n rest) ≡ true

-- Of any calls on any session that passes the test behind 27: an accepted push is sent by one event, whose number then names it, and is followed to its end.
abbrev pub EveryPushIsFollowed : Type 0
EveryPushIsFollowed =
    (s : Session) (cs : List Call) (before rest : List Entry) (x : Entry) (what : Pushed) (h : ℕ)
    → sound s ≡ true → history s cs ≡ before ++ x ∷ rest → x.call ≡ calls.Push what h → x.refusal ≡ 0
    → (n : ℕ) × (x.events ≡ record { code = first_code what; number = n; detail = h } ∷ []) × Followed s.site.resends what n h rest
