-- What a host sees of a session over any calls: each call with its refusal, its events and the state after it. A push is a place in this history, and its number
-- names it until the number is given again. Nothing here looks at the pushes of a session, and codes stand here as the paper's numbers. Assumes nothing.
use Rattle.std.specs.Prelude.{Bool, true, false, cond, ◌&&◌, ◌||◌, List, [], ◌∷◌, map, ℕ, leb, eqb, length, Option, None, Some}
use Rattle.message.specs.declared.Kind.{Kind}
use Rattle.message.specs.declared.Kind.TheVariants as kinds
use Rattle.message.specs.declared.Value.{Value}
use Rattle.message.specs.declared.Advice.{Advice}
use Rattle.message.specs.declared.Advice.TheVariants as advices
use Rattle.message.specs.declared.Message.{Message}
use Rattle.conduct.specs.Lists.{flat, those, some}
use Rattle.conduct.specs.Session.{Session}
use Rattle.conduct.specs.Step.{step}
use Rattle.conduct.specs.declared.State.{State}
use Rattle.conduct.specs.declared.Event.{Event}
use Rattle.conduct.specs.declared.Call.{Call}
use Rattle.conduct.specs.declared.Call.TheVariants as calls

pub record Entry : Type 0 where
  pub call : Call
  pub refusal : ℕ
  pub events : List Event
  pub state : State

abbrev pub entry : Session → Call → Entry
entry s c = record { call = c; refusal = (step s c).refusal; events = (step s c).events; state = (step s c).next.state }

-- the calls one after the other, each on the session that the one before left
abbrev pub history : Session → List Call → List Entry
history s [] = []
history s (c ∷ cs) = entry s c ∷ history (step s c).next cs

abbrev pub session_after : Session → List Call → Session
session_after s [] = s
session_after s (c ∷ cs) = session_after (step s c).next cs

-- ---- calls

abbrev pub accepted : Entry → Bool
accepted x = eqb x.refusal 0

abbrev pub is_tick : Call → Bool
is_tick calls.Tick = true
is_tick calls.Connected = false
is_tick calls.Lost = false
is_tick calls.Stop = false
is_tick (calls.Push what handle) = false
is_tick (calls.Heard m) = false
is_tick (calls.Unreadable refusal) = false

-- the accepted ticks
abbrev pub ticks : List Entry → ℕ
ticks xs = length (those (λ (x : Entry). accepted x && is_tick x.call) xs)

-- whether a value that is there names n
abbrev pub names_number : ℕ → Option ℕ → Bool
names_number n None = false
names_number n (Some m) = eqb m n

abbrev pub names : ℕ → Value (Option ℕ) → Bool
names n value = value.there && names_number n value.meaning

abbrev pub is_unreadable_message : Advice → Bool
is_unreadable_message advices.UnreadableMessage = true
is_unreadable_message advices.Other = false

-- What a call can be to the push n: a tick, or a message with its number, which is an Ok, an UnreadableMessage Advisory or another Advisory.
pub data Bearing : Type 0 where
  ticked : Bearing
  acknowledged : Bearing
  unreadable_message : Bearing
  advised : Bearing

abbrev pub advice_bearing : Bool → Bearing
advice_bearing true = unreadable_message
advice_bearing false = advised

-- its advisoryType is there and is UnreadableMessage
abbrev pub says_unreadable : Message → Bool
says_unreadable m = m.advisory_type.there && is_unreadable_message m.advisory_type.meaning

abbrev pub message_bearing : ℕ → Message → Kind → List Bearing
message_bearing n m kinds.SessionOpenRequest = []
message_bearing n m kinds.SessionOpenResponse = []
message_bearing n m kinds.SessionOk = []
message_bearing n m kinds.Ok = cond (names n m.in_response_to) (acknowledged ∷ []) []
message_bearing n m kinds.Advisory = cond (names n m.in_relation_to) (advice_bearing (says_unreadable m) ∷ []) []
message_bearing n m kinds.Request = []
message_bearing n m kinds.Response = []

abbrev pub call_bearing : ℕ → Call → List Bearing
call_bearing n calls.Tick = ticked ∷ []
call_bearing n calls.Connected = []
call_bearing n calls.Lost = []
call_bearing n calls.Stop = []
call_bearing n (calls.Push what handle) = []
call_bearing n (calls.Heard m) = message_bearing n m m.kind
call_bearing n (calls.Unreadable refusal) = []

-- of an entry: refused calls bear on nothing
abbrev pub bearing : ℕ → Entry → List Bearing
bearing n x = cond (accepted x) (call_bearing n x.call) []

-- ---- events

abbrev pub codes_of : List Event → List ℕ
codes_of es = map (λ (e : Event). e.code) es

-- 4 and 6: the first sending of a push; 5: sent again; 9 to 12: closed
abbrev pub first_sending : Event → Bool
first_sending e = eqb e.code 4 || eqb e.code 6

abbrev pub closing : ℕ → Bool
closing code = leb 9 code && leb code 12

abbrev pub is_closing : Event → Bool
is_closing e = closing e.code

abbrev pub closes : ℕ → Event → Bool
closes n e = is_closing e && eqb e.number n

abbrev pub sends_again : ℕ → Event → Bool
sends_again n e = eqb e.code 5 && eqb e.number n

abbrev pub acknowledges : ℕ → Event → Bool
acknowledges n e = eqb e.code 9 && eqb e.number n

-- said of a push after its first sending: sent again, or closed; and of the push n
abbrev pub of_push : Event → Bool
of_push e = is_closing e || eqb e.code 5

abbrev pub about : ℕ → Event → Bool
about n e = of_push e && eqb e.number n

-- 2, 3, 4, 6, 18 and 19 take a number
abbrev pub takes : ℕ → Bool
takes code = eqb code 2 || (eqb code 3 || (eqb code 4 || (eqb code 6 || (eqb code 18 || eqb code 19))))

abbrev pub gives : ℕ → Event → Bool
gives n e = takes e.code && eqb e.number n

-- ---- a push in a history

-- the entries up to the next that gives the number n: until then n names the push before
abbrev pub span : ℕ → List Entry → List Entry
span n [] = []
span n (x ∷ xs) = cond (some (gives n) x.events) [] (x ∷ span n xs)

abbrev pub events_in : List Entry → List Event
events_in xs = flat (λ (x : Entry). x.events) xs

-- what is said of the push n in the entries after its acceptance; its closings; its sendings after the first
abbrev pub said : ℕ → List Entry → List Event
said n xs = those (about n) (events_in (span n xs))

abbrev pub closings : ℕ → List Entry → List Event
closings n xs = those (closes n) (events_in (span n xs))

abbrev pub resendings : ℕ → List Entry → List Event
resendings n xs = those (sends_again n) (events_in (span n xs))

-- the codes of what an entry says of it
abbrev pub sayings : ℕ → Entry → List ℕ
sayings n x = codes_of (those (about n) x.events)
