-- What a call of a record answers (document 01, "Numbers of refusal" and "The session"). Assumes nothing.
use Rattle.std.specs.Prelude.{◌≡◌, cond, List, [], ◌++◌, ℕ, ◌≤◌, ltb, length, drop, Result, Ok, Err}
use Rattle.message.specs.Class.{class_of}
use Rattle.message.specs.Limits.{link_limits}
use Rattle.message.specs.Messages.{message_of}
use Rattle.message.specs.Reading.{Reading}
use Rattle.message.specs.Reading.Reading.{whole, refused}
use Rattle.message.specs.declared.Message.{Message}
use Rattle.conduct.specs.declared.Event.{Event}
use Rattle.conduct.specs.declared.Call.{Call}
use Rattle.conduct.specs.declared.Call.TheVariants as calls
use Rattle.conduct.specs.Step.{Answered, step}
use Rattle.session.specs.Rows.{events_of, list_of}
use Rattle.session.specs.Record.{session_of, record_of, consistent}
use Rattle.session.specs.declared.Session.{Session as Record}
use Rattle.session.specs.declared.Events.{Events}
use Rattle.session.specs.declared.Accepted.{Accepted}
use Rattle.session.specs.declared.Said.{Said as Written}
use Rattle.session.specs.declared.Refusal.{Refusal}
use Rattle.session.specs.declared.Refusal.TheVariants as refusals

-- a refusal or 0, the record that follows and the events
pub record Told : Type 0 where
  pub refusal : ℕ
  pub next : Record
  pub events : Events

abbrev pub told_of : Answered → Told
told_of a = record { refusal = a.refusal; next = record_of a.next; events = events_of a.events }

-- refused before the session is looked at: the record as it was, and no event
abbrev pub refuse : ℕ → Record → Told
refuse why d = record { refusal = why; next = d; events = events_of [] }

-- for an event list of so many places: 3, then 27, then what the session answers
abbrev pub told : ℕ → Record → Call → Told
told places d c = cond (ltb places 40) (refuse 3 d) (cond (consistent d) (told_of (step (session_of d) c)) (refuse 27 d))

-- ---- the bytes of a message: what the reader says of them is handed in

abbrev pub call_of : Reading Message → Call
call_of (whole m) = calls.Heard m
call_of (refused number place) = calls.Unreadable number

abbrev pub call_of_bytes : List ℕ → Call
call_of_bytes bytes = call_of (message_of class_of link_limits bytes)

-- ---- the same with a lent list: what is answered, and what the list holds then

-- a refusal or 0, the record that follows, and how many events are written
pub record Said : Type 0 where
  pub refusal : ℕ
  pub next : Record
  pub count : ℕ

abbrev pub said_of : Told → Said
said_of t = record { refusal = t.refusal; next = t.next; count = t.events.count }

-- the events, and then the list from the place behind them on
abbrev pub written : List Event → Told → List Event
written list t = list_of t.events ++ drop t.events.count list

-- what a call with a lent list promises: the answer r, and the list as it is left
abbrev pub SaysAndWrites : Told → List Event → Said → List Event → Type 0
SaysAndWrites t list r left = (r ≡ said_of t) × (left ≡ written list t)

-- ---- what the code's answers say of a call of the record d. A refused call leaves it, says nothing, and so writes nothing.

-- document 01's number of a refusal
abbrev pub refusal_number : Refusal → ℕ
refusal_number refusals.ListTooShort = 3
refusal_number refusals.Stopped = 5
refusal_number refusals.OutOfState = 6
refusal_number refusals.TooManyPushes = 7
refusal_number refusals.Inconsistent = 27

abbrev pub told_said : Record → Result Accepted Refusal → Told
told_said d (Ok a) = record { refusal = 0; next = a.next; events = a.events }
told_said d (Err why) = refuse (refusal_number why) d

-- the same where the events were written to a lent list
abbrev pub said_in_list : Record → Result Written Refusal → Said
said_in_list d (Ok a) = record { refusal = 0; next = a.next; count = a.count }
said_in_list d (Err why) = record { refusal = refusal_number why; next = d; count = 0 }

-- the events of an accepted call have room in the lent list, and places of their own
abbrev pub HasRoom : List Event → Result Accepted Refusal → Type 0
HasRoom list (Ok a) = (a.events.count ≤ length list) × (a.events.count ≤ 40)
HasRoom list (Err why) = Unit {0}

-- a refusal's number, and 0 where there is none
abbrev pub number_of_refused : Result (Unit {0}) Refusal → ℕ
number_of_refused (Ok done) = 0
number_of_refused (Err why) = refusal_number why
