-- Scripts of calls on a session and what is due from them, in the terms of the program `replay`: words for the rules at work.
-- Assumes nothing.
use Rattle.std.specs.Prelude.{◌≡◌, true, cond, List, [], ◌∷◌, ◌++◌, map, ℕ, suc, eqb, length, replicate, Option, Some}
use Rattle.message.specs.Messages.{message, no_number, no_status, no_type}
use Rattle.message.specs.declared.Kind.{Kind}
use Rattle.message.specs.declared.Kind.TheVariants as kinds
use Rattle.message.specs.declared.Value.{Value}
use Rattle.message.specs.declared.Status.{Status}
use Rattle.message.specs.declared.Status.TheVariants as statuses
use Rattle.message.specs.declared.Advice.{Advice}
use Rattle.message.specs.declared.Advice.TheVariants as advices
use Rattle.conduct.specs.Lists.{flat}
use Rattle.conduct.specs.Session.{Session, usual, fresh, state_number}
use Rattle.conduct.specs.History.{Entry, history, session_after}
use Rattle.conduct.specs.declared.Event.{Event}
use Rattle.conduct.specs.declared.Call.{Call}
use Rattle.conduct.specs.declared.Call.TheVariants as calls
use Rattle.conduct.specs.declared.Pushed.TheVariants.{Response, Advisory}

-- ---- a script, line by line: a line is one call or, `ticking`, so many ticks

abbrev pub Script : Type 0
Script = List (List Call)

abbrev pub calls_of : Script → List Call
calls_of script = flat (λ (line : List Call). line) script

abbrev pub ticking : ℕ → List Call
ticking k = replicate k calls.Tick

abbrev pub connected : List Call
connected = calls.Connected ∷ []

abbrev pub lost : List Call
lost = calls.Lost ∷ []

abbrev pub stop : List Call
stop = calls.Stop ∷ []

-- a Response of the host with its handle, and an Advisory
abbrev pub push : ℕ → List Call
push handle = calls.Push Response handle ∷ []

abbrev pub advise : ℕ → List Call
advise handle = calls.Push Advisory handle ∷ []

abbrev pub unreadable : ℕ → List Call
unreadable refusal = calls.Unreadable refusal ∷ []

-- ---- messages

-- values that are there; no rule looks at place and length
abbrev pub meaning : Option ℕ → Value (Option ℕ)
meaning number = record { there = true; place = 20; length = 1; meaning = number }

abbrev pub naming : ℕ → Value (Option ℕ)
naming n = meaning (Some n)

abbrev pub of_status : Status → Value Status
of_status status = record { there = true; place = 30; length = 33; meaning = status }

abbrev pub of_type : Advice → Value Advice
of_type advice = record { there = true; place = 60; length = 17; meaning = advice }

-- one of a kind that carries no value
abbrev pub bare : Kind → List Call
bare kind = calls.Heard (message kind no_status no_number no_number no_number no_type) ∷ []

-- a SessionOpenResponse, and one of each status
abbrev pub answer_with : Value Status → List Call
answer_with status = calls.Heard (message kinds.SessionOpenResponse status no_number no_number no_number no_type) ∷ []

abbrev pub answer_ok : List Call
answer_ok = answer_with (of_status statuses.Ok)

abbrev pub answer_redundant_session : List Call
answer_redundant_session = answer_with (of_status statuses.RedundantSession)

abbrev pub answer_other : List Call
answer_other = answer_with (of_status statuses.Other)

-- an Ok, and one that names n
abbrev pub ok_with : Value (Option ℕ) → List Call
ok_with value = calls.Heard (message kinds.Ok no_status no_number value no_number no_type) ∷ []

abbrev pub ok : ℕ → List Call
ok n = ok_with (naming n)

-- an Advisory; one about n, an UnreadableMessage or another; and one without inRelationTo
abbrev pub advisory_with : Value (Option ℕ) → Value Advice → List Call
advisory_with value type = calls.Heard (message kinds.Advisory no_status no_number no_number value type) ∷ []

abbrev pub unreadable_message : ℕ → List Call
unreadable_message n = advisory_with (naming n) (of_type advices.UnreadableMessage)

abbrev pub advisory : ℕ → List Call
advisory n = advisory_with (naming n) (of_type advices.Other)

abbrev pub advisory_alone : List Call
advisory_alone = advisory_with no_number (of_type advices.Other)

-- ---- what a script gives, line by line

-- an event, by the place of its call, counted from 1, its code, number and detail; or a refused call, by its place and refusal
pub data Line : Type 0 where
  event : (place code number detail : ℕ) → Line
  refused : (place refusal : ℕ) → Line

abbrev pub lines_of : ℕ → Entry → List Line
lines_of place x =
    cond (eqb x.refusal 0) [] (refused place x.refusal ∷ [])
    ++ map (λ (e : Event). event place e.code e.number e.detail) x.events

abbrev pub lines_from : ℕ → List Entry → List Line
lines_from place [] = []
lines_from place (x ∷ xs) = lines_of place x ++ lines_from (suc place) xs

-- ---- examples: a session, a script, and what is due: the lines and, at the end, the state's number and how many pushes are open

pub record Outcome : Type 0 where
  pub lines : List Line
  pub state : ℕ
  pub pushes : ℕ

pub record Example : Type 0 where
  pub start : Session
  pub script : Script
  pub due : Outcome

abbrev pub outcome : Session → List Call → Outcome
outcome s cs =
    record {
      lines = lines_from 1 (history s cs);
      state = state_number (session_after s cs).state;
      pushes = length (session_after s cs).pushes;
    }

abbrev pub AllAsDue : List Example → Type 0
AllAsDue examples =
    map (λ (e : Example). outcome e.start (calls_of e.script)) examples ≡ map (λ (e : Example). e.due) examples

abbrev pub example : Session → Script → List Line → ℕ → ℕ → Example
example start script lines state pushes =
    record { start = start; script = script; due = record { lines = lines; state = state; pushes = pushes } }

-- ---- examples that lead a fresh session to a state first: call 1 to Connecting, 2 to Opening, 3 to Confirming, 4 to Up

abbrev pub in_connecting : ℕ → Script → List Line → ℕ → ℕ → Example
in_connecting interval script lines = example (fresh (usual interval)) (ticking 1 ∷ script) (event 1 1 0 0 ∷ lines)

abbrev pub in_opening : ℕ → Script → List Line → ℕ → ℕ → Example
in_opening interval script lines = in_connecting interval (connected ∷ script) (event 2 2 1 0 ∷ lines)

abbrev pub in_confirming : ℕ → Script → List Line → ℕ → ℕ → Example
in_confirming interval script lines = in_opening interval (answer_ok ∷ script) (event 3 3 2 0 ∷ lines)

abbrev pub in_up : ℕ → Script → List Line → ℕ → ℕ → Example
in_up interval script lines = in_confirming interval (ok 2 ∷ script) (event 4 8 0 0 ∷ lines)

-- ---- examples that go on from what a script left, with another number as the last one taken, as if the numbers had come round

abbrev pub to_opening : Script
to_opening = ticking 1 ∷ connected ∷ []

abbrev pub to_confirming : Script
to_confirming = to_opening ++ answer_ok ∷ []

abbrev pub to_up : Script
to_up = to_confirming ++ ok 2 ∷ []

abbrev pub with_last : ℕ → Session → Session
with_last n s = record { site = s.site; state = s.state; pushes = s.pushes; last = n }

abbrev pub going_on : ℕ → Script → ℕ → Script → List Line → ℕ → ℕ → Example
going_on interval before last = example (with_last last (session_after (fresh (usual interval)) (calls_of before)))

-- ---- as many pushes as can be open, and their numbers where they are the first after Up was reached

abbrev pub full : Script
full = replicate 32 (push 7)

abbrev pub full_numbers : List ℕ
full_numbers =
    3 ∷ 4 ∷ 5 ∷ 6 ∷ 7 ∷ 8 ∷ 9 ∷ 10 ∷ 11 ∷ 12 ∷ 13 ∷ 14 ∷ 15 ∷ 16 ∷ 17 ∷ 18
    ∷ 19 ∷ 20 ∷ 21 ∷ 22 ∷ 23 ∷ 24 ∷ 25 ∷ 26 ∷ 27 ∷ 28 ∷ 29 ∷ 30 ∷ 31 ∷ 32 ∷ 33 ∷ 34 ∷ []

-- an event at the place for each of them
abbrev pub full_says : ℕ → ℕ → List Line
full_says place code = map (λ (n : ℕ). event place code n 7) full_numbers
