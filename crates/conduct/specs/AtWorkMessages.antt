-- Promise: the rules at work: what is done with each kind in each linked state, and what values mean. (proofs/TableAtWork, ValuesAtWork)
-- Assumes nothing.
use Rattle.std.specs.Prelude.{false, List, [], ◌∷◌, ℕ, Option, None, Some}
use Rattle.message.specs.Messages.{message, no_number}
use Rattle.message.specs.declared.Kind.{Kind}
use Rattle.message.specs.declared.Kind.TheVariants as kinds
use Rattle.message.specs.declared.Value.{Value}
use Rattle.message.specs.declared.Status.{Status}
use Rattle.message.specs.declared.Status.TheVariants as statuses
use Rattle.message.specs.declared.Advice.{Advice}
use Rattle.message.specs.declared.Advice.TheVariants as advices
use Rattle.conduct.specs.declared.Call.{Call}
use Rattle.conduct.specs.declared.Call.TheVariants as calls
use Rattle.conduct.specs.Scripts.{ticking, push, meaning, naming, of_status, of_type, bare, answer_with, ok_with, advisory_with}
use Rattle.conduct.specs.Scripts.{AllAsDue, in_opening, in_confirming, in_up}
use Rattle.conduct.specs.Scripts.Line.{event}

-- messages without values, in Up beside an open push
abbrev pub TableAtWork : Type 0
TableAtWork =
    AllAsDue
    (in_opening 21 (bare kinds.SessionOpenRequest ∷ []) (event 3 14 0 0 ∷ []) 3 0
    ∷ in_opening 21 (bare kinds.SessionOpenResponse ∷ []) (event 3 7 0 0 ∷ []) 1 0
    ∷ in_opening 21 (bare kinds.SessionOk ∷ []) (event 3 14 0 0 ∷ []) 3 0
    ∷ in_opening 21 (bare kinds.Ok ∷ []) (event 3 14 0 0 ∷ []) 3 0
    ∷ in_opening 21 (bare kinds.Advisory ∷ []) (event 3 14 0 0 ∷ []) 3 0
    ∷ in_opening 21 (bare kinds.Request ∷ []) (event 3 14 0 0 ∷ []) 3 0
    ∷ in_opening 21 (bare kinds.Response ∷ []) (event 3 14 0 0 ∷ []) 3 0
    ∷ in_confirming 21 (bare kinds.SessionOpenRequest ∷ []) (event 4 14 0 0 ∷ []) 4 0
    ∷ in_confirming 21 (bare kinds.SessionOpenResponse ∷ []) (event 4 14 0 0 ∷ []) 4 0
    ∷ in_confirming 21 (bare kinds.SessionOk ∷ []) (event 4 14 0 0 ∷ []) 4 0
    ∷ in_confirming 21 (bare kinds.Ok ∷ []) (event 4 15 0 0 ∷ []) 4 0
    ∷ in_confirming 21 (bare kinds.Advisory ∷ []) (event 4 17 0 0 ∷ []) 4 0
    ∷ in_confirming 21 (bare kinds.Request ∷ []) (event 4 14 0 0 ∷ []) 4 0
    ∷ in_confirming 21 (bare kinds.Response ∷ []) (event 4 14 0 0 ∷ []) 4 0
    ∷ in_up 21 (push 7 ∷ bare kinds.SessionOpenRequest ∷ []) (event 5 4 3 7 ∷ event 6 14 0 0 ∷ []) 5 1
    ∷ in_up 21 (push 7 ∷ bare kinds.SessionOpenResponse ∷ []) (event 5 4 3 7 ∷ event 6 14 0 0 ∷ []) 5 1
    ∷ in_up 21 (push 7 ∷ bare kinds.SessionOk ∷ []) (event 5 4 3 7 ∷ event 6 14 0 0 ∷ []) 5 1
    ∷ in_up 21 (push 7 ∷ bare kinds.Ok ∷ []) (event 5 4 3 7 ∷ event 6 15 0 0 ∷ []) 5 1
    ∷ in_up 21 (push 7 ∷ bare kinds.Advisory ∷ []) (event 5 4 3 7 ∷ event 6 17 0 0 ∷ []) 5 1
    ∷ in_up 21 (push 7 ∷ bare kinds.Request ∷ []) (event 5 4 3 7 ∷ event 6 13 0 0 ∷ []) 5 1
    ∷ in_up 21 (push 7 ∷ bare kinds.Response ∷ []) (event 5 4 3 7 ∷ event 6 14 0 0 ∷ []) 5 1
    ∷ [])

-- values that are not there, although their meaning says something
abbrev pub absent : ℕ → Value (Option ℕ)
absent n = record { there = false; place = 0; length = 0; meaning = Some n }

abbrev pub absent_status : Status → Value Status
absent_status status = record { there = false; place = 0; length = 0; meaning = status }

abbrev pub absent_type : Advice → Value Advice
absent_type advice = record { there = false; place = 0; length = 0; meaning = advice }

-- a message that names n by every value but one of its own
abbrev pub elsewhere : Kind → ℕ → Value (Option ℕ) → Value (Option ℕ) → List Call
elsewhere kind n in_response_to in_relation_to =
    calls.Heard (message kind (of_status statuses.Ok) (naming n) in_response_to in_relation_to (of_type advices.UnreadableMessage)) ∷ []

abbrev pub ValuesAtWork : Type 0
ValuesAtWork =
    AllAsDue
    ( -- a status that is not there means other
    in_opening 21 (answer_with (absent_status statuses.Ok) ∷ []) (event 3 7 0 0 ∷ []) 1 0
    ∷ in_opening 21 (answer_with (absent_status statuses.RedundantSession) ∷ []) (event 3 7 0 0 ∷ []) 1 0
    ∷  -- an inResponseTo that is not there, or is no number, names nothing
    in_confirming 21 (ok_with (absent 2) ∷ ok_with (meaning None) ∷ []) (event 4 15 0 0 ∷ event 5 15 0 0 ∷ []) 4 0
    ∷ in_up 21 (push 7 ∷ ok_with (absent 3) ∷ ok_with (meaning None) ∷ [])
    (event 5 4 3 7 ∷ event 6 15 0 0 ∷ event 7 15 0 0 ∷ []) 5 1
    ∷ in_up 21 (ticking 21 ∷ ok_with (absent 3) ∷ ok_with (meaning None) ∷ ticking 20 ∷ [])
    (event 25 3 3 0 ∷ event 26 15 0 0 ∷ event 27 15 0 0 ∷ event 47 19 4 0 ∷ event 47 7 0 0 ∷ []) 1 0
    ∷  -- an inRelationTo that is not there: 17; one that is no number: 15
    in_confirming 21
    (advisory_with (absent 2) (of_type advices.Other) ∷ advisory_with (meaning None) (of_type advices.Other) ∷ [])
    (event 4 17 0 0 ∷ event 5 15 0 0 ∷ []) 4 0
    ∷ in_up 21
    (push 7
    ∷ advisory_with (absent 3) (of_type advices.UnreadableMessage)
    ∷ advisory_with (meaning None) (of_type advices.UnreadableMessage)
    ∷ [])
    (event 5 4 3 7 ∷ event 6 17 0 0 ∷ event 7 15 0 0 ∷ []) 5 1
    ∷ in_up 21 (ticking 21 ∷ advisory_with (absent 3) (of_type advices.Other) ∷ ticking 20 ∷ [])
    (event 25 3 3 0 ∷ event 26 17 0 0 ∷ event 46 19 4 0 ∷ event 46 7 0 0 ∷ []) 1 0
    ∷  -- a type that is not there means other
    in_up 21 (push 7 ∷ advisory_with (naming 3) (absent_type advices.UnreadableMessage) ∷ []) (event 5 4 3 7 ∷ event 6 10 3 7 ∷ []) 5 0
    ∷  -- no value but a kind's own counts
    in_confirming 21 (elsewhere kinds.Ok 2 no_number (naming 2) ∷ elsewhere kinds.Advisory 2 (naming 2) no_number ∷ [])
    (event 4 15 0 0 ∷ event 5 17 0 0 ∷ []) 4 0
    ∷ in_up 21 (push 7 ∷ elsewhere kinds.Ok 3 no_number (naming 3) ∷ elsewhere kinds.Advisory 3 (naming 3) no_number ∷ [])
    (event 5 4 3 7 ∷ event 6 15 0 0 ∷ event 7 17 0 0 ∷ []) 5 1
    ∷ in_up 21 (push 7 ∷ elsewhere kinds.Ok 3 (naming 3) no_number ∷ []) (event 5 4 3 7 ∷ event 6 9 3 7 ∷ []) 5 0
    ∷ in_up 21 (push 7 ∷ elsewhere kinds.Advisory 3 no_number (naming 3) ∷ []) (event 5 4 3 7 ∷ event 6 5 3 7 ∷ []) 5 1
    ∷  -- nor do values make a kind act where it is out of place
    in_opening 21 (elsewhere kinds.Ok 1 (naming 1) (naming 1) ∷ elsewhere kinds.Advisory 1 (naming 1) (naming 1) ∷ [])
    (event 3 14 0 0 ∷ event 4 14 0 0 ∷ []) 3 0
    ∷ in_up 21
    (push 7
    ∷ elsewhere kinds.SessionOpenRequest 3 (naming 3) (naming 3)
    ∷ elsewhere kinds.SessionOpenResponse 3 (naming 3) (naming 3)
    ∷ elsewhere kinds.SessionOk 3 (naming 3) (naming 3)
    ∷ elsewhere kinds.Request 3 (naming 3) (naming 3)
    ∷ elsewhere kinds.Response 3 (naming 3) (naming 3)
    ∷ [])
    (event 5 4 3 7 ∷ event 6 14 0 0 ∷ event 7 14 0 0 ∷ event 8 14 0 0 ∷ event 9 13 0 0 ∷ event 10 14 0 0 ∷ []) 5 1
    ∷ [])
