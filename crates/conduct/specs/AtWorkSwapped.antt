-- Promise: the rules at work: two messages at once (document 02, M-113), every mix of an Ok, an UnreadableMessage and another Advisory. (proofs/SwappedAtWork)
-- Assumes nothing.
use Rattle.std.specs.Prelude.{List, [], ◌∷◌, ◌++◌, ℕ, suc}
use Rattle.conduct.specs.Scripts.{ticking, push, advise, ok, unreadable_message, advisory}
use Rattle.conduct.specs.Scripts.{Script, Line, Example, AllAsDue, in_up}
use Rattle.conduct.specs.Scripts.Line.{event}
use Rattle.conduct.specs.AtWorkResends.{resending}
use Rattle.conduct.specs.declared.Call.{Call}

-- ---- two that name different ones

-- a message, and what it says of what it names, at the place of its call
pub record Spoken : Type 0 where
  pub message : List Call
  pub lines : ℕ → List Line

abbrev pub spoken : List Call → ℕ → ℕ → ℕ → Spoken
spoken message code number detail = record { message = message; lines = λ place. event place code number detail ∷ [] }

abbrev pub in_silence : List Call → Spoken
in_silence message = record { message = message; lines = λ place. [] }

-- both orders, from the call at a place on, and then 20 ticks
abbrev pub in_either_order : (Script → List Line → ℕ → ℕ → Example) → Script → List Line → ℕ → Spoken → Spoken → List Line → ℕ → List Example
in_either_order from before lines place a b later pushes =
    from (before ++ a.message ∷ b.message ∷ ticking 20 ∷ []) (lines ++ (a.lines place ++ (b.lines (suc place) ++ later))) 5 pushes
    ∷ from (before ++ b.message ∷ a.message ∷ ticking 20 ∷ []) (lines ++ (b.lines place ++ (a.lines (suc place) ++ later))) 5 pushes
    ∷ []

-- Responses 3 and 4 at a site with so many resends; the messages are calls 7 and 8, and the 20th tick is call 28
abbrev pub two_responses : ℕ → Spoken → Spoken → List Line → ℕ → List Example
two_responses resends = in_either_order (resending resends) (push 7 ∷ push 8 ∷ []) (event 5 4 3 7 ∷ event 6 4 4 8 ∷ []) 7

-- Response 3 and Advisory 4
abbrev pub one_of_each : Spoken → Spoken → List Line → ℕ → List Example
one_of_each = in_either_order (resending 1) (push 7 ∷ advise 8 ∷ []) (event 5 4 3 7 ∷ event 6 6 4 8 ∷ []) 7

-- Advisories 3 and 4
abbrev pub two_advisories : Spoken → Spoken → List Example
two_advisories a b = in_either_order (resending 1) (advise 7 ∷ advise 8 ∷ []) (event 5 6 3 7 ∷ event 6 6 4 8 ∷ []) 7 a b [] 0

-- SessionOk 3, and Response 4 or Advisory 4; the messages are calls 27 and 28, and the 20th tick is call 48
abbrev pub beside_session_ok : Spoken → Spoken → List Line → List Example
beside_session_ok a b later = in_either_order (in_up 21) (ticking 21 ∷ push 7 ∷ []) (event 25 3 3 0 ∷ event 26 4 4 7 ∷ []) 27 a b later 0

abbrev pub advisory_beside_session_ok : Spoken → Spoken → List Example
advisory_beside_session_ok a b = in_either_order (in_up 21) (ticking 21 ∷ advise 7 ∷ []) (event 25 3 3 0 ∷ event 26 6 4 7 ∷ []) 27 a b [] 0

abbrev pub DifferentAtWork : Type 0
DifferentAtWork =
    AllAsDue
    (two_responses 1 (spoken (ok 3) 9 3 7) (spoken (ok 4) 9 4 8) [] 0
    ++ two_responses 1 (spoken (ok 3) 9 3 7) (spoken (unreadable_message 4) 5 4 8) (event 28 11 4 8 ∷ []) 0
    ++ two_responses 1 (spoken (ok 3) 9 3 7) (spoken (advisory 4) 10 4 8) [] 0
    ++ two_responses 1 (spoken (unreadable_message 3) 5 3 7) (spoken (ok 4) 9 4 8) (event 28 11 3 7 ∷ []) 0
    ++ two_responses 1 (spoken (unreadable_message 3) 5 3 7) (spoken (unreadable_message 4) 5 4 8) (event 28 11 3 7 ∷ event 28 11 4 8 ∷ []) 0
    ++ two_responses 1 (spoken (unreadable_message 3) 5 3 7) (spoken (advisory 4) 10 4 8) (event 28 11 3 7 ∷ []) 0
    ++ two_responses 1 (spoken (advisory 3) 10 3 7) (spoken (ok 4) 9 4 8) [] 0
    ++ two_responses 1 (spoken (advisory 3) 10 3 7) (spoken (unreadable_message 4) 5 4 8) (event 28 11 4 8 ∷ []) 0
    ++ two_responses 1 (spoken (advisory 3) 10 3 7) (spoken (advisory 4) 10 4 8) [] 0
    ++  -- without a resend, and with one more
    two_responses 0 (spoken (unreadable_message 3) 10 3 7) (spoken (unreadable_message 4) 10 4 8) [] 0
    ++ two_responses 2 (spoken (unreadable_message 3) 5 3 7) (spoken (unreadable_message 4) 5 4 8) (event 28 5 3 7 ∷ event 28 5 4 8 ∷ []) 2
    ++  -- an Advisory of the host is never sent again
    one_of_each (spoken (ok 3) 9 3 7) (spoken (ok 4) 9 4 8) [] 0
    ++ one_of_each (spoken (ok 3) 9 3 7) (spoken (unreadable_message 4) 10 4 8) [] 0
    ++ one_of_each (spoken (ok 3) 9 3 7) (spoken (advisory 4) 10 4 8) [] 0
    ++ one_of_each (spoken (unreadable_message 3) 5 3 7) (spoken (ok 4) 9 4 8) (event 28 11 3 7 ∷ []) 0
    ++ one_of_each (spoken (unreadable_message 3) 5 3 7) (spoken (unreadable_message 4) 10 4 8) (event 28 11 3 7 ∷ []) 0
    ++ one_of_each (spoken (unreadable_message 3) 5 3 7) (spoken (advisory 4) 10 4 8) (event 28 11 3 7 ∷ []) 0
    ++ one_of_each (spoken (advisory 3) 10 3 7) (spoken (ok 4) 9 4 8) [] 0
    ++ one_of_each (spoken (advisory 3) 10 3 7) (spoken (unreadable_message 4) 10 4 8) [] 0
    ++ one_of_each (spoken (advisory 3) 10 3 7) (spoken (advisory 4) 10 4 8) [] 0
    ++ two_advisories (spoken (ok 3) 9 3 7) (spoken (ok 4) 9 4 8)
    ++ two_advisories (spoken (ok 3) 9 3 7) (spoken (unreadable_message 4) 10 4 8)
    ++ two_advisories (spoken (ok 3) 9 3 7) (spoken (advisory 4) 10 4 8)
    ++ two_advisories (spoken (unreadable_message 3) 10 3 7) (spoken (ok 4) 9 4 8)
    ++ two_advisories (spoken (unreadable_message 3) 10 3 7) (spoken (unreadable_message 4) 10 4 8)
    ++ two_advisories (spoken (unreadable_message 3) 10 3 7) (spoken (advisory 4) 10 4 8)
    ++ two_advisories (spoken (advisory 3) 10 3 7) (spoken (ok 4) 9 4 8)
    ++ two_advisories (spoken (advisory 3) 10 3 7) (spoken (unreadable_message 4) 10 4 8)
    ++ two_advisories (spoken (advisory 3) 10 3 7) (spoken (advisory 4) 10 4 8)
    ++  -- an Ok closes the SessionOk in silence, any Advisory with 17
    beside_session_ok (in_silence (ok 3)) (spoken (ok 4) 9 4 7) []
    ++ beside_session_ok (in_silence (ok 3)) (spoken (unreadable_message 4) 5 4 7) (event 48 11 4 7 ∷ [])
    ++ beside_session_ok (in_silence (ok 3)) (spoken (advisory 4) 10 4 7) []
    ++ beside_session_ok (spoken (unreadable_message 3) 17 0 0) (spoken (ok 4) 9 4 7) []
    ++ beside_session_ok (spoken (unreadable_message 3) 17 0 0) (spoken (unreadable_message 4) 5 4 7) (event 48 11 4 7 ∷ [])
    ++ beside_session_ok (spoken (unreadable_message 3) 17 0 0) (spoken (advisory 4) 10 4 7) []
    ++ beside_session_ok (spoken (advisory 3) 17 0 0) (spoken (ok 4) 9 4 7) []
    ++ beside_session_ok (spoken (advisory 3) 17 0 0) (spoken (unreadable_message 4) 5 4 7) (event 48 11 4 7 ∷ [])
    ++ beside_session_ok (spoken (advisory 3) 17 0 0) (spoken (advisory 4) 10 4 7) []
    ++ advisory_beside_session_ok (in_silence (ok 3)) (spoken (ok 4) 9 4 7)
    ++ advisory_beside_session_ok (in_silence (ok 3)) (spoken (unreadable_message 4) 10 4 7)
    ++ advisory_beside_session_ok (in_silence (ok 3)) (spoken (advisory 4) 10 4 7)
    ++ advisory_beside_session_ok (spoken (unreadable_message 3) 17 0 0) (spoken (ok 4) 9 4 7)
    ++ advisory_beside_session_ok (spoken (unreadable_message 3) 17 0 0) (spoken (unreadable_message 4) 10 4 7)
    ++ advisory_beside_session_ok (spoken (unreadable_message 3) 17 0 0) (spoken (advisory 4) 10 4 7)
    ++ advisory_beside_session_ok (spoken (advisory 3) 17 0 0) (spoken (ok 4) 9 4 7)
    ++ advisory_beside_session_ok (spoken (advisory 3) 17 0 0) (spoken (unreadable_message 4) 10 4 7)
    ++ advisory_beside_session_ok (spoken (advisory 3) 17 0 0) (spoken (advisory 4) 10 4 7))

-- ---- two that name the same one

-- Response 3; the messages are calls 6 and 7, and the 20th tick is call 27
abbrev pub one_response : ℕ → List Call → List Call → List Line → ℕ → Example
one_response resends a b lines pushes = resending resends (push 7 ∷ a ∷ b ∷ ticking 20 ∷ []) (event 5 4 3 7 ∷ lines) 5 pushes

-- Advisory 3
abbrev pub one_advisory : List Call → List Call → List Line → Example
one_advisory a b lines = resending 3 (advise 7 ∷ a ∷ b ∷ ticking 20 ∷ []) (event 5 6 3 7 ∷ lines) 5 0

-- SessionOk 3; the messages are calls 26 and 27
abbrev pub one_session_ok : List Call → List Call → List Line → Example
one_session_ok a b lines = in_up 21 (ticking 21 ∷ a ∷ b ∷ ticking 20 ∷ []) (event 25 3 3 0 ∷ lines) 5 0

abbrev pub SameAtWork : Type 0
SameAtWork =
    AllAsDue
    ( -- the first closes it and decides
    one_response 1 (ok 3) (ok 3) (event 6 9 3 7 ∷ event 7 15 0 0 ∷ []) 0
    ∷ one_response 1 (ok 3) (unreadable_message 3) (event 6 9 3 7 ∷ event 7 15 0 0 ∷ []) 0
    ∷ one_response 1 (ok 3) (advisory 3) (event 6 9 3 7 ∷ event 7 15 0 0 ∷ []) 0
    ∷ one_response 1 (advisory 3) (ok 3) (event 6 10 3 7 ∷ event 7 15 0 0 ∷ []) 0
    ∷ one_response 1 (advisory 3) (unreadable_message 3) (event 6 10 3 7 ∷ event 7 15 0 0 ∷ []) 0
    ∷ one_response 1 (advisory 3) (advisory 3) (event 6 10 3 7 ∷ event 7 15 0 0 ∷ []) 0
    ∷  -- an UnreadableMessage sends it again, and the second decides
    one_response 1 (unreadable_message 3) (ok 3) (event 6 5 3 7 ∷ event 7 9 3 7 ∷ []) 0
    ∷ one_response 1 (unreadable_message 3) (unreadable_message 3) (event 6 5 3 7 ∷ event 7 10 3 7 ∷ []) 0
    ∷ one_response 1 (unreadable_message 3) (advisory 3) (event 6 5 3 7 ∷ event 7 10 3 7 ∷ []) 0
    ∷  -- with two resends twice, and its ticks are counted anew
    one_response 2 (unreadable_message 3) (unreadable_message 3) (event 6 5 3 7 ∷ event 7 5 3 7 ∷ event 27 11 3 7 ∷ []) 0
    ∷ one_response 3 (unreadable_message 3) (unreadable_message 3) (event 6 5 3 7 ∷ event 7 5 3 7 ∷ event 27 5 3 7 ∷ []) 1
    ∷  -- without a resend it closes as any Advisory does
    one_response 0 (unreadable_message 3) (ok 3) (event 6 10 3 7 ∷ event 7 15 0 0 ∷ []) 0
    ∷ one_response 0 (unreadable_message 3) (unreadable_message 3) (event 6 10 3 7 ∷ event 7 15 0 0 ∷ []) 0
    ∷ one_response 0 (unreadable_message 3) (advisory 3) (event 6 10 3 7 ∷ event 7 15 0 0 ∷ []) 0
    ∷  -- and so it is with an Advisory of the host
    one_advisory (ok 3) (ok 3) (event 6 9 3 7 ∷ event 7 15 0 0 ∷ [])
    ∷ one_advisory (ok 3) (unreadable_message 3) (event 6 9 3 7 ∷ event 7 15 0 0 ∷ [])
    ∷ one_advisory (ok 3) (advisory 3) (event 6 9 3 7 ∷ event 7 15 0 0 ∷ [])
    ∷ one_advisory (unreadable_message 3) (ok 3) (event 6 10 3 7 ∷ event 7 15 0 0 ∷ [])
    ∷ one_advisory (unreadable_message 3) (unreadable_message 3) (event 6 10 3 7 ∷ event 7 15 0 0 ∷ [])
    ∷ one_advisory (unreadable_message 3) (advisory 3) (event 6 10 3 7 ∷ event 7 15 0 0 ∷ [])
    ∷ one_advisory (advisory 3) (ok 3) (event 6 10 3 7 ∷ event 7 15 0 0 ∷ [])
    ∷ one_advisory (advisory 3) (unreadable_message 3) (event 6 10 3 7 ∷ event 7 15 0 0 ∷ [])
    ∷ one_advisory (advisory 3) (advisory 3) (event 6 10 3 7 ∷ event 7 15 0 0 ∷ [])
    ∷  -- the first closes the SessionOk
    one_session_ok (ok 3) (ok 3) (event 27 15 0 0 ∷ [])
    ∷ one_session_ok (ok 3) (unreadable_message 3) (event 27 15 0 0 ∷ [])
    ∷ one_session_ok (ok 3) (advisory 3) (event 27 15 0 0 ∷ [])
    ∷ one_session_ok (unreadable_message 3) (ok 3) (event 26 17 0 0 ∷ event 27 15 0 0 ∷ [])
    ∷ one_session_ok (unreadable_message 3) (unreadable_message 3) (event 26 17 0 0 ∷ event 27 15 0 0 ∷ [])
    ∷ one_session_ok (unreadable_message 3) (advisory 3) (event 26 17 0 0 ∷ event 27 15 0 0 ∷ [])
    ∷ one_session_ok (advisory 3) (ok 3) (event 26 17 0 0 ∷ event 27 15 0 0 ∷ [])
    ∷ one_session_ok (advisory 3) (unreadable_message 3) (event 26 17 0 0 ∷ event 27 15 0 0 ∷ [])
    ∷ one_session_ok (advisory 3) (advisory 3) (event 26 17 0 0 ∷ event 27 15 0 0 ∷ [])
    ∷ [])
