-- Promise: the rules at work: waiting, opening, confirming, heartbeats, endings. (proofs/WaitingAtWork, Opening…, Confirming…, Heartbeat…, Endings…, Stopped…)
-- Assumes nothing.
use Rattle.std.specs.Prelude.{◌≡◌, [], ◌∷◌, ◌++◌, map, ℕ}
use Rattle.message.specs.declared.Kind.TheVariants as kinds
use Rattle.conduct.specs.Session.{Session, usual, in_conduct, fresh}
use Rattle.conduct.specs.declared.Conduct.TheVariants.{Old}
use Rattle.conduct.specs.History.{session_after}
use Rattle.conduct.specs.declared.State.TheVariants.{Stopped}
use Rattle.conduct.specs.Scripts.{ticking, connected, lost, stop, push}
use Rattle.conduct.specs.Scripts.{advise, unreadable, bare, answer_ok, answer_redundant_session, answer_other}
use Rattle.conduct.specs.Scripts.{ok, unreadable_message, advisory, advisory_alone}
use Rattle.conduct.specs.Scripts.{AllAsDue, example, in_connecting, in_opening, in_confirming, in_up, to_opening, to_up, going_on, full, full_says}
use Rattle.conduct.specs.Scripts.{Script, calls_of}
use Rattle.conduct.specs.Scripts.Line.{event, refused}

abbrev pub WaitingAtWork : Type 0
WaitingAtWork =
    AllAsDue
    ( -- fresh, one tick is left
    example (fresh (usual 21)) [] [] 1 0
    ∷ example (fresh (usual 21)) (ticking 1 ∷ []) (event 1 1 0 0 ∷ []) 2 0
    ∷  -- ticks in Connecting do nothing
    in_connecting 21 (ticking 400 ∷ []) [] 2 0
    ∷ in_connecting 21 (connected ∷ []) (event 2 2 1 0 ∷ []) 3 0
    ∷ in_connecting 21 (ticking 400 ∷ connected ∷ []) (event 402 2 1 0 ∷ []) 3 0
    ∷  -- after an ending 300 are left
    in_connecting 21 (lost ∷ ticking 299 ∷ []) [] 1 0
    ∷ in_connecting 21 (lost ∷ ticking 300 ∷ []) (event 302 1 0 0 ∷ []) 2 0
    ∷ [])

abbrev pub OpeningAtWork : Type 0
OpeningAtWork =
    AllAsDue
    (in_opening 21 (answer_ok ∷ []) (event 3 3 2 0 ∷ []) 4 0
    ∷ in_opening 21 (answer_redundant_session ∷ ticking 300 ∷ []) (event 3 7 0 0 ∷ event 303 1 0 0 ∷ []) 2 0
    ∷ example (fresh (in_conduct Old (usual 21))) (ticking 1 ∷ connected ∷ answer_redundant_session ∷ []) (event 1 1 0 0 ∷ event 2 2 1 0 ∷ event 3 3 2 0 ∷ []) 4 0
    ∷  -- any other status, or none, and then 300 ticks
    in_opening 21 (answer_other ∷ ticking 300 ∷ []) (event 3 7 0 0 ∷ event 303 1 0 0 ∷ []) 2 0
    ∷ in_opening 21 (bare kinds.SessionOpenResponse ∷ ticking 299 ∷ []) (event 3 7 0 0 ∷ []) 1 0
    ∷  -- 19 ticks, and the 20th
    in_opening 21 (ticking 19 ∷ []) [] 3 0
    ∷ in_opening 21 (ticking 19 ∷ answer_ok ∷ []) (event 22 3 2 0 ∷ []) 4 0
    ∷ in_opening 21 (ticking 20 ∷ []) (event 22 18 2 0 ∷ event 22 19 3 0 ∷ event 22 7 0 0 ∷ []) 1 0
    ∷ in_opening 21 (ticking 320 ∷ []) (event 22 18 2 0 ∷ event 22 19 3 0 ∷ event 22 7 0 0 ∷ event 322 1 0 0 ∷ []) 2 0
    ∷  -- they are counted from the SessionOpenRequest, and what arrives does not move them
    in_connecting 21 (ticking 30 ∷ connected ∷ ticking 19 ∷ []) (event 32 2 1 0 ∷ []) 3 0
    ∷ in_opening 21 (ticking 10 ∷ bare kinds.Ok ∷ unreadable 9 ∷ ticking 10 ∷ [])
    (event 13 14 0 0 ∷ event 14 16 0 9 ∷ event 24 18 2 0 ∷ event 24 19 3 0 ∷ event 24 7 0 0 ∷ []) 1 0
    ∷ [])

abbrev pub ConfirmingAtWork : Type 0
ConfirmingAtWork =
    AllAsDue
    (in_confirming 21 (ok 2 ∷ []) (event 4 8 0 0 ∷ []) 5 0
    ∷  -- an Ok that names another number
    in_confirming 21 (ok 1 ∷ ok 3 ∷ []) (event 4 15 0 0 ∷ event 5 15 0 0 ∷ []) 4 0
    ∷ in_confirming 21 (ok 3 ∷ ok 2 ∷ []) (event 4 15 0 0 ∷ event 5 8 0 0 ∷ []) 5 0
    ∷  -- an Advisory about it, about another, and about none
    in_confirming 21 (advisory 2 ∷ ticking 300 ∷ []) (event 4 7 0 0 ∷ event 304 1 0 0 ∷ []) 2 0
    ∷ in_confirming 21 (unreadable_message 2 ∷ ticking 299 ∷ []) (event 4 7 0 0 ∷ []) 1 0
    ∷ in_confirming 21 (advisory 1 ∷ unreadable_message 3 ∷ []) (event 4 15 0 0 ∷ event 5 15 0 0 ∷ []) 4 0
    ∷ in_confirming 21 (advisory_alone ∷ []) (event 4 17 0 0 ∷ []) 4 0
    ∷  -- 19 ticks, and the 20th
    in_confirming 21 (ticking 19 ∷ []) [] 4 0
    ∷ in_confirming 21 (ticking 19 ∷ ok 2 ∷ []) (event 23 8 0 0 ∷ []) 5 0
    ∷ in_confirming 21 (ticking 20 ∷ []) (event 23 19 3 0 ∷ event 23 7 0 0 ∷ []) 1 0
    ∷ in_confirming 21 (ticking 320 ∷ []) (event 23 19 3 0 ∷ event 23 7 0 0 ∷ event 323 1 0 0 ∷ []) 2 0
    ∷  -- they are counted from the SessionOk, after either status, and what arrives does not move them
    in_opening 21 (ticking 19 ∷ answer_ok ∷ ticking 19 ∷ []) (event 22 3 2 0 ∷ []) 4 0
    ∷ example (fresh (in_conduct Old (usual 21))) (ticking 1 ∷ connected ∷ ticking 19 ∷ answer_redundant_session ∷ ticking 20 ∷ [])
    (event 1 1 0 0 ∷ event 2 2 1 0 ∷ event 22 3 2 0 ∷ event 42 19 3 0 ∷ event 42 7 0 0 ∷ []) 1 0
    ∷ in_confirming 21 (ticking 10 ∷ ok 1 ∷ advisory 1 ∷ advisory_alone ∷ bare kinds.Request ∷ unreadable 13 ∷ ticking 10 ∷ [])
    (event 14 15 0 0
    ∷ event 15 15 0 0
    ∷ event 16 17 0 0
    ∷ event 17 14 0 0
    ∷ event 18 16 0 13
    ∷ event 28 19 3 0
    ∷ event 28 7 0 0
    ∷ []) 1 0
    ∷ [])

-- 20 ticks after its SessionOk the interval of 21 has one left
abbrev pub HeartbeatAtWork : Type 0
HeartbeatAtWork =
    AllAsDue
    (in_up 21 (ticking 20 ∷ []) [] 5 0
    ∷ in_up 21 (ticking 21 ∷ []) (event 25 3 3 0 ∷ []) 5 0
    ∷ in_up 30 (ticking 30 ∷ []) (event 34 3 3 0 ∷ []) 5 0
    ∷  -- the interval outlasts the link
    in_up 30 (lost ∷ ticking 300 ∷ connected ∷ answer_ok ∷ ok 4 ∷ ticking 30 ∷ [])
    (event 305 1 0 0 ∷ event 306 2 3 0 ∷ event 307 3 4 0 ∷ event 308 8 0 0 ∷ event 338 3 5 0 ∷ []) 5 0
    ∷  -- Confirming's ticks are among them
    in_confirming 21 (ticking 19 ∷ ok 2 ∷ ticking 2 ∷ []) (event 23 8 0 0 ∷ event 25 3 3 0 ∷ []) 5 0
    ∷  -- an Ok closes it with no event, and once; the next is due 21 ticks after it was sent
    in_up 21 (ticking 31 ∷ ok 3 ∷ ok 3 ∷ ticking 11 ∷ []) (event 25 3 3 0 ∷ event 37 15 0 0 ∷ event 48 3 4 0 ∷ []) 5 0
    ∷ in_up 21 (ticking 21 ∷ ok 3 ∷ ticking 21 ∷ ok 4 ∷ ticking 21 ∷ ok 5 ∷ []) (event 25 3 3 0 ∷ event 47 3 4 0 ∷ event 69 3 5 0 ∷ []) 5 0
    ∷  -- an Advisory of either type closes it too
    in_up 21 (ticking 22 ∷ advisory 3 ∷ ticking 20 ∷ []) (event 25 3 3 0 ∷ event 27 17 0 0 ∷ event 47 3 4 0 ∷ []) 5 0
    ∷ in_up 21 (ticking 22 ∷ unreadable_message 3 ∷ ticking 20 ∷ []) (event 25 3 3 0 ∷ event 27 17 0 0 ∷ event 47 3 4 0 ∷ []) 5 0
    ∷  -- 19 ticks open, and the 20th
    in_up 21 (ticking 40 ∷ []) (event 25 3 3 0 ∷ []) 5 0
    ∷ in_up 21 (ticking 40 ∷ ok 3 ∷ ticking 2 ∷ []) (event 25 3 3 0 ∷ event 47 3 4 0 ∷ []) 5 0
    ∷ in_up 21 (ticking 41 ∷ []) (event 25 3 3 0 ∷ event 45 19 4 0 ∷ event 45 7 0 0 ∷ []) 1 0
    ∷ in_up 21 (ticking 341 ∷ []) (event 25 3 3 0 ∷ event 45 19 4 0 ∷ event 45 7 0 0 ∷ event 345 1 0 0 ∷ []) 2 0
    ∷  -- what names another number, or the SessionOk of Confirming, closes nothing
    in_up 21 (ok 2 ∷ advisory 2 ∷ []) (event 5 15 0 0 ∷ event 6 15 0 0 ∷ []) 5 0
    ∷ in_up 21 (ticking 21 ∷ ok 2 ∷ advisory 4 ∷ ticking 20 ∷ [])
    (event 25 3 3 0 ∷ event 26 15 0 0 ∷ event 27 15 0 0 ∷ event 47 19 4 0 ∷ event 47 7 0 0 ∷ []) 1 0
    ∷  -- what else happens moves neither the one timer nor the other
    in_up 21
    (ticking 10
    ∷ push 7
    ∷ ok 3
    ∷ bare kinds.Request
    ∷ advisory_alone
    ∷ unreadable 9
    ∷ advise 8
    ∷ advisory 4
    ∷ ok 99
    ∷ bare kinds.SessionOk
    ∷ ticking 11
    ∷ [])
    (event 15 4 3 7
    ∷ event 16 9 3 7
    ∷ event 17 13 0 0
    ∷ event 18 17 0 0
    ∷ event 19 16 0 9
    ∷ event 20 6 4 8
    ∷ event 21 10 4 8
    ∷ event 22 15 0 0
    ∷ event 23 14 0 0
    ∷ event 34 3 5 0
    ∷ []) 5 0
    ∷ in_up 21
    (ticking 31
    ∷ push 9
    ∷ unreadable_message 4
    ∷ ok 4
    ∷ bare kinds.Request
    ∷ advisory 77
    ∷ ok 77
    ∷ advisory_alone
    ∷ unreadable 8
    ∷ bare kinds.Response
    ∷ ticking 10
    ∷ [])
    (event 25 3 3 0
    ∷ event 36 4 4 9
    ∷ event 37 5 4 9
    ∷ event 38 9 4 9
    ∷ event 39 13 0 0
    ∷ event 40 15 0 0
    ∷ event 41 15 0 0
    ∷ event 42 17 0 0
    ∷ event 43 16 0 8
    ∷ event 44 14 0 0
    ∷ event 54 19 5 0
    ∷ event 54 7 0 0
    ∷ []) 1 0
    ∷ [])

abbrev pub EndingsAtWork : Type 0
EndingsAtWork =
    AllAsDue
    ( -- the link is lost in each state that it fits
    example (fresh (usual 21)) (lost ∷ []) (refused 1 6 ∷ []) 1 0
    ∷ in_connecting 21 (lost ∷ lost ∷ ticking 300 ∷ []) (refused 3 6 ∷ event 303 1 0 0 ∷ []) 2 0
    ∷ in_opening 21 (lost ∷ lost ∷ ticking 300 ∷ []) (refused 4 6 ∷ event 304 1 0 0 ∷ []) 2 0
    ∷ in_confirming 21 (lost ∷ lost ∷ ticking 300 ∷ []) (refused 5 6 ∷ event 305 1 0 0 ∷ []) 2 0
    ∷ in_up 21 (lost ∷ lost ∷ ticking 300 ∷ []) (refused 6 6 ∷ event 306 1 0 0 ∷ []) 2 0
    ∷  -- open pushes are closed in order of acceptance; an open SessionOk is gone with no event
    in_up 21 (push 7 ∷ advise 8 ∷ push 9 ∷ ok 4 ∷ advise 6 ∷ lost ∷ [])
    (event 5 4 3 7
    ∷ event 6 6 4 8
    ∷ event 7 4 5 9
    ∷ event 8 9 4 8
    ∷ event 9 6 6 6
    ∷ event 10 12 3 7
    ∷ event 10 12 5 9
    ∷ event 10 12 6 6
    ∷ []) 1 0
    ∷ in_up 21 (ticking 21 ∷ push 7 ∷ lost ∷ []) (event 25 3 3 0 ∷ event 26 4 4 7 ∷ event 27 12 4 7 ∷ []) 1 0
    ∷ going_on 100 (to_up ++ full) 34 (lost ∷ []) (full_says 1 12) 1 0
    ∷  -- the session is stopped in each state
    example (fresh (usual 21)) (stop ∷ stop ∷ []) (refused 2 5 ∷ []) 6 0
    ∷ in_connecting 21 (stop ∷ stop ∷ []) (refused 3 5 ∷ []) 6 0
    ∷ in_opening 21 (stop ∷ stop ∷ []) (event 3 19 2 0 ∷ event 3 7 0 0 ∷ refused 4 5 ∷ []) 6 0
    ∷ in_confirming 21 (stop ∷ stop ∷ []) (event 4 19 3 0 ∷ event 4 7 0 0 ∷ refused 5 5 ∷ []) 6 0
    ∷ in_up 21 (stop ∷ stop ∷ []) (event 5 19 3 0 ∷ event 5 7 0 0 ∷ refused 6 5 ∷ []) 6 0
    ∷ in_up 21 (push 7 ∷ advise 8 ∷ stop ∷ [])
    (event 5 4 3 7 ∷ event 6 6 4 8 ∷ event 7 19 5 0 ∷ event 7 7 0 0 ∷ event 7 12 3 7 ∷ event 7 12 4 8 ∷ []) 6 0
    ∷ in_up 21 (ticking 21 ∷ push 7 ∷ stop ∷ [])
    (event 25 3 3 0 ∷ event 26 4 4 7 ∷ event 27 19 5 0 ∷ event 27 7 0 0 ∷ event 27 12 4 7 ∷ []) 6 0
    ∷  -- a SessionOk is open for too long
    in_up 21 (ticking 26 ∷ push 7 ∷ advise 8 ∷ ticking 15 ∷ [])
    (event 25 3 3 0
    ∷ event 31 4 4 7
    ∷ event 32 6 5 8
    ∷ event 47 19 6 0
    ∷ event 47 7 0 0
    ∷ event 47 12 4 7
    ∷ event 47 12 5 8
    ∷ []) 1 0
    ∷  -- afterwards calls get 6 or 5
    in_opening 21 (answer_other ∷ lost ∷ connected ∷ push 7 ∷ advise 8 ∷ bare kinds.Ok ∷ unreadable 9 ∷ [])
    (event 3 7 0 0 ∷ refused 4 6 ∷ refused 5 6 ∷ refused 6 6 ∷ refused 7 6 ∷ refused 8 6 ∷ refused 9 6 ∷ []) 1 0
    ∷ in_confirming 21 (stop ∷ ticking 1 ∷ connected ∷ lost ∷ push 7 ∷ advise 8 ∷ bare kinds.Ok ∷ unreadable 9 ∷ [])
    (event 4 19 3 0
    ∷ event 4 7 0 0
    ∷ refused 5 5
    ∷ refused 6 5
    ∷ refused 7 5
    ∷ refused 8 5
    ∷ refused 9 5
    ∷ refused 10 5
    ∷ refused 11 5
    ∷ []) 6 0
    ∷ [])

-- what is left of a session that was stopped: what it was made with, and the last number taken
abbrev pub stopped_with : ℕ → Session
stopped_with last = record { site = usual 30; state = Stopped; pushes = []; last = last }

abbrev pub StoppedAtWork : Type 0
StoppedAtWork =
    map (λ (script : Script). session_after (fresh (usual 30)) (calls_of script))
    ((stop ∷ []) ∷ (ticking 1 ∷ stop ∷ []) ∷ (to_opening ++ stop ∷ []) ∷ (to_up ++ push 7 ∷ stop ∷ []) ∷ (to_up ++ lost ∷ ticking 7 ∷ stop ∷ ticking 1 ∷ []) ∷ [])
    ≡ stopped_with 0 ∷ stopped_with 0 ∷ stopped_with 2 ∷ stopped_with 4 ∷ stopped_with 2 ∷ []
