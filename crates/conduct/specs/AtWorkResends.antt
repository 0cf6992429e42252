-- Promise: the rules at work: a Response at sites with 0, 2 and 3 resends (document 02, M-105), and what becomes of one push whatever its terms and its counts.
-- (proofs/ResendsAtWork, FatesAtWork)
-- Assumes nothing.
use Rattle.std.specs.Prelude.{◌≡◌, List, [], ◌∷◌, ◌++◌, map, ℕ}
use Rattle.conduct.specs.Session.{usual, with_resends, fresh}
use Rattle.conduct.specs.Pushes.{fate_of}
use Rattle.conduct.specs.Scripts.{ticking, connected, lost, push, advise, answer_ok, ok, unreadable_message, advisory}
use Rattle.conduct.specs.Scripts.{Script, Line, Example, AllAsDue, example, to_up}
use Rattle.conduct.specs.Scripts.Line.{event}
use Rattle.conduct.specs.declared.Event.{Event}
use Rattle.conduct.specs.declared.Push.{Push}
use Rattle.conduct.specs.declared.Pushed.{Pushed}
use Rattle.conduct.specs.declared.Pushed.TheVariants.{Response, Advisory}
use Rattle.conduct.specs.declared.Fate.TheVariants.{Keep, Again, Close}
use Rattle.conduct.specs.declared.Sweep.TheVariants as sweeps
use Rattle.conduct.specs.declared.Terms.{Terms}

-- ---- sessions

-- brought up at a site with so many resends; with an interval of 100 no heartbeat comes between
abbrev pub resending : ℕ → Script → List Line → ℕ → ℕ → Example
resending resends script lines =
    example (fresh (with_resends resends (usual 100))) (to_up ++ script)
    (event 1 1 0 0 ∷ event 2 2 1 0 ∷ event 3 3 2 0 ∷ event 4 8 0 0 ∷ lines)

-- The push is call 5, so that its 20th tick is call 25.
abbrev pub ResendsAtWork : Type 0
ResendsAtWork =
    AllAsDue
    ( -- silence: again at each 20th tick while a sending is left, and closed at the next
    resending 0 (push 7 ∷ ticking 19 ∷ []) (event 5 4 3 7 ∷ []) 5 1
    ∷ resending 0 (push 7 ∷ ticking 20 ∷ []) (event 5 4 3 7 ∷ event 25 11 3 7 ∷ []) 5 0
    ∷ resending 2 (push 7 ∷ ticking 59 ∷ []) (event 5 4 3 7 ∷ event 25 5 3 7 ∷ event 45 5 3 7 ∷ []) 5 1
    ∷ resending 2 (push 7 ∷ ticking 60 ∷ []) (event 5 4 3 7 ∷ event 25 5 3 7 ∷ event 45 5 3 7 ∷ event 65 11 3 7 ∷ []) 5 0
    ∷ resending 3 (push 7 ∷ ticking 79 ∷ []) (event 5 4 3 7 ∷ event 25 5 3 7 ∷ event 45 5 3 7 ∷ event 65 5 3 7 ∷ []) 5 1
    ∷ resending 3 (push 7 ∷ ticking 80 ∷ []) (event 5 4 3 7 ∷ event 25 5 3 7 ∷ event 45 5 3 7 ∷ event 65 5 3 7 ∷ event 85 11 3 7 ∷ []) 5 0
    ∷  -- an UnreadableMessage at the 5th tick uses a sending up, and the end comes nearer
    resending 0 (push 7 ∷ ticking 5 ∷ unreadable_message 3 ∷ []) (event 5 4 3 7 ∷ event 11 10 3 7 ∷ []) 5 0
    ∷ resending 2 (push 7 ∷ ticking 5 ∷ unreadable_message 3 ∷ ticking 40 ∷ [])
    (event 5 4 3 7 ∷ event 11 5 3 7 ∷ event 31 5 3 7 ∷ event 51 11 3 7 ∷ []) 5 0
    ∷ resending 3 (push 7 ∷ ticking 5 ∷ unreadable_message 3 ∷ ticking 60 ∷ [])
    (event 5 4 3 7 ∷ event 11 5 3 7 ∷ event 31 5 3 7 ∷ event 51 5 3 7 ∷ event 71 11 3 7 ∷ []) 5 0
    ∷  -- with none left it closes
    resending 2 (push 7 ∷ unreadable_message 3 ∷ unreadable_message 3 ∷ unreadable_message 3 ∷ [])
    (event 5 4 3 7 ∷ event 6 5 3 7 ∷ event 7 5 3 7 ∷ event 8 10 3 7 ∷ []) 5 0
    ∷ resending 3 (push 7 ∷ ticking 60 ∷ unreadable_message 3 ∷ [])
    (event 5 4 3 7 ∷ event 25 5 3 7 ∷ event 45 5 3 7 ∷ event 65 5 3 7 ∷ event 66 10 3 7 ∷ []) 5 0
    ∷  -- another Advisory closes it whatever is left, and so does its Ok, up to the last tick
    resending 3 (push 7 ∷ ticking 25 ∷ advisory 3 ∷ []) (event 5 4 3 7 ∷ event 25 5 3 7 ∷ event 31 10 3 7 ∷ []) 5 0
    ∷ resending 3 (push 7 ∷ ticking 79 ∷ ok 3 ∷ [])
    (event 5 4 3 7 ∷ event 25 5 3 7 ∷ event 45 5 3 7 ∷ event 65 5 3 7 ∷ event 85 9 3 7 ∷ []) 5 0
    ∷  -- each push counts its own sendings, and a resend keeps number, handle and order
    resending 2 (push 7 ∷ push 8 ∷ unreadable_message 3 ∷ unreadable_message 3 ∷ ticking 20 ∷ push 9 ∷ [])
    (event 5 4 3 7 ∷ event 6 4 4 8 ∷ event 7 5 3 7 ∷ event 8 5 3 7 ∷ event 28 11 3 7 ∷ event 28 5 4 8 ∷ event 29 4 5 9 ∷ []) 5 2
    ∷  -- an Advisory is sent once
    resending 0 (advise 7 ∷ ticking 20 ∷ []) (event 5 6 3 7 ∷ event 25 11 3 7 ∷ []) 5 0
    ∷ resending 3 (advise 7 ∷ ticking 20 ∷ []) (event 5 6 3 7 ∷ event 25 11 3 7 ∷ []) 5 0
    ∷ resending 3 (advise 7 ∷ unreadable_message 3 ∷ []) (event 5 6 3 7 ∷ event 6 10 3 7 ∷ []) 5 0
    ∷  -- the link lost and come back, the figure is the same
    resending 2 (lost ∷ ticking 300 ∷ connected ∷ answer_ok ∷ ok 4 ∷ push 7 ∷ ticking 60 ∷ [])
    (event 305 1 0 0
    ∷ event 306 2 3 0
    ∷ event 307 3 4 0
    ∷ event 308 8 0 0
    ∷ event 309 4 5 7
    ∷ event 329 5 5 7
    ∷ event 349 5 5 7
    ∷ event 369 11 5 7
    ∷ []) 5 0
    ∷  -- what opens the session, and a heartbeat, is sent once: without an answer the session ends after 20 ticks
    resending 3 (lost ∷ ticking 300 ∷ connected ∷ ticking 20 ∷ [])
    (event 305 1 0 0 ∷ event 306 2 3 0 ∷ event 326 18 4 0 ∷ event 326 19 5 0 ∷ event 326 7 0 0 ∷ []) 1 0
    ∷ resending 3 (lost ∷ ticking 300 ∷ connected ∷ answer_ok ∷ ticking 20 ∷ [])
    (event 305 1 0 0 ∷ event 306 2 3 0 ∷ event 307 3 4 0 ∷ event 327 19 5 0 ∷ event 327 7 0 0 ∷ []) 1 0
    ∷ resending 3 (ticking 99 ∷ push 7 ∷ ticking 21 ∷ [])
    (event 104 4 3 7 ∷ event 105 3 4 0 ∷ event 124 5 3 7 ∷ event 125 19 5 0 ∷ event 125 7 0 0 ∷ event 125 12 3 7 ∷ []) 1 0
    ∷ [])

-- ---- one push, up to counts that no session has: nothing overflows

abbrev pub terms_with : ℕ → ℕ → Terms
terms_with ticks resends = record { ticks = ticks; resends = resends }

abbrev pub push_of : Pushed → ℕ → ℕ → Push
push_of what sent age = record { what = what; number = 3; handle = 7; sent = sent; age = age }

abbrev pub saying : ℕ → Event
saying code = record { code = code; number = 3; detail = 7 }

abbrev pub FatesAtWork : Type 0
FatesAtWork =
    (map (fate_of (terms_with 20 4294967295) sweeps.Older)
    (push_of Response 3 18 ∷ push_of Response 3 19 ∷ push_of Response 4 19 ∷ push_of Response 4294967295 19 ∷ push_of Response 4294967295 4294967295 ∷ [])
    ≡ Keep (push_of Response 3 19) ∷ Again (push_of Response 4 0) (saying 5) ∷ Close (saying 11) ∷ Close (saying 11) ∷ Close (saying 11) ∷ [])
    × (map (fate_of (terms_with 4294967295 3) sweeps.Older)
    (push_of Advisory 1 4294967293 ∷ push_of Advisory 1 4294967294 ∷ push_of Response 3 4294967294 ∷ push_of Response 4 4294967295 ∷ [])
    ≡ Keep (push_of Advisory 1 4294967294) ∷ Close (saying 11) ∷ Again (push_of Response 4 0) (saying 5) ∷ Close (saying 11) ∷ [])
    × (map (fate_of (terms_with 0 2) (sweeps.UnreadableMessage 3))
    (push_of Response 2 0 ∷ push_of Response 3 0 ∷ push_of Response 4294967295 0 ∷ push_of Advisory 1 0 ∷ [])
    ≡ Again (push_of Response 3 0) (saying 5) ∷ Close (saying 10) ∷ Close (saying 10) ∷ Close (saying 10) ∷ [])
