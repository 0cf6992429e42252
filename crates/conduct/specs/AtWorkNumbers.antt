-- Promise: the rules at work: the numbers of messages. (proofs/NumbersAtWork)
-- Assumes nothing.
use Rattle.std.specs.Prelude.{[], ◌∷◌, ◌++◌}
use Rattle.conduct.specs.Session.{usual, fresh}
use Rattle.conduct.specs.Scripts.{ticking, connected, lost, stop, push, advise, answer_ok, ok, advisory}
use Rattle.conduct.specs.Scripts.{AllAsDue, example, in_opening, in_up, to_opening}
use Rattle.conduct.specs.Scripts.{to_confirming, to_up, with_last, going_on, full, full_says}
use Rattle.conduct.specs.Scripts.Line.{event}

-- Where an example goes on from what a script left, its calls are counted from there.
abbrev pub NumbersAtWork : Type 0
NumbersAtWork =
    AllAsDue
    ( -- the first is 1, and they go on over reconnections
    in_opening 21 (lost ∷ ticking 300 ∷ connected ∷ answer_ok ∷ ok 3 ∷ push 7 ∷ [])
    (event 303 1 0 0 ∷ event 304 2 2 0 ∷ event 305 3 3 0 ∷ event 306 8 0 0 ∷ event 307 4 4 7 ∷ [])
    5
    1
    ∷  -- 18 and 19 take one each, sending again none
    in_opening 21 (ticking 320 ∷ connected ∷ [])
    (event 22 18 2 0 ∷ event 22 19 3 0 ∷ event 22 7 0 0 ∷ event 322 1 0 0 ∷ event 323 2 4 0 ∷ []) 3 0
    ∷ in_up 100 (push 7 ∷ ticking 20 ∷ advise 8 ∷ []) (event 5 4 3 7 ∷ event 25 5 3 7 ∷ event 26 6 4 8 ∷ []) 5 2
    ∷  -- after 4,294,967,295 comes 0
    example (with_last 4294967295 (fresh (usual 21))) (ticking 1 ∷ connected ∷ []) (event 1 1 0 0 ∷ event 2 2 0 0 ∷ []) 3 0
    ∷ going_on 21 to_opening 4294967294 (ticking 20 ∷ []) (event 20 18 4294967295 0 ∷ event 20 19 0 0 ∷ event 20 7 0 0 ∷ []) 1 0
    ∷ going_on 21 to_opening 4294967295 (answer_ok ∷ ok 0 ∷ push 7 ∷ []) (event 1 3 0 0 ∷ event 2 8 0 0 ∷ event 3 4 1 7 ∷ []) 5 1
    ∷  -- and 0 is a number like any other
    going_on 21 to_opening 4294967295 (answer_ok ∷ advisory 0 ∷ []) (event 1 3 0 0 ∷ event 2 7 0 0 ∷ []) 1 0
    ∷ going_on 21 to_up 4294967295 (ticking 21 ∷ ok 0 ∷ ok 0 ∷ ticking 21 ∷ []) (event 21 3 0 0 ∷ event 23 15 0 0 ∷ event 44 3 1 0 ∷ []) 5 0
    ∷ going_on 21 to_up 4294967295 (ticking 21 ∷ advisory 0 ∷ ticking 21 ∷ []) (event 21 3 0 0 ∷ event 22 17 0 0 ∷ event 43 3 1 0 ∷ []) 5 0
    ∷ going_on 21 to_confirming 4294967295 (stop ∷ []) (event 1 19 0 0 ∷ event 1 7 0 0 ∷ []) 6 0
    ∷ going_on 21 to_up 4294967294 (advise 7 ∷ push 8 ∷ ok 0 ∷ ok 4294967295 ∷ ticking 21 ∷ [])
    (event 1 6 4294967295 7 ∷ event 2 4 0 8 ∷ event 3 9 0 8 ∷ event 4 9 4294967295 7 ∷ event 25 3 1 0 ∷ []) 5 0
    ∷  -- the numbers of open pushes are passed over, wherever they stand, and may be taken once they are closed
    going_on 100 (to_up ++ push 7 ∷ advise 8 ∷ []) 2 (push 9 ∷ ok 3 ∷ ok 4 ∷ ok 5 ∷ push 9 ∷ [])
    (event 1 4 5 9 ∷ event 2 9 3 7 ∷ event 3 9 4 8 ∷ event 4 9 5 9 ∷ event 5 4 6 9 ∷ []) 5 1
    ∷ going_on 100 (to_up ++ push 7 ∷ advise 8 ∷ []) 3 (advise 9 ∷ []) (event 1 6 5 9 ∷ []) 5 3
    ∷ going_on 100 (to_up ++ push 7 ∷ push 7 ∷ push 7 ∷ ok 4 ∷ []) 2 (push 9 ∷ push 9 ∷ []) (event 1 4 4 9 ∷ event 2 4 6 9 ∷ []) 5 4
    ∷ going_on 100 (to_up ++ push 7 ∷ push 8 ∷ []) 2 (ok 3 ∷ push 9 ∷ push 9 ∷ []) (event 1 9 3 7 ∷ event 2 4 3 9 ∷ event 3 4 5 9 ∷ []) 5 3
    ∷ going_on 21 (to_up ++ ticking 20 ∷ push 7 ∷ []) 2 (ticking 1 ∷ ok 3 ∷ ok 4 ∷ ticking 21 ∷ [])
    (event 1 3 4 0 ∷ event 2 9 3 7 ∷ event 24 3 5 0 ∷ []) 5 0
    ∷  -- so is that of an open SessionOk
    going_on 21 to_confirming 1 (stop ∷ []) (event 1 19 3 0 ∷ event 1 7 0 0 ∷ []) 6 0
    ∷ going_on 21 to_up 1 (push 7 ∷ []) (event 1 4 2 7 ∷ []) 5 1
    ∷ going_on 21 (to_up ++ ticking 21 ∷ []) 2 (push 7 ∷ []) (event 1 4 4 7 ∷ []) 5 1
    ∷ going_on 21 (to_up ++ ticking 21 ∷ []) 2 (ok 3 ∷ push 7 ∷ []) (event 2 4 3 7 ∷ []) 5 1
    ∷ going_on 21 (to_up ++ ticking 21 ∷ []) 2 (lost ∷ ticking 300 ∷ connected ∷ []) (event 301 1 0 0 ∷ event 302 2 3 0 ∷ []) 3 0
    ∷  -- 2, 18 and 19 hold none
    going_on 21 to_opening 0 (answer_ok ∷ []) (event 1 3 1 0 ∷ []) 4 0
    ∷ going_on 21 (to_opening ++ ticking 320 ∷ []) 1 (connected ∷ answer_ok ∷ []) (event 1 2 2 0 ∷ event 2 3 3 0 ∷ []) 4 0
    ∷  -- what was open when the call began is passed over, though the call closes it
    going_on 21 (to_up ++ push 7 ∷ []) 2 (stop ∷ []) (event 1 19 4 0 ∷ event 1 7 0 0 ∷ event 1 12 3 7 ∷ []) 6 0
    ∷ going_on 21 (to_up ++ ticking 1 ∷ advise 7 ∷ ticking 19 ∷ []) 2 (ticking 1 ∷ []) (event 1 11 3 7 ∷ event 1 3 4 0 ∷ []) 5 0
    ∷ going_on 21 (to_up ++ ticking 21 ∷ push 7 ∷ ticking 19 ∷ []) 2 (ticking 301 ∷ connected ∷ [])
    (event 1 19 5 0 ∷ event 1 7 0 0 ∷ event 1 12 4 7 ∷ event 301 1 0 0 ∷ event 302 2 6 0 ∷ []) 3 0
    ∷  -- all 33 that can be held, and two across the end
    going_on 21 (to_up ++ ticking 1 ∷ full ++ ticking 20 ∷ []) 2 (stop ∷ []) (event 1 19 36 0 ∷ event 1 7 0 0 ∷ full_says 1 12) 6 0
    ∷ example (with_last 4294967292 (fresh (usual 100)))
    (ticking 1 ∷ connected ∷ answer_ok ∷ ok 4294967294 ∷ push 7 ∷ push 8 ∷ advise 9 ∷ [])
    (event 1 1 0 0
    ∷ event 2 2 4294967293 0
    ∷ event 3 3 4294967294 0
    ∷ event 4 8 0 0
    ∷ event 5 4 4294967295 7
    ∷ event 6 4 0 8
    ∷ event 7 6 1 9
    ∷ []) 5 3
    ∷ [])
