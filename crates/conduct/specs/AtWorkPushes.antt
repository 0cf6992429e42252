-- Promise: the rules at work: pushes of a site with one resend, and the order in a tick. (proofs/PushesAtWork, TickOrderAtWork)
-- Assumes nothing.
use Rattle.std.specs.Prelude.{[], ◌∷◌, ◌++◌}
use Rattle.message.specs.declared.Kind.TheVariants as kinds
use Rattle.conduct.specs.Scripts.{ticking, connected, lost, push, advise}
use Rattle.conduct.specs.Scripts.{unreadable, bare, ok, unreadable_message, advisory, advisory_alone}
use Rattle.conduct.specs.Scripts.{AllAsDue, in_up, to_up, going_on, full, full_says}
use Rattle.conduct.specs.Scripts.Line.{event, refused}

-- With an interval of 100 no heartbeat comes between. The push is call 5, so that its 20th tick is call 25.
abbrev pub PushesAtWork : Type 0
PushesAtWork =
    AllAsDue
    ( -- a Response: again at the 20th tick, closed at the 40th
    in_up 100 (push 7 ∷ ticking 19 ∷ []) (event 5 4 3 7 ∷ []) 5 1
    ∷ in_up 100 (push 7 ∷ ticking 39 ∷ []) (event 5 4 3 7 ∷ event 25 5 3 7 ∷ []) 5 1
    ∷ in_up 100 (push 7 ∷ ticking 40 ∷ []) (event 5 4 3 7 ∷ event 25 5 3 7 ∷ event 45 11 3 7 ∷ []) 5 0
    ∷  -- an Advisory: closed at the 20th
    in_up 100 (advise 7 ∷ ticking 19 ∷ []) (event 5 6 3 7 ∷ []) 5 1
    ∷ in_up 100 (advise 7 ∷ ticking 20 ∷ []) (event 5 6 3 7 ∷ event 25 11 3 7 ∷ []) 5 0
    ∷  -- an Ok closes the one that it names, once
    in_up 100 (push 7 ∷ ok 3 ∷ ok 3 ∷ advisory 3 ∷ []) (event 5 4 3 7 ∷ event 6 9 3 7 ∷ event 7 15 0 0 ∷ event 8 15 0 0 ∷ []) 5 0
    ∷ in_up 100 (push 7 ∷ ticking 25 ∷ ok 3 ∷ []) (event 5 4 3 7 ∷ event 25 5 3 7 ∷ event 31 9 3 7 ∷ []) 5 0
    ∷ in_up 100 (advise 7 ∷ ticking 19 ∷ ok 3 ∷ []) (event 5 6 3 7 ∷ event 25 9 3 7 ∷ []) 5 0
    ∷ in_up 100 (push 7 ∷ ok 2 ∷ ok 4 ∷ ok 7 ∷ []) (event 5 4 3 7 ∷ event 6 15 0 0 ∷ event 7 15 0 0 ∷ event 8 15 0 0 ∷ []) 5 1
    ∷ in_up 100 (push 7 ∷ push 8 ∷ push 9 ∷ ok 4 ∷ ticking 20 ∷ [])
    (event 5 4 3 7 ∷ event 6 4 4 8 ∷ event 7 4 5 9 ∷ event 8 9 4 8 ∷ event 28 5 3 7 ∷ event 28 5 5 9 ∷ []) 5 2
    ∷  -- UnreadableMessage about a Response: again, and 20 ticks anew; about one that was sent twice, as another Advisory
    in_up 100 (push 7 ∷ ticking 5 ∷ unreadable_message 3 ∷ ticking 19 ∷ []) (event 5 4 3 7 ∷ event 11 5 3 7 ∷ []) 5 1
    ∷ in_up 100 (push 7 ∷ ticking 5 ∷ unreadable_message 3 ∷ ticking 20 ∷ []) (event 5 4 3 7 ∷ event 11 5 3 7 ∷ event 31 11 3 7 ∷ []) 5 0
    ∷ in_up 100 (push 7 ∷ unreadable_message 3 ∷ unreadable_message 3 ∷ []) (event 5 4 3 7 ∷ event 6 5 3 7 ∷ event 7 10 3 7 ∷ []) 5 0
    ∷ in_up 100 (push 7 ∷ ticking 20 ∷ unreadable_message 3 ∷ []) (event 5 4 3 7 ∷ event 25 5 3 7 ∷ event 26 10 3 7 ∷ []) 5 0
    ∷ in_up 100 (push 7 ∷ push 8 ∷ push 9 ∷ unreadable_message 4 ∷ ticking 20 ∷ [])
    (event 5 4 3 7 ∷ event 6 4 4 8 ∷ event 7 4 5 9 ∷ event 8 5 4 8 ∷ event 28 5 3 7 ∷ event 28 11 4 8 ∷ event 28 5 5 9 ∷ []) 5 2
    ∷  -- any other Advisory
    in_up 100 (push 7 ∷ advisory 3 ∷ advisory 3 ∷ []) (event 5 4 3 7 ∷ event 6 10 3 7 ∷ event 7 15 0 0 ∷ []) 5 0
    ∷ in_up 100 (push 7 ∷ ticking 20 ∷ advisory 3 ∷ []) (event 5 4 3 7 ∷ event 25 5 3 7 ∷ event 26 10 3 7 ∷ []) 5 0
    ∷ in_up 100 (push 7 ∷ push 8 ∷ push 9 ∷ advisory 4 ∷ ticking 20 ∷ [])
    (event 5 4 3 7 ∷ event 6 4 4 8 ∷ event 7 4 5 9 ∷ event 8 10 4 8 ∷ event 28 5 3 7 ∷ event 28 5 5 9 ∷ []) 5 2
    ∷ in_up 100 (push 7 ∷ unreadable_message 2 ∷ advisory 7 ∷ []) (event 5 4 3 7 ∷ event 6 15 0 0 ∷ event 7 15 0 0 ∷ []) 5 1
    ∷  -- an Advisory of the host is never sent again
    in_up 100 (advise 7 ∷ unreadable_message 3 ∷ []) (event 5 6 3 7 ∷ event 6 10 3 7 ∷ []) 5 0
    ∷ in_up 100 (advise 7 ∷ advisory 3 ∷ []) (event 5 6 3 7 ∷ event 6 10 3 7 ∷ []) 5 0
    ∷  -- each has its own 20 ticks; any handle may come twice
    in_up 100 (push 7 ∷ ticking 3 ∷ push 7 ∷ ticking 20 ∷ []) (event 5 4 3 7 ∷ event 9 4 4 7 ∷ event 26 5 3 7 ∷ event 29 5 4 7 ∷ []) 5 2
    ∷ in_up 100 (push 4294967295 ∷ advise 0 ∷ ok 3 ∷ ok 4 ∷ [])
    (event 5 4 3 4294967295 ∷ event 6 6 4 0 ∷ event 7 9 3 4294967295 ∷ event 8 9 4 0 ∷ []) 5 0
    ∷  -- nothing but a tick is one of the 20
    in_up 100
    (push 7
    ∷ ok 99
    ∷ advisory 99
    ∷ advisory_alone
    ∷ bare kinds.Request
    ∷ bare kinds.Response
    ∷ unreadable 9
    ∷ connected
    ∷ push 8
    ∷ ok 4
    ∷ ticking 20
    ∷ [])
    (event 5 4 3 7
    ∷ event 6 15 0 0
    ∷ event 7 15 0 0
    ∷ event 8 17 0 0
    ∷ event 9 13 0 0
    ∷ event 10 14 0 0
    ∷ event 11 16 0 9
    ∷ refused 12 6
    ∷ event 13 4 4 8
    ∷ event 14 9 4 8
    ∷ event 34 5 3 7
    ∷ []) 5 1
    ∷ in_up 21 (ticking 21 ∷ push 7 ∷ ok 3 ∷ ticking 20 ∷ []) (event 25 3 3 0 ∷ event 26 4 4 7 ∷ event 47 5 4 7 ∷ []) 5 1
    ∷ in_up 21 (ticking 21 ∷ push 7 ∷ advisory 3 ∷ ticking 20 ∷ []) (event 25 3 3 0 ∷ event 26 4 4 7 ∷ event 27 17 0 0 ∷ event 47 5 4 7 ∷ []) 5 1
    ∷  -- a resend keeps the order of acceptance
    in_up 100 (push 7 ∷ push 8 ∷ unreadable_message 3 ∷ ok 3 ∷ push 9 ∷ unreadable_message 4 ∷ lost ∷ [])
    (event 5 4 3 7
    ∷ event 6 4 4 8
    ∷ event 7 5 3 7
    ∷ event 8 9 3 7
    ∷ event 9 4 5 9
    ∷ event 10 5 4 8
    ∷ event 11 12 4 8
    ∷ event 11 12 5 9
    ∷ []) 1 0
    ∷ [])

abbrev pub TickOrderAtWork : Type 0
TickOrderAtWork =
    AllAsDue
    ( -- pushes due in order of acceptance, then the heartbeat
    in_up 21 (ticking 1 ∷ push 7 ∷ advise 8 ∷ push 9 ∷ ticking 20 ∷ [])
    (event 6 4 3 7
    ∷ event 7 6 4 8
    ∷ event 8 4 5 9
    ∷ event 28 5 3 7
    ∷ event 28 11 4 8
    ∷ event 28 5 5 9
    ∷ event 28 3 6 0
    ∷ []) 5 2
    ∷ going_on 21 (to_up ++ ticking 1 ∷ full ++ ticking 19 ∷ []) 34 (ticking 1 ∷ []) (full_says 1 5 ++ event 1 3 35 0 ∷ []) 5 32
    ∷  -- the tick that sends a heartbeat, and those in which it is open, are ticks of the pushes
    in_up 21 (push 7 ∷ ticking 40 ∷ []) (event 5 4 3 7 ∷ event 25 5 3 7 ∷ event 26 3 4 0 ∷ event 45 11 3 7 ∷ []) 5 0
    ∷  -- a tick that ends the session gives nothing else but the closings, though pushes are due
    in_up 21 (ticking 21 ∷ push 7 ∷ advise 8 ∷ ticking 20 ∷ [])
    (event 25 3 3 0
    ∷ event 26 4 4 7
    ∷ event 27 6 5 8
    ∷ event 47 19 6 0
    ∷ event 47 7 0 0
    ∷ event 47 12 4 7
    ∷ event 47 12 5 8
    ∷ []) 1 0
    ∷ going_on 21 (to_up ++ ticking 1 ∷ full ++ ticking 39 ∷ []) 35 (ticking 1 ∷ []) (event 1 19 36 0 ∷ event 1 7 0 0 ∷ full_says 1 12) 1 0
    ∷ [])
