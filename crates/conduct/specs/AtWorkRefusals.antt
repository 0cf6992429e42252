-- Promise: the rules at work: making, refused calls, and the test behind 27. (proofs/MakingAtWork, RefusalsAtWork, SoundAtWork)
-- Assumes nothing.
use Rattle.std.specs.Prelude.{◌≡◌, true, false, List, [], ◌∷◌, ◌++◌, map, ℕ, drop, None, Some}
use Rattle.message.specs.declared.Kind.TheVariants as kinds
use Rattle.conduct.specs.Lists.{some, all}
use Rattle.conduct.specs.Session.{Session, usual, with_resends, fresh, Made, make}
use Rattle.conduct.specs.Sound.{sound}
use Rattle.conduct.specs.Scripts.{ticking, connected, lost, stop, push, advise, unreadable, bare, ok, advisory}
use Rattle.conduct.specs.Scripts.{AllAsDue, example, in_connecting, in_opening, in_confirming, in_up, to_up, going_on, full, full_numbers}
use Rattle.conduct.specs.Scripts.Line.{event, refused}
use Rattle.conduct.specs.declared.State.{State}
use Rattle.conduct.specs.declared.State.TheVariants.{Waiting, Connecting, Opening, Confirming, Up, Stopped}
use Rattle.conduct.specs.declared.Push.{Push}
use Rattle.conduct.specs.declared.Pushed.{Pushed}
use Rattle.conduct.specs.declared.Conduct.TheVariants.{New}
use Rattle.conduct.specs.declared.Pushed.TheVariants.{Response, Advisory}

-- ---- making

abbrev pub made : ℕ → ℕ → Made
made interval resends =
    record { refusal = 0; session = record { site = record { interval = interval; conduct = New; resends = resends }; state = Waiting 1; pushes = []; last = 0 } }

abbrev pub refused_with : ℕ → Made
refused_with refusal =
    record { refusal = refusal; session = record { site = record { interval = 21; conduct = New; resends = 0 }; state = Stopped; pushes = []; last = 0 } }

abbrev pub MakingAtWork : Type 0
MakingAtWork =
    map (λ (interval : ℕ). make (usual interval)) (0 ∷ 20 ∷ 21 ∷ 22 ∷ 6000 ∷ 6001 ∷ 4294967295 ∷ [])
    ++ map (λ (resends : ℕ). make (with_resends resends (usual 21))) (0 ∷ 2 ∷ 3 ∷ 4 ∷ 4294967295 ∷ [])
    ++ map (λ (interval : ℕ). make (with_resends 4 (usual interval))) (20 ∷ 6001 ∷ 6000 ∷ [])
    ≡ refused_with 4 ∷ refused_with 4 ∷ made 21 1 ∷ made 22 1 ∷ made 6000 1 ∷ refused_with 4 ∷ refused_with 4
    ∷ made 21 0 ∷ made 21 2 ∷ made 21 3 ∷ refused_with 18 ∷ refused_with 18
    ∷ refused_with 4 ∷ refused_with 4 ∷ refused_with 18 ∷ []

-- ---- refused calls

abbrev pub RefusalsAtWork : Type 0
RefusalsAtWork =
    AllAsDue
    ( -- 6, in each state all that does not fit
    example (fresh (usual 21)) (connected ∷ lost ∷ push 7 ∷ advise 7 ∷ bare kinds.SessionOpenResponse ∷ unreadable 9 ∷ ticking 1 ∷ [])
    (refused 1 6 ∷ refused 2 6 ∷ refused 3 6 ∷ refused 4 6 ∷ refused 5 6 ∷ refused 6 6 ∷ event 7 1 0 0 ∷ []) 2 0
    ∷ in_connecting 21 (push 7 ∷ advise 7 ∷ bare kinds.SessionOpenResponse ∷ unreadable 9 ∷ ticking 1 ∷ connected ∷ [])
    (refused 2 6 ∷ refused 3 6 ∷ refused 4 6 ∷ refused 5 6 ∷ event 7 2 1 0 ∷ []) 3 0
    ∷ in_opening 21 (ticking 19 ∷ connected ∷ push 7 ∷ advise 7 ∷ ticking 1 ∷ [])
    (refused 22 6 ∷ refused 23 6 ∷ refused 24 6 ∷ event 25 18 2 0 ∷ event 25 19 3 0 ∷ event 25 7 0 0 ∷ []) 1 0
    ∷ in_confirming 21 (ticking 19 ∷ connected ∷ push 7 ∷ advise 7 ∷ ticking 1 ∷ [])
    (refused 23 6 ∷ refused 24 6 ∷ refused 25 6 ∷ event 26 19 3 0 ∷ event 26 7 0 0 ∷ []) 1 0
    ∷ in_up 21 (ticking 20 ∷ connected ∷ ticking 1 ∷ []) (refused 25 6 ∷ event 26 3 3 0 ∷ []) 5 0
    ∷  -- refusals handed in: 8 to 14 and no other
    in_opening 21 (unreadable 7 ∷ unreadable 8 ∷ unreadable 14 ∷ unreadable 15 ∷ [])
    (refused 3 6 ∷ event 4 16 0 8 ∷ event 5 16 0 14 ∷ refused 6 6 ∷ []) 3 0
    ∷ in_confirming 21 (unreadable 7 ∷ unreadable 8 ∷ unreadable 14 ∷ unreadable 15 ∷ [])
    (refused 4 6 ∷ event 5 16 0 8 ∷ event 6 16 0 14 ∷ refused 7 6 ∷ []) 4 0
    ∷ in_up 21
    (unreadable 0
    ∷ unreadable 7
    ∷ unreadable 8
    ∷ unreadable 9
    ∷ unreadable 10
    ∷ unreadable 11
    ∷ unreadable 12
    ∷ unreadable 13
    ∷ unreadable 14
    ∷ unreadable 15
    ∷ unreadable 4294967295
    ∷ [])
    (refused 5 6
    ∷ refused 6 6
    ∷ event 7 16 0 8
    ∷ event 8 16 0 9
    ∷ event 9 16 0 10
    ∷ event 10 16 0 11
    ∷ event 11 16 0 12
    ∷ event 12 16 0 13
    ∷ event 13 16 0 14
    ∷ refused 14 6
    ∷ refused 15 6
    ∷ []) 5 0
    ∷  -- 5, whatever the call
    example (fresh (usual 21)) (stop ∷ ticking 1 ∷ connected ∷ lost ∷ stop ∷ push 7 ∷ advise 7 ∷ bare kinds.Ok ∷ unreadable 9 ∷ unreadable 15 ∷ [])
    (refused 2 5
    ∷ refused 3 5
    ∷ refused 4 5
    ∷ refused 5 5
    ∷ refused 6 5
    ∷ refused 7 5
    ∷ refused 8 5
    ∷ refused 9 5
    ∷ refused 10 5
    ∷ []) 6 0
    ∷  -- 7, for the 33rd push; other calls are taken, a refused push takes no number, and room is used again at once
    going_on 100 (to_up ++ drop 1 full) 33
    (advise 9
    ∷ push 7
    ∷ advise 7
    ∷ bare kinds.Request
    ∷ unreadable 9
    ∷ ticking 1
    ∷ ok 5
    ∷ push 8
    ∷ advise 7
    ∷ advisory 34
    ∷ advise 9
    ∷ push 7
    ∷ [])
    (event 1 6 34 9
    ∷ refused 2 7
    ∷ refused 3 7
    ∷ event 4 13 0 0
    ∷ event 5 16 0 9
    ∷ event 7 9 5 7
    ∷ event 8 4 35 8
    ∷ refused 9 7
    ∷ event 10 10 34 9
    ∷ event 11 6 36 9
    ∷ refused 12 7
    ∷ []) 5 32
    ∷ [])

-- ---- the test behind 27

abbrev pub session_with : ℕ → State → List Push → Session
session_with interval state pushes = record { site = usual interval; state = state; pushes = pushes; last = 4294967295 }

abbrev pub a_push : Pushed → ℕ → ℕ → ℕ → Push
a_push what number sent age = record { what = what; number = number; handle = 4294967295; sent = sent; age = age }

abbrev pub responses : List ℕ → List Push
responses numbers = map (λ (n : ℕ). a_push Response n 1 0) numbers

abbrev pub in_states : List State → List Push → List Session
in_states states pushes = map (λ (state : State). session_with 21 state pushes) states

-- in Up, beside an open SessionOk of the number 2
abbrev pub up_with : List (List Push) → List Session
up_with rows = map (λ (pushes : List Push). session_with 21 (Up (Some 2) 0) pushes) rows

-- in Up, at a site with so many resends
abbrev pub up_resending : ℕ → List (List Push) → List Session
up_resending resends rows =
    map (λ (pushes : List Push). record { site = with_resends resends (usual 21); state = Up None 0; pushes = pushes; last = 0 }) rows

abbrev pub passing : List Session
passing =
    session_with 6000 (Up None 5999) []
    ∷ session_with 21 (Up None 0) (responses (2 ∷ []))
    ∷ in_states (Waiting 1 ∷ Waiting 300 ∷ Connecting ∷ Opening 0 ∷ Opening 19 ∷ Confirming 2 0 ∷ Confirming 2 19 ∷ Stopped ∷ []) []
    ++ in_states (Up (Some 2) 0 ∷ Up (Some 2) 19 ∷ Up None 0 ∷ Up None 20 ∷ []) []
    ++ up_with
    ((a_push Response 4 1 0 ∷ a_push Response 3 1 19 ∷ a_push Response 0 2 0 ∷ a_push Response 4294967295 2 19 ∷ [])
    ∷ (a_push Advisory 4 1 0 ∷ a_push Advisory 5 1 19 ∷ [])
    ∷ responses full_numbers
    ∷ [])
    ++ up_resending 0 ((a_push Response 4 1 19 ∷ a_push Advisory 5 1 19 ∷ []) ∷ [])
    ++ up_resending 2 ((a_push Response 4 3 19 ∷ []) ∷ [])
    ++ up_resending 3 ((a_push Response 4 4 19 ∷ a_push Response 5 1 0 ∷ a_push Advisory 6 1 0 ∷ []) ∷ [])

-- in each state, with an interval that is not allowed
abbrev pub in_all : ℕ → List Session
in_all interval =
    map (λ (state : State). session_with interval state [])
    (Waiting 1 ∷ Connecting ∷ Opening 0 ∷ Confirming 2 0 ∷ Up (Some 2) 0 ∷ Up None 0 ∷ Stopped ∷ [])

abbrev pub failing : List Session
failing =
    in_all 20 ++ in_all 6001
    ++ in_states (Waiting 0 ∷ Waiting 301 ∷ Opening 20 ∷ Confirming 2 20 ∷ Up (Some 2) 20 ∷ Up None 21 ∷ []) []
    ++ in_states (Waiting 1 ∷ Connecting ∷ Opening 0 ∷ Confirming 2 0 ∷ Stopped ∷ []) (responses (4 ∷ []))
    ++ up_with
    ((a_push Response 4 0 0 ∷ [])
    ∷ (a_push Response 4 3 0 ∷ [])
    ∷ (a_push Response 4 1 20 ∷ [])
    ∷ (a_push Response 4 2 20 ∷ [])
    ∷ (a_push Advisory 4 0 0 ∷ [])
    ∷ (a_push Advisory 4 2 0 ∷ [])
    ∷ (a_push Advisory 4 1 20 ∷ [])
    ∷ (a_push Response 4 1 0 ∷ a_push Response 5 1 20 ∷ [])
    ∷ responses (35 ∷ full_numbers)
    ∷ responses (2 ∷ [])
    ∷ responses (3 ∷ 2 ∷ [])
    ∷ responses (4 ∷ 4 ∷ [])
    ∷ responses (4 ∷ 5 ∷ 4 ∷ [])
    ∷ responses (5 ∷ 4 ∷ 4 ∷ [])
    ∷ [])
    ++ up_resending 0 ((a_push Response 4 2 0 ∷ []) ∷ (a_push Response 4 0 0 ∷ []) ∷ (a_push Advisory 4 2 0 ∷ []) ∷ [])
    ++ up_resending 2 ((a_push Response 4 4 0 ∷ []) ∷ [])
    ++ up_resending 3 ((a_push Response 4 5 0 ∷ []) ∷ (a_push Advisory 4 2 0 ∷ []) ∷ (a_push Response 4 4 20 ∷ []) ∷ (a_push Response 4 4294967295 0 ∷ []) ∷ [])
    ++ up_resending 4 ([] ∷ [])
    ++ up_resending 4294967295 ([] ∷ [])

abbrev pub SoundAtWork : Type 0
SoundAtWork = (all sound passing ≡ true) × (some sound failing ≡ false)
