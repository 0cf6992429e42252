-- What to do with each kind of message in each linked state (document 01, "The session"). Assumes nothing.
use Rattle.std.specs.Prelude.{List, [], ◌∷◌, ℕ, ◌-◌, get_or}
use Rattle.message.specs.declared.Kind.{Kind}
use Rattle.message.specs.Messages.{kind_number}
use Rattle.conduct.specs.declared.State.{State}
use Rattle.conduct.specs.declared.Action.{Action}
use Rattle.conduct.specs.declared.Action.TheVariants.{OutOfPlace, Answer, Acknowledge, Advise, Request}
use Rattle.conduct.specs.Session.{state_number}

-- a row for Opening, Confirming and Up; a column for SessionOpenRequest, SessionOpenResponse, SessionOk, Ok, Advisory, Request and Response
abbrev pub actions : List (List Action)
actions =
    (OutOfPlace ∷ Answer ∷ OutOfPlace ∷ OutOfPlace ∷ OutOfPlace ∷ OutOfPlace ∷ OutOfPlace ∷ [])
    ∷ (OutOfPlace ∷ OutOfPlace ∷ OutOfPlace ∷ Acknowledge ∷ Advise ∷ OutOfPlace ∷ OutOfPlace ∷ [])
    ∷ (OutOfPlace ∷ OutOfPlace ∷ OutOfPlace ∷ Acknowledge ∷ Advise ∷ Request ∷ OutOfPlace ∷ [])
    ∷ []

abbrev pub action_at : ℕ → ℕ → Action
action_at row column = get_or (get_or actions row []) column OutOfPlace

-- Opening is the third state, SessionOpenRequest the first kind. It is asked in linked states alone: Waiting and Connecting would have Opening's row,
-- as a difference below 0 is 0.
abbrev pub action_of : State → Kind → Action
action_of state kind = action_at (state_number state - 3) (kind_number kind - 1)
