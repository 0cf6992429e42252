-- The lines that are printed (INTERFACES, "replay"). Assumes nothing.
use Rattle.std.specs.Prelude.{cond, List, [], ◌∷◌, ◌++◌, ℕ, eqb}
use Rattle.message.specs.Words.{codes}
use Rattle.texts.specs.Fields.{space, line_end, field, decimal}
use Rattle.conduct.specs.declared.Event.{Event}
use Rattle.conduct.specs.Session.{state_number}
use Rattle.session.specs.Rows.{list_of}
use Rattle.session.specs.declared.Session.{Session}
use Rattle.session.specs.Answers.{Told}
use Rattle.replay.specs.declared.runs.Phase.{Phase}
use Rattle.replay.specs.declared.runs.Phase.TheVariants.{Settling, Running, Refused}
use Rattle.replay.specs.declared.runs.Run.{Run}

-- `c CODE NUMBER DETAIL`, of the call numbered c
unfoldable pub event_line : ℕ → Event → List ℕ
event_line call e =
    field (decimal call) space
    ++ (field (decimal e.code) space ++ (field (decimal e.number) space ++ field (decimal e.detail) line_end))

abbrev pub event_lines : ℕ → List Event → List ℕ
event_lines call [] = []
event_lines call (e ∷ es) = event_line call e ++ event_lines call es

-- `c refused R`
unfoldable pub refused_line : ℕ → ℕ → List ℕ
refused_line call refusal = field (decimal call) space ++ (field (codes "refused") space ++ field (decimal refusal) line_end)

unfoldable pub answer_lines : ℕ → Told → List ℕ
answer_lines call told = cond (eqb told.refusal 0) (event_lines call (list_of told.events)) (refused_line call told.refusal)

-- `line L bad`
unfoldable pub bad_line : ℕ → List ℕ
bad_line line = field (codes "line") space ++ (field (decimal line) space ++ field (codes "bad") line_end)

-- `stop R`
unfoldable pub stop_line : ℕ → List ℕ
stop_line refusal = field (codes "stop") space ++ field (decimal refusal) line_end

abbrev pub state_name : ℕ → List ℕ
state_name number =
    cond (eqb number 1) (codes "waiting")
    (cond (eqb number 2) (codes "connecting")
    (cond (eqb number 3) (codes "opening")
    (cond (eqb number 4) (codes "confirming")
    (cond (eqb number 5) (codes "up") (codes "stopped")))))

-- `end STATE OPEN`
unfoldable pub end_line : Session → List ℕ
end_line s = field (codes "end") space ++ (field (state_name (state_number s.state)) space ++ field (decimal s.pushes.count) line_end)

-- what is printed last
abbrev pub last_of : Phase → Session → List ℕ
last_of Settling s = []
last_of Running s = end_line s
last_of (Refused refusal) s = stop_line refusal

unfoldable pub last_line : Run → List ℕ
last_line run = last_of run.phase run.session
