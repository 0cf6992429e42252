-- What is printed for a whole script (INTERFACES, "replay"): it is cut into lines by the framing, with LF as the boundary. Assumes nothing.
use Rattle.std.specs.Prelude.{cond, List, [], ◌∷◌, ◌++◌, ℕ, eqb, leb, length}
use Rattle.framing.specs.Cutting.{link_limit}
use Rattle.framing.specs.Stream.{StreamItem, empty, message, too_long}
use Rattle.replay.specs.declared.script.Line.TheVariants as lines
use Rattle.replay.specs.declared.runs.Run.{Run}
use Rattle.replay.specs.Script.{line_of}
use Rattle.replay.specs.Lines.{last_line}
use Rattle.replay.specs.Runs.{Done, silent, and_then, fresh_run, ready_for, taken}

-- a line with its LF: an empty one, one of at most 65,520 bytes, or a longer one, which is bad
abbrev pub taken_item : Run → StreamItem → Done
taken_item run empty = taken run lines.Nothing []
taken_item run (message w) = taken run (line_of w) w
taken_item run too_long = taken run lines.Bad []

abbrev pub taken_items : Run → List StreamItem → Done
taken_items run [] = silent run
taken_items run (x ∷ xs) = and_then (taken_item run x) (λ r. taken_items r xs)

-- a last line without one, of the bytes that wait
unfoldable pub taken_rest : Run → List ℕ → Done
taken_rest run w =
    cond (eqb (length w) 0) (silent run) (cond (leb (length w) link_limit) (taken run (line_of w) w) (taken run lines.Bad []))

-- what was printed, and the last line; the end of the script ends the settings too
abbrev pub ended : Done → List ℕ
ended done = done.printed ++ last_line (ready_for done.run lines.Bad)

-- the script's lines, and the bytes that wait behind its last LF
unfoldable pub replayed : List StreamItem → List ℕ → List ℕ
replayed items rest = ended (and_then (taken_items fresh_run items) (λ r. taken_rest r rest))
