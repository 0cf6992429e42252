-- THEOREM `silent_behind_refusal`: behind a refused making no line changes or prints anything (specs/Settings). And its last line, byte by
-- byte. Assumes nothing.
use mathlib.Core.Path.{◌≡◌, refl, ap, ◌∙◌}
use mathlib.Core.List.{List, [], ◌∷◌, ◌++◌}
use Prim.Native.Nat.{ℕ}
use Rattle.laws.specs.Search.{least}
use Rattle.message.specs.Words.{codes}
use Rattle.texts.specs.Fields.{places, decimal}
use Rattle.framing.specs.Stream.{StreamItem, empty, message, too_long}
use Rattle.replay.specs.declared.script.Line.{Line}
use Rattle.replay.specs.declared.script.Line.TheVariants as lines
use Rattle.replay.specs.declared.runs.Phase.TheVariants.{Refused}
use Rattle.replay.specs.declared.runs.Run.{Run}
use Rattle.replay.specs.Script.{line_of}
use Rattle.replay.specs.Lines.{stop_line, last_line}
use Rattle.replay.specs.Runs.{Done, silent, and_then, ready_for, taken}
use Rattle.replay.specs.Replay.{taken_item, taken_items}
use Rattle.replay.specs.Settings.{SilentBehindRefusal}

pub taken_refused : (run : Run) (line : Line) (bytes : List ℕ) {refusal : ℕ} → (ready_for run line).phase ≡ Refused refusal
    → taken run line bytes ≡ silent (ready_for run line)
unfolding taken
taken_refused run line bytes e = rw e

-- ---- lines one after the other

line_refused : (run : Run) (line : Line) (bytes : List ℕ) {refusal : ℕ} → run.phase ≡ Refused refusal → taken run line bytes ≡ silent run
unfolding ready_for
line_refused run line bytes e = taken_refused run line bytes (ap (λ (r : Run). r.phase) stays ∙ e) ∙ ap silent stays
  where
    stays : ready_for run line ≡ run
    stays = rw e

item_refused : (run : Run) (x : StreamItem) {refusal : ℕ} → run.phase ≡ Refused refusal → taken_item run x ≡ silent run
item_refused run empty e = line_refused run lines.Nothing [] e
item_refused run (message w) e = line_refused run (line_of w) w e
item_refused run too_long e = line_refused run lines.Bad [] e

pub silent_behind_refusal : SilentBehindRefusal
silent_behind_refusal run refusal [] e = refl
silent_behind_refusal run refusal (x ∷ xs) e =
    ap (λ (d : Done). and_then d (λ r. taken_items r xs)) (item_refused run x e) ∙ silent_behind_refusal run refusal xs e

-- ---- the last line

pub last_by_4 : (run : Run) → run.phase ≡ Refused 4 → last_line run ≡ codes "stop 4" ++ (10 ∷ [])
unfolding last_line stop_line decimal places least
last_by_4 run e = rw e

pub last_by_18 : (run : Run) → run.phase ≡ Refused 18 → last_line run ≡ codes "stop 18" ++ (10 ∷ [])
unfolding last_line stop_line decimal places least
last_by_18 run e = rw e
