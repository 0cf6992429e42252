-- `text::runs::plain_note_end` meets its contract: from each place that the loop comes to, the run ends where it ends from the first. Assumes nothing.
use mathlib.Core.Path.{◌≡◌}
use Prim.Native.Nat.{◌-◌}
use lib.ListN.{length}
use Rattle.message.specs.Class.{class_in, is_plain_note}
use Rattle.message.specs.Reading.{ends}
use Rattle.text.proofs.runs.plain_note_end.Given as goal

abbrev pub invariant-loop-i : goal.invariant-loop-i
invariant-loop-i l = ends (is_plain_note (class_in l.table)) l.s l.i ≡ ends (is_plain_note (class_in l.table)) l.s l.at

abbrev pub decreases-loop-i : goal.decreases-loop-i
decreases-loop-i l = length l.s - l.i
