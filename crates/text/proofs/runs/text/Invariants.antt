-- `text::runs::text` meets its contract: behind the plain text at each place that the loop comes to, what is left to read gives what was asked for at the start. Assumes nothing.
use Prim.Native.Nat.{◌-◌}
use lib.ListN.{length}
use Rattle.message.specs.Class.{class_in, is_plain}
use Rattle.message.specs.Reading.{ends}
use Rattle.message.specs.Text.{text_at}
use Rattle.message.proofs.Loops.{Left, texts}
use Rattle.text.proofs.runs.text.Given as goal

abbrev pub invariant-loop-at : goal.invariant-loop-at
invariant-loop-at l = Left (texts (class_in l.table) l.s) (text_at (class_in l.table) (length l.s) l.s l.at) (ends (is_plain (class_in l.table)) l.s l.i)

abbrev pub decreases-loop-at : goal.decreases-loop-at
decreases-loop-at l = length l.s - l.i
