-- `text::runs::value` meets its contract: behind the plain text at each place that the loop comes to, what is left to read gives what was asked for at the start. Assumes nothing.
use Prim.Native.Nat.{◌-◌}
use lib.ListN.{length}
use Rattle.message.specs.Class.{class_in, is_plain}
use Rattle.message.specs.Reading.{ends}
use Rattle.message.specs.Text.{value_at}
use Rattle.message.proofs.Loops.{Left, values}
use Rattle.text.proofs.runs.value.Given as goal

abbrev pub invariant-loop-at : goal.invariant-loop-at
invariant-loop-at l = Left (values (class_in l.table) l.quote l.s) (value_at (class_in l.table) (length l.s) l.quote l.s l.at) (ends (is_plain (class_in l.table)) l.s l.i)

abbrev pub decreases-loop-at : goal.decreases-loop-at
decreases-loop-at l = length l.s - l.i
