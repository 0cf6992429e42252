-- `text::runs::comment` meets its contract: at each stop that the loop comes to, what is left to read gives what was asked for at the start. Assumes nothing.
use Prim.Native.Nat.{◌-◌}
use lib.ListN.{length}
use Rattle.message.specs.Class.{class_in}
use Rattle.message.specs.Text.{comment_at}
use Rattle.message.proofs.Loops.{Left, comments}
use Rattle.text.proofs.runs.comment.Given as goal

abbrev pub invariant-loop-stop : goal.invariant-loop-stop
invariant-loop-stop l = Left (comments (class_in l.table) l.s) (comment_at (class_in l.table) (length l.s) l.s l.at) l.stop

abbrev pub decreases-loop-stop : goal.decreases-loop-stop
decreases-loop-stop l = length l.s - l.stop
