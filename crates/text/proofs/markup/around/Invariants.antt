-- `text::markup::around` meets its contract: from each place that the loop comes to, with fuel that is enough, the specification gives what it gave at
-- the start. Assumes nothing.
use Prim.Native.Nat.{suc, ◌-◌}
use lib.ListN.{length}
use Rattle.message.specs.Class.{class_in}
use Rattle.message.specs.Markup.{around_at}
use Rattle.message.proofs.Loops.{Left}
use Rattle.message.proofs.MarkupLoop.{around as loop}
use Rattle.text.proofs.markup.around.Given as goal

abbrev pub invariant-loop-stop : goal.invariant-loop-stop
invariant-loop-stop l = Left (loop (class_in l.table) l.s) (around_at (class_in l.table) (suc (length l.s)) l.s l.at) l.stop

abbrev pub decreases-loop-stop : goal.decreases-loop-stop
decreases-loop-stop l = length l.s - l.stop
