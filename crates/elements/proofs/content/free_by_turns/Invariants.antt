-- `elements::content::free_by_turns` meets its contract: from each place that the loop comes to, with fuel that is enough, the definition gives what it gave at the start. Assumes nothing.
use Prim.Native.Nat.{◌-◌}
use lib.ListN.{length}
use Rattle.message.specs.Class.{class_in}
use Rattle.message.proofs.Loops.{Left}
use Rattle.message.specs.Elements.{free_at}
use Rattle.elements.proofs.FreeLoop.{frees}
use Rattle.elements.proofs.content.free_by_turns.Given as goal

abbrev pub invariant-loop-stop : goal.invariant-loop-stop
invariant-loop-stop l = Left (frees (class_in l.table) l.s) (free_at (class_in l.table) l.s (length l.s) l.at) l.i

abbrev pub decreases-loop-stop : goal.decreases-loop-stop
decreases-loop-stop l = length l.s - l.i
