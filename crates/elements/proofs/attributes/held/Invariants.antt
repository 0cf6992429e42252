-- `elements::attributes::held` meets its contract: from the place that the loop has come to, beside the names held by then, the definition gives what it
-- gave at the start. Assumes nothing.
use Prim.Native.Nat.{◌-◌}
use mathlib.Core.List.{[]}
use lib.ListN.{length}
use Rattle.message.specs.Class.{class_in}
use Rattle.message.proofs.Loops.{Left}
use Rattle.message.specs.Limits.{link_limits}
use Rattle.message.specs.Elements.{attributes_at}
use Rattle.elements.specs.Held.{names_of}
use Rattle.elements.proofs.AttributeLaws.{attributes}
use Rattle.elements.proofs.attributes.held.Given as goal

abbrev pub invariant-loop-seen : goal.invariant-loop-seen
invariant-loop-seen l =
    Left (attributes (class_in l.table) l.s link_limits) (attributes_at (class_in l.table) l.s link_limits (length l.s) [] l.at) (names_of l.s l.seen, l.i)

abbrev pub decreases-loop-seen : goal.decreases-loop-seen
decreases-loop-seen l = length l.s - l.i
