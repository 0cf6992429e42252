-- `elements::content::element` meets its contract. The levels that are left fall where it calls itself. The loop keeps, from each place that it comes to and with what it holds on to by then, what the definition gives from the start of the content. Assumes nothing.
use Prim.Native.Nat.{◌-◌, ◌≤◌}
use lib.ListN.{length}
use Rattle.message.specs.Class.{class_in}
use Rattle.message.specs.Limits.{link_limits}
use Rattle.message.specs.Elements.{element_at}
use Rattle.elements.specs.Seen.{nothing_inside}
use Rattle.elements.proofs.ContentLoop.{ContentLeft, reads_content}
use Rattle.elements.proofs.content.+element.Given as goal

abbrev pub invariant-loop-stop : goal.invariant-loop-stop
invariant-loop-stop l = (l.inside.children ≤ l.i) × ContentLeft (class_in l.table) l.s (element_at (class_in l.table) l.s link_limits (l.depth - 1)) l.start (reads_content (class_in l.table) l.s (element_at (class_in l.table) l.s link_limits (l.depth - 1)) l.start (length l.s) (record { at = l.start.from; inside = nothing_inside })) l.i l.inside

abbrev pub decreases-loop-stop : goal.decreases-loop-stop
decreases-loop-stop l = length l.s - l.i

abbrev pub decreases-element : goal.decreases-element
decreases-element l = l.depth
