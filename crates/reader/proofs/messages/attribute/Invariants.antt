-- `reader::messages::attribute` meets its contract: from each attribute that the loop comes to, the definition gives what it gave at the start.
-- Assumes nothing.
use Prim.Native.Nat.{◌-◌}
use lib.ListN.{length}
use Rattle.message.specs.Class.{class_in}
use Rattle.message.proofs.Loops.{Left}
use Rattle.message.specs.Limits.{link_limits}
use Rattle.message.specs.Messages.{attribute_called}
use Rattle.elements.proofs.AttributeLaws.{lookup}
use Rattle.reader.proofs.messages.attribute.Given as goal

abbrev pub invariant-loop-name : goal.invariant-loop-name
invariant-loop-name l = Left (lookup (class_in l.table) l.s link_limits l.word) (attribute_called (class_in l.table) link_limits l.s (length l.s) l.word l.at) l.i

abbrev pub decreases-loop-name : goal.decreases-loop-name
decreases-loop-name l = length l.s - l.i
