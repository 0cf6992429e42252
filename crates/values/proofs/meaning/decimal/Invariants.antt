-- `values::meaning::decimal` meets its contract: from each place and number that the loop comes to, the letters left make of the number what all of
-- them make of 0. The number stays below 2^32, so the next one fits. Assumes nothing.
use Prim.Native.Nat.{suc, ◌-◌, ◌≤◌}
use lib.ListN.{length}
use Rattle.message.specs.Class.{class_in}
use Rattle.message.specs.Values.{attribute_meaning, number_from}
use Rattle.values.proofs.Letters.{Judged}
use Rattle.values.proofs.meaning.decimal.Given as goal

abbrev pub invariant-loop-i : goal.invariant-loop-i
invariant-loop-i l = (l.number ≤ 4294967295) × Judged number_from (length l.s) (λ fuel. attribute_meaning (class_in l.table) l.s fuel l.to) (number_from 0 (attribute_meaning (class_in l.table) l.s (suc (length l.s)) l.to l.from)) l.number l.i

abbrev pub decreases-loop-i : goal.decreases-loop-i
decreases-loop-i l = length l.s - l.i
