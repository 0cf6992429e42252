-- `text::references::digits` meets its contract: from each place and number that the loop comes to, the digits left give what was asked for at the start. The number stays that of a character, so the next one fits. Assumes nothing.
use Prim.Native.Nat.{suc, ◌-◌, ◌≤◌}
use lib.ListN.{length}
use Rattle.message.specs.Characters.{digits_at}
use Rattle.message.proofs.Loops.{Left, numbers}
use Rattle.text.proofs.references.digits.Given as goal

abbrev pub invariant-loop-counts : goal.invariant-loop-counts
invariant-loop-counts l = (l.code ≤ 1114111) × Left (numbers l.base l.s) (digits_at (suc (length l.s)) l.base 0 l.s l.at) (l.code, l.end)

abbrev pub decreases-loop-counts : goal.decreases-loop-counts
decreases-loop-counts l = length l.s - l.end
