-- `rules::numbers::all_differ` meets its contract: no number that is left comes twice just if none of all does. Assumes nothing.
use Rattle.std.proofs.Common.{◌≡◌, length}
use Rattle.conduct.specs.Lists.{distinct}
use Rattle.rules.proofs.numbers.all_differ.Given as goal

abbrev pub invariant-loop-number : goal.invariant-loop-number
invariant-loop-number l = distinct l.numbers ≡ distinct l.left

abbrev pub decreases-loop-number : goal.decreases-loop-number
decreases-loop-number l = length l.left
