-- What came stays within `first`, which keeps its length, and each turn leaves less to fill.
use Rattle.std.proofs.Common.{◌≡◌, ◌-◌, ◌≤◌, length}
use Rattle.items.proofs.read_start.Given as goal

abbrev pub invariant-loop-done : goal.invariant-loop-done
invariant-loop-done g l = record { within : l.done ≤ length l.first; size : length l.first ≡ length l.initial.first }

abbrev pub decreases-loop-done : goal.decreases-loop-done
decreases-loop-done g l = length l.first - l.done
