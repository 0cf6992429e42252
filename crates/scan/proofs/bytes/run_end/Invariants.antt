-- `scan::bytes::run_end` meets its contract: from each place that the loop comes to, the run ends where it ends from the first, and where fewer than four bytes pass it ends behind them. Assumes nothing.
use Prim.Native.Nat.{◌-◌, ◌≤◌}
use mathlib.Core.Path.{◌≡◌}
use lib.ListN.{length}
use Rattle.message.specs.Class.{class_in, at_least}
use Rattle.message.specs.Reading.{ends}
use Rattle.scan.proofs.bytes.run_end.Given as goal

abbrev pub invariant-loop-i : goal.invariant-loop-i
invariant-loop-i l =
    (l.no_four ≤ length l.s - 3) × (ends (at_least (class_in l.table) l.least) l.s l.i ≡ ends (at_least (class_in l.table) l.least) l.s l.at)

abbrev pub decreases-loop-i : goal.decreases-loop-i
decreases-loop-i l = length l.s - l.i
