-- `scan::bytes::ends` meets its contract: from each place that the loop comes to, the run ends where it ends from the first. Assumes nothing.
use mathlib.Core.Path.{◌≡◌}
use Prim.Native.Nat.{ℕ, ◌-◌}
use mathlib.Core.Bool.{Bool}
use lib.ListN.{length}
use Rattle.message.specs.Reading.{ends}
use Rattle.scan.specs.Answers.{Computes}
use Rattle.scan.proofs.bytes.ends.Given as goal

abbrev pub invariant-loop-i : goal.invariant-loop-i
invariant-loop-i g l = (f : ℕ → Bool) → Computes (goal.P-post g l.test) f → ends f l.s l.i ≡ ends f l.s l.at

abbrev pub decreases-loop-i : goal.decreases-loop-i
decreases-loop-i g l = length l.s - l.i
