-- `framing::store::lay` meets its contract: its loop has laid the bytes below `i`. Assumes nothing.
use mathlib.Core.Path.{◌≡◌}
use Rattle.std.proofs.Math.Seq.{paste}
use Rattle.framing.proofs.store.lay.Given as goal

abbrev pub invariant-loop-i : goal.invariant-loop-i
invariant-loop-i l = l.store ≡ paste l.initial.store l.at l.bytes l.i
