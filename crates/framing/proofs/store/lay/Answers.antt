-- `framing::store::lay` meets its contract: its loop copies. Assumes nothing.
use native.Mathlib.Numerals.{add-one}
use native.Mathlib.Omega.{arith}
use Rattle.std.proofs.Math.Seq.{paste-suc}
use Rattle.framing.proofs.store.lay.Goals as goal

pub loop-i-preserved : goal.loop-i-preserved
loop-i-preserved c =
    let a = c.args in
    rw (add-one, c.loop-i.invariant) (paste-suc a.store.now a.at a.bytes.now c.loop-i.i 0 (omega arith) (omega arith))
