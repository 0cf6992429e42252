-- `framing::standing::part_stands` meets its contract. The invariant of its loop: the bytes at each place below i are the same. Assumes nothing.
use Prim.Native.Nat.{ℕ}
use mathlib.Core.Path.{sym, ap, ◌∙◌}
use native.Mathlib.Omega.{arith}
use native.Mathlib.Nat.{zero-add}
use lib.ListN.{get_or}
use Rattle.laws.proofs.Same.{all_same, one_other}
use Rattle.framing.proofs.standing.part_stands.Goals as goal

pub returns-then-piece-at : goal.returns-then-piece-at
returns-then-piece-at c =
    let a = c.args in
    sym (one_other a.boundary.now 0 a.piece.now a.at a.count c.loop-i.i (omega arith) (λ same. let here = rw zero-add at same in omega arith))

pub returns : goal.returns
returns c =
    let a = c.args in
    sym
    (all_same a.boundary.now 0 a.piece.now a.at a.count (omega arith) (omega arith)
    (λ y below. c.loop-i.invariant y (omega arith) ∙ ap (λ (n : ℕ). get_or a.boundary.now n 0) (sym (zero-add y))))
