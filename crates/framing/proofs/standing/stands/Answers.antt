-- `framing::standing::stands` meets its contract: a boundary of 8 bytes and more is its first eight and its last eight. Assumes nothing.
use Prim.Native.Nat.{◌+◌, ◌-◌}
use mathlib.Core.Path.{◌≡◌, sym, ◌∙◌}
use native.Mathlib.Nat.{add-zero, zero-add}
use native.Mathlib.Omega.{arith}
use lib.ListN.{length}
use Rattle.laws.proofs.Same.{other_part, same_joined}
use Rattle.framing.proofs.standing.stands.Goals as goal

pub returns-else-eight_stand : goal.returns-else-eight_stand
returns-else-eight_stand c =
    let a = c.args in
    let b = a.boundary.now in
    let front = sym c.eight_stand.ensures ∙ c.if-eight_stand.false in
    c.if-eight_stand.false ∙ sym (other_part b 0 a.piece.now a.at 0 8 (omega arith) (omega arith) (length b) (omega arith) (rw (add-zero a.at) front))

pub returns-then-eight_stand : goal.returns-then-eight_stand
returns-then-eight_stand c =
    let a = c.args in
    let b = a.boundary.now in
    let front = sym c.eight_stand.ensures ∙ c.if-eight_stand.true in
    let all : length b - 8 + 8 ≡ length b = omega arith in
    c.eight_stand-then-eight_stand.ensures ∙ rw (zero-add, all) at (same_joined b 0 a.piece.now a.at (length b - 8) 8 (omega arith) (omega arith) 8 (omega arith) front)
