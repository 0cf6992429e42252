-- From each place of the value and of the word that the loop comes to, the pieces left mean what is left of the word just where all mean all of it.
-- Assumes nothing.
use Prim.Native.Nat.{ℕ, suc, ◌-◌}
use lib.ListN.{length}
use Rattle.message.specs.Reading.{Reading}
use Rattle.message.specs.Values.{means}
use Rattle.values.specs.Pieces.{pieces_meaning, Reads}
use Rattle.values.specs.declared.meaning.Piece.{Piece}
use Rattle.values.proofs.Letters.{Judged}
use Rattle.values.proofs.meaning.spells.Given as goal

abbrev pub invariant-loop-i : goal.invariant-loop-i
invariant-loop-i g l =
    (f : ℕ → Reading Piece) → Reads (goal.R-post g l.read) f
    → Judged means (length l.s) (λ fuel. pieces_meaning f fuel l.to) (means l.word (pieces_meaning f (suc (length l.s)) l.to l.from)) l.rest l.i

abbrev pub decreases-loop-i : goal.decreases-loop-i
decreases-loop-i g l = length l.s - l.i
