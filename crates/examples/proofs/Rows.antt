-- The rows of the table, by their place. Assumes nothing.
use mathlib.Core.List.{List, [], ◌∷◌}
use Prim.Native.Nat.{ℕ, zero, suc, ◌-◌}
use Rattle.examples.specs.Twelve.{Example, Holds, twelve}

abbrev RowHolds : ℕ → List Example → Type 0
RowHolds i [] = Unit
RowHolds zero (example ∷ examples) = Holds example
RowHolds (suc i) (example ∷ examples) = RowHolds i examples

-- row i of the table holds; the first is row 1
abbrev pub Row : ℕ → Type 0
Row i = RowHolds (i - 1) twelve
