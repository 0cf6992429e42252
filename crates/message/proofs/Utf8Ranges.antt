-- The ranges of second and third bytes in UTF-8 leave just the legal characters. Assumes nothing.
use Prim.Native.Nat.{ℕ, ◌-◌, ◌<◌, ◌≤◌}
use mathlib.Core.Path.{◌≡◌}
use mathlib.Core.Logic.{◌⊎◌}
use mathlib.Core.Bool.{Bool, true, cond, ◌&&◌}
use native.Mathlib.Omega.{arith}
use lib.Dec.{eqb}
use Rattle.std.proofs.lemmas.Bool.Decides.{nat_tests}
use Rattle.message.specs.Characters.{legal, second_of_three, third_of_three, second_of_four, joined}
use Rattle.message.proofs.Legal.{legal_three}

-- ---- the ranges of the second and third bytes

-- one bound or another, on either way
pub at_most : (least most x : ℕ) (t : Bool) → least ≤ most → x ≤ cond t least most → x ≤ most
at_most least most x t h = grind (arith, nat_tests)

pub at_least : (least more x : ℕ) (t : Bool) → least ≤ more → cond t more least ≤ x → least ≤ x
at_least least more x t h = grind (arith, nat_tests)

-- the number that three bytes make
abbrev of_three : ℕ → ℕ → ℕ → ℕ
of_three x y z = joined (joined (x - 224) y) z

module _ (x y z : ℕ) (y-most : y ≤ 191) (z-most : z ≤ 191) where
  pub three_legal : x ≤ 239 → 32 ≤ joined (x - 224) y → y ≤ cond (eqb x 237) 159 191 → z ≤ cond (eqb x 239 && eqb y 191) 189 191
      → legal (of_three x y z) ≡ true
  three_legal lead least second third = grind (arith, nat_tests)

pub four_most : (x y : ℕ) → x ≤ 244 → y ≤ cond (eqb x 244) 143 191 → joined (x - 240) y < 272
four_most x y lead second = grind (arith, nat_tests)

-- the other way round: they let through what makes a legal character
module _ (x y z : ℕ) (y-least : 128 ≤ y) (y-most : y ≤ 191) (z-least : 128 ≤ z) (z-most : z ≤ 191)
    (least : 2048 ≤ of_three x y z) (fine : legal (of_three x y z) ≡ true) (x-most : x ≤ 239) where
  ranges : (of_three x y z ≤ 55295) ⊎ ((57344 ≤ of_three x y z) × (of_three x y z ≤ 65533))
  ranges = legal_three (of_three x y z) least (omega arith) fine

  pub three_second : second_of_three x y ≡ true
  three_second = let these = ranges in grind (arith, nat_tests)

  pub three_third : third_of_three x y z ≡ true
  three_third = let these = ranges in grind (arith, nat_tests)

pub four_second : (x y : ℕ) → 128 ≤ y → y ≤ 191 → 16 ≤ joined (x - 240) y → joined (x - 240) y < 272 → second_of_four x y ≡ true
four_second x y y-least y-most least most = grind (arith, nat_tests)
