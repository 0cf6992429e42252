-- The digits of references. Assumes nothing.
use Prim.Native.Nat.{ℕ, ◌<◌, ◌≤◌}
use mathlib.Core.Path.{◌≡◌}
use mathlib.Core.Bool.{true}
use native.Mathlib.Omega.{arith}
use Rattle.std.proofs.lemmas.Bool.Decides.{nat_tests}
use Rattle.message.specs.Characters.{hex_digit, digit_of, is_digit}

module _ (b : ℕ) where
  pub hex_from : hex_digit b ≡ true → 48 ≤ b
  hex_from h = grind (arith, nat_tests)

  -- no hexadecimal digit stands between the figures and the capitals, nor between these and the small letters
  pub hex_capital : hex_digit b ≡ true → 57 < b → 65 ≤ b
  hex_capital h above = grind (arith, nat_tests)

  pub hex_small : hex_digit b ≡ true → 70 < b → 97 ≤ b
  hex_small h above = grind (arith, nat_tests)

  pub digit_hex : (base : ℕ) → is_digit base b ≡ true → hex_digit b ≡ true
  digit_hex base h = grind (arith, nat_tests)

  pub digit_below : (base : ℕ) → is_digit base b ≡ true → digit_of b < base
  digit_below base h = grind (arith, nat_tests)
