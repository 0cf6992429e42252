-- Legal characters, by the ranges that they lie in. Assumes nothing.
use Prim.Native.Nat.{ℕ, ◌<◌, ◌≤◌}
use mathlib.Core.Path.{◌≡◌}
use mathlib.Core.Logic.{◌⊎◌}
use mathlib.Core.Bool.{true}
use native.Mathlib.Omega.{arith}
use Rattle.std.proofs.lemmas.Bool.Decides.{nat_tests}
use Rattle.message.specs.Characters.{legal}

module _ (n : ℕ) where
  pub legal_low : 32 ≤ n → n ≤ 55295 → legal n ≡ true
  legal_low l h = grind (arith, nat_tests)

  pub legal_over : 65536 ≤ n → n ≤ 1114111 → legal n ≡ true
  legal_over l h = grind (arith, nat_tests)

  -- a legal one of three bytes lies in one of two ranges
  pub legal_three : 2048 ≤ n → n < 65536 → legal n ≡ true → (n ≤ 55295) ⊎ ((57344 ≤ n) × (n ≤ 65533))
  legal_three least most h = grind (arith, nat_tests)

  -- a legal character is none past the last
  pub legal_small : legal n ≡ true → n ≤ 1114111
  legal_small h = grind (arith, nat_tests)
