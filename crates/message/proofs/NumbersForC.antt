-- The numbers that C sees, which antt computes, and that of a number it sees one thing: whether there is one, and which. Assumes nothing.
use mathlib.Core.Path.{◌≡◌, refl}
use Prim.Native.Nat.{ℕ}
use Rattle.std.specs.Prelude.{Option}
use Rattle.laws.proofs.OneAnswer.{one_answer}
use Rattle.message.specs.Values.{number_flag, number_named}
use Rattle.message.specs.ExamplesOfMessages.{NumbersForC}

pub numbers_for_c : NumbersForC
numbers_for_c = (refl, refl, refl, refl, refl)

module _ {r r' : ℕ} where
  pub number_flag_once : (self : Option ℕ) → r ≡ number_flag self → r' ≡ number_flag self → r ≡ r'
  number_flag_once self = one_answer

  pub number_named_once : (self : Option ℕ) → r ≡ number_named self → r' ≡ number_named self → r ≡ r'
  number_named_once self = one_answer
