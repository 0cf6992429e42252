-- LAWS on a text that is read as a number: digit by digit, and by its first byte, since a zero stands alone. Assumes nothing.
use Rattle.std.specs.Prelude.{None, Some}
use Rattle.std.specs.Char.{is_ascii_digit}
use mathlib.Core.Path.{◌≡◌, refl}
use mathlib.Core.Bool.{true, false}
use mathlib.Core.List.{List, [], ◌∷◌}
use Prim.Native.Nat.{ℕ, suc, ◌+◌, ◌-◌, ◌*◌, ◌≤◌, ◌<◌}
use native.Mathlib.Numerals.{add-one}
use native.Mathlib.Omega.{arith}
use lib.ListN.{length, take, drop, get_or, drop_of_length-le, length-drop}
use lib.Seq.{drop-cons}
use borrow.Author.Tests.{le-leb, lt-leb, ne_eqb}
use Rattle.std.proofs.lemmas.Slice.{between_to_end}
use Rattle.message.specs.Values.{decimal_from, decimal_of}
use Rattle.texts.specs.Fields.{zero_alone}

-- the digits before place i made n, and d stands there
module _ (text : List ℕ) (i n : ℕ) where
  module _ {d : ℕ} (is : get_or text i 0 ≡ d) (inside : i < length text) where
    -- a byte that is no digit
    pub no_digit : is_ascii_digit d ≡ false → None ≡ decimal_from n (drop i text)
    unfolding decimal_from
    no_digit h = rw (drop-cons text i 0 inside, is, h)

    module _ (digit : is_ascii_digit d ≡ true) where
      pub too_large : 4294967295 < n * 10 + (d - 48) → None ≡ decimal_from n (drop i text)
      unfolding decimal_from
      too_large h = rw (drop-cons text i 0 inside, is, digit, lt-leb (n * 10 + (d - 48)) 4294967295 h)

      pub next_digit : n * 10 + (d - 48) ≤ 4294967295 → decimal_from (n * 10 + (d - 48)) (drop (i + 1) text) ≡ decimal_from n (drop i text)
      unfolding decimal_from
      next_digit h =
          rw (add-one, drop-cons text i 0 inside, is, digit, le-leb (n * 10 + (d - 48)) 4294967295 h)

  pub no_more_digits : length text ≤ i → Some n ≡ decimal_from n (drop i text)
  unfolding decimal_from
  no_more_digits out = rw (drop_of_length-le text {i = i} out)

-- ---- the first byte

module _ (text : List ℕ) (from : ℕ) where
  pub no_digits : length text ≤ from → None ≡ decimal_of (drop from text)
  unfolding decimal_of
  no_digits out = rw (drop_of_length-le text {i = from} out)

  module _ (inside : from < length text) where
    pub zero_first : get_or text from 0 ≡ 48 → zero_alone (length text - from) ≡ decimal_of (drop from text)
    unfolding decimal_from decimal_of
    zero_first is = rw (drop-cons text from 0 inside, is) (go (drop (suc from) text) (omega (arith, length-drop (suc from) text)))
      where
        go : (rest : List ℕ) → length text - from ≡ suc (length rest) → zero_alone (length text - from) ≡ decimal_of (48 ∷ rest)
        go [] long = rw long
        go (d ∷ rest) long = rw (long, ne_eqb (suc (suc (length rest))) 1 (λ e. omega arith))

    pub no_zero_first : (get_or text from 0 ≡ 48 → ⊥) → decimal_from 0 (take (length text - from) (drop from text)) ≡ decimal_of (drop from text)
    unfolding decimal_of
    no_zero_first other = rw (between_to_end text from (length text) (omega arith), drop-cons text from 0 inside) (go (drop (suc from) text))
      where
        go : (rest : List ℕ) → decimal_from 0 (get_or text from 0 ∷ rest) ≡ decimal_of (get_or text from 0 ∷ rest)
        go [] = refl
        go (d ∷ rest) = rw (ne_eqb (get_or text from 0) 48 other)
