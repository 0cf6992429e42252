-- LAWS on a text that begins with a word: what std's `starts_with` tests is the comparison of the definitions. With `too_short_lem` and
-- `starts_whole` a body that compares the lengths, or cuts the word, proves where it answers right, so that edits of this form are refused for
-- their answers. Assumes nothing.
use Rattle.std.specs.Prelude.{nat_eq}
use Rattle.std.specs.List.{starts_with}
use mathlib.Core.Path.{◌≡◌, refl, sym, ap₂}
use mathlib.Core.Bool.{false, ◌&&◌}
use mathlib.Core.List.{List, [], ◌∷◌}
use Prim.Native.Nat.{ℕ, ◌<◌}
use native.Mathlib.Nat.{min-le_right}
use native.Mathlib.Omega.{arith}
use lib.ListN.{length, take, length-take}
use lib.Seq.{take-length}
use lib.Dec.{eqb}
use lib.Pointwise.{pointwise}
use borrow.Author.Tests.{eqb-true, eq-eqb}
use Rattle.laws.specs.Bytes.{same_bytes}
use Rattle.laws.proofs.Tests.{iff_same}
use Rattle.message.proofs.Parts.{other_length}

same_pointwise : (u v : List ℕ) → pointwise nat_eq v u ≡ same_bytes u v
unfolding same_bytes
same_pointwise [] [] = refl
same_pointwise [] (y ∷ v) = refl
same_pointwise (x ∷ u) [] = refl
same_pointwise (x ∷ u) (y ∷ v) =
    ap₂ ◌&&◌ (iff_same (eqb y x) (eqb x y) (λ h. eq-eqb x y (sym (eqb-true y x h))) (λ h. eq-eqb y x (sym (eqb-true x y h)))) (same_pointwise u v)

module _ (text word : List ℕ) where
  pub starts_same : starts_with nat_eq text word ≡ same_bytes (take (length word) text) word
  starts_same = same_pointwise (take (length word) text) word

  -- a text that is shorter than the word
  pub too_short_lem : length text < length word → same_bytes (take (length word) text) word ≡ false
  too_short_lem short =
      sym (other_length (take (length word) text) word (λ e. omega (arith, length-take (length word) text, min-le_right (length word) (length text))))

  -- so many bytes of the word are all that it has
  pub starts_whole : (k : ℕ) → k ≡ length word → starts_with nat_eq text (take k word) ≡ same_bytes (take (length word) text) word
  starts_whole k whole = rw (whole, take-length word) starts_same
