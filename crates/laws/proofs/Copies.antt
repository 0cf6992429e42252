-- What stands at each place where n elements of s are laid into d from place `at` on. Over any type of elements. Assumes nothing.
use mathlib.Core.Path.{◌≡◌, sym, ap, ◌∙◌}
use mathlib.Core.List.{List, ◌++◌}
use Prim.Native.Nat.{ℕ, ◌+◌, ◌≤◌, ◌<◌}
use native.Mathlib.Omega.{arith}
use lib.ListN.{length, take, drop, get_or, get_or-append}
use lib.Seq.{paste, length-take-le, length_paste_head, get_or-append-add, get_or-take, get_or-drop}

-- what stands at a place once n elements are laid: one of s where they are, and one of d before and behind them
module _ {A : Type 0} (d : List A) (at : ℕ) (s : List A) (n : ℕ) (z : A) (room : at + n ≤ length d) (enough : n ≤ length s) where
  head : length (take at d ++ take n s) ≡ at + n
  head = length_paste_head d at s n (omega arith) enough

  pub laid_before : (i : ℕ) → i < at → get_or (paste d at s n) i z ≡ get_or d i z
  laid_before i before =
      get_or-append (take at d ++ take n s) (drop (at + n) d) z i (omega (arith, head))
      ∙ get_or-append (take at d) (take n s) z i (omega (arith, length-take-le {A = A}))
      ∙ get_or-take at d i z before

  pub laid_there : (i : ℕ) → i < n → get_or (paste d at s n) (at + i) z ≡ get_or s i z
  laid_there i there =
      get_or-append (take at d ++ take n s) (drop (at + n) d) z (at + i) (omega (arith, head))
      ∙ ap (λ (k : ℕ). get_or (take at d ++ take n s) (k + i) z) (sym (length-take-le at d (omega arith)))
      ∙ get_or-append-add (take at d) (take n s) i z
      ∙ get_or-take n s i z there

  pub laid_behind : (i : ℕ) → get_or (paste d at s n) (at + n + i) z ≡ get_or d (at + n + i) z
  laid_behind i =
      ap (λ (k : ℕ). get_or (paste d at s n) (k + i) z) (sym head)
      ∙ get_or-append-add (take at d ++ take n s) (drop (at + n) d) i z
      ∙ get_or-drop (at + n) d i z
