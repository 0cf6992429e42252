-- Tabs and line ends by their bytes: what `is_break` and `line_end` say of them. Assumes nothing.
use Prim.Native.Nat.{ℕ, ◌+◌}
use mathlib.Core.Path.{◌≡◌, sym, ◌∙◌, ap}
use mathlib.Core.Logic.{⊎_elim}
use mathlib.Core.Bool.{Bool, true, false, ◌&&◌, ◌||◌}
use mathlib.Core.List.{List}
use lib.Dec.{eqb}
use Rattle.std.proofs.lemmas.Bool.{and_parts, cond_both, or_cases, or_parts}
use Rattle.std.proofs.lemmas.Bool.Decides.{nat_tests}
use native.Mathlib.Omega.{arith}
use Rattle.message.specs.Reading.{is, has}
use Rattle.message.specs.Values.{is_break, line_end}
use Rattle.message.specs.Meanings.{Break, NoBreak}
use Rattle.message.specs.Meanings.Break.{tab, feed, return}
use Rattle.message.proofs.Laws.{and_true, has_or}
use Rattle.message.proofs.Runs.{has_known}

module _ (s : List ℕ) (at : ℕ) where
  breaks : has is_break s at ≡ (has (is 9) s at || (has (is 10) s at || has (is 13) s at))
  breaks = has_or (is 9) (λ x. eqb x 10 || eqb x 13) s at ∙ ap (λ (t : Bool). has (is 9) s at || t) (has_or (is 10) (is 13) s at)

  -- ---- from the bytes to what is read

  pub break_is : Break s at → (has is_break s at ≡ true) × (line_end s at ≡ at + 1)
  break_is (tab h) = (has_known 9 s at h is_break, rw (has_known 9 s at h (is 13)))
  break_is (feed h) = (has_known 10 s at h is_break, rw (has_known 10 s at h (is 13)))
  break_is (return h alone) = (has_known 13 s at h is_break, rw (h, alone))

  pub pair_is : has (is 13) s at ≡ true → has (is 10) s (at + 1) ≡ true → (has is_break s at ≡ true) × (line_end s at ≡ at + 2)
  pair_is h feeds = (has_known 13 s at h is_break, rw (h, feeds))

  pub no_break_is : NoBreak s at → has is_break s at ≡ false
  no_break_is none = breaks ∙ rw (none.no_tab, none.no_feed, none.no_return)

  -- ---- and back

  pub is_no_break : has is_break s at ≡ false → NoBreak s at
  is_no_break h =
      let x = or_parts (has (is 9) s at) (has (is 10) s at || has (is 13) s at) (sym breaks ∙ h) in
      let y = or_parts (has (is 10) s at) (has (is 13) s at) x.1 in
      record { no_tab = x.0; no_feed = y.0; no_return = y.1 }

  module _ (P : ℕ → Type 0) (paired : has (is 13) s at ≡ true → has (is 10) s (at + 1) ≡ true → P (at + 2)) where
    pub break_cases : (Break s at → P (at + 1)) → has is_break s at ≡ true → P (line_end s at)
    break_cases alone h =
        cond_both (has (is 13) s at && has (is 10) s (at + 1)) _ _ P
        (λ t. paired (and_parts (has (is 13) s at) (has (is 10) s (at + 1)) t).0 (and_parts (has (is 13) s at) (has (is 10) s (at + 1)) t).1)
        (λ t. alone (by_itself t))
      where
        by_itself : (has (is 13) s at && has (is 10) s (at + 1)) ≡ false → Break s at
        by_itself t =
            ⊎_elim tab (λ k.
            ⊎_elim feed (λ r. return r (and_true (has (is 10) s (at + 1)) r ∙ t)) (or_cases (has (is 10) s at) (has (is 13) s at) k))
            (or_cases (has (is 9) s at) (has (is 10) s at || has (is 13) s at) (sym breaks ∙ h))

    pub return_cases : (has (is 10) s (at + 1) ≡ false → P (at + 1)) → has (is 13) s at ≡ true → P (line_end s at)
    return_cases alone h = grind (arith, nat_tests)
