-- Bytes that are the same at two places: `same_at` byte by byte, with one byte more, and of runs that overlap. Assumes nothing.
use mathlib.Core.Path.{◌≡◌, sym, ap, ◌∙◌}
use mathlib.Core.Bool.{Bool, true, false, ◌&&◌}
use mathlib.Core.List.{List}
use Prim.Native.Nat.{ℕ, suc, ◌+◌, ◌-◌, ◌≤◌, ◌<◌}
use native.Mathlib.Omega.{arith}
use native.Mathlib.Decide.{dec_lt}
use lib.ListN.{length, take, drop, get_or, length-take, length-drop}
use lib.Seq.{get_or-take, get_or-drop, ext_get_or}
use lib.Dec.{eqb}
use borrow.Author.Tests.{eqb-true, eq-eqb}
use borrow.Author.Count.{below_more}
use Rattle.std.proofs.lemmas.Bool.{both_ways, false_from_ne_true}
use Rattle.std.proofs.lemmas.List.{drop_more}
use Rattle.laws.specs.Bytes.{same_bytes, same_at}
use Rattle.laws.proofs.Tests.{iff_same}
use Rattle.laws.proofs.Tails.{same_refl, same_eq}

module _ (b : List ℕ) (j : ℕ) (p : List ℕ) (i : ℕ) where
  pub each_same : (n : ℕ) → same_at n b j p i ≡ true → (y : ℕ) → y < n → get_or p (i + y) 0 ≡ get_or b (j + y) 0
  unfolding same_at
  each_same n h y below =
      sym (get_or-drop i p y 0) ∙ sym (get_or-take n (drop i p) y 0 below) ∙ ap (λ (l : List ℕ). get_or l y 0) (same_eq (take n (drop i p)) (take n (drop j b)) h)
      ∙ get_or-take n (drop j b) y 0 below ∙ get_or-drop j b y 0

  pub all_same : (n : ℕ) → j + n ≤ length b → i + n ≤ length p → ((y : ℕ) → y < n → get_or p (i + y) 0 ≡ get_or b (j + y) 0) → same_at n b j p i ≡ true
  unfolding same_at
  all_same n inside within each =
      let size : length (take n (drop i p)) ≡ n = simp (length-take, length-drop) (omega arith) in
      let parts : take n (drop i p) ≡ take n (drop j b) =
      ext_get_or 0 (take n (drop i p)) (take n (drop j b)) (simp (length-take, length-drop) (omega arith))
      (λ y below.
      let short : y < n = omega (arith, below, size) in
      get_or-take n (drop i p) y 0 short ∙ get_or-drop i p y 0 ∙ each y short ∙ sym (get_or-drop j b y 0) ∙ sym (get_or-take n (drop j b) y 0 short)) in
      rw parts (same_refl (take n (drop j b)))

  pub one_other : (n y : ℕ) → y < n → (get_or p (i + y) 0 ≡ get_or b (j + y) 0 → ⊥) → same_at n b j p i ≡ false
  one_other n y below other = false_from_ne_true _ (λ h. other (each_same n h y below))

  -- nothing is the same as nothing
  pub same_none : same_at 0 b j p i ≡ true
  unfolding same_at
  same_none = same_refl (take 0 (drop j b))

  -- the first byte, and those behind it
  pub same_first : (n : ℕ) → j < length b → i < length p → same_at (suc n) b j p i ≡ (eqb (get_or p i 0) (get_or b j 0) && same_at n b (j + 1) p (i + 1))
  unfolding same_bytes same_at
  same_first n inside within = rw (drop_more p i 0, drop_more b j 0)

  -- one byte more
  pub same_more : (n : ℕ) (t : Bool) → j + (n + 1) ≤ length b → i + (n + 1) ≤ length p → t ≡ same_at n b j p i
      → (t && eqb (get_or p (i + n) 0) (get_or b (j + n) 0)) ≡ same_at (n + 1) b j p i
  same_more n true inside within is =
      iff_same _ _
      (λ h. all_same (n + 1) inside within (below_more _ n (each_same n (sym is)) (eqb-true _ _ h)))
      (λ h. eq-eqb _ _ (each_same (n + 1) h n (omega arith)))
  same_more n false inside within is =
      sym (false_from_ne_true _ (λ h. both_ways _ (sym is) (all_same n (omega arith) (omega arith) (λ y below. each_same (n + 1) h y (omega arith)))))

-- m bytes from the k-th on
module _ (b : List ℕ) (j : ℕ) (p : List ℕ) (i k m : ℕ) (inside : j + (k + m) ≤ length b) (within : i + (k + m) ≤ length p) where
  part_same : (n : ℕ) → k + m ≤ n → same_at n b j p i ≡ true → same_at m b (j + k) p (i + k) ≡ true
  part_same n short h =
      all_same b (j + k) p (i + k) m (omega arith) (omega arith)
      (λ y below.
      let there : i + (k + y) ≡ i + k + y = omega arith in
      let here : j + (k + y) ≡ j + k + y = omega arith in
      rw (there, here) at (each_same b j p i n h (k + y) (omega arith)))

  -- where they are others, n bytes that have them are
  pub other_part : (n : ℕ) → k + m ≤ n → same_at m b (j + k) p (i + k) ≡ false → same_at n b j p i ≡ false
  other_part n short off = false_from_ne_true _ (λ h. both_ways _ off (part_same n short h))

  -- where n bytes are the same, and the m begin among them or right behind them, all are if the m are
  pub same_joined : (n : ℕ) → k ≤ n → same_at n b j p i ≡ true → same_at m b (j + k) p (i + k) ≡ same_at (k + m) b j p i
  same_joined n over front = iff_same _ _ (λ h. all_same b j p i (k + m) inside within (each h)) (part_same (k + m) (omega arith))
    where
      each : same_at m b (j + k) p (i + k) ≡ true → (y : ℕ) → y < k + m → get_or p (i + y) 0 ≡ get_or b (j + y) 0
      each h y below =
          elim (dec_lt y n) [
            | yes first ↦ each_same b j p i n front y first
            | no later ↦
                let there : i + k + (y - k) ≡ i + y = omega arith in
                let here : j + k + (y - k) ≡ j + y = omega arith in
                rw (there, here) at (each_same b (j + k) p (i + k) m h (y - k) (omega arith))
          ]
