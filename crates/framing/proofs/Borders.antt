-- Which first bytes of the boundary end its first j bytes and then c, as `ends` compares them, and how `step` and `tail` find the most that end a run. Assumes nothing.
use mathlib.Core.Path.{◌≡◌, refl, sym, ap, ◌∙◌}
use mathlib.Core.Bool.{Bool, true, false}
use mathlib.Core.List.{List, [], ◌∷◌, ◌++◌}
use Prim.Native.Nat.{ℕ, suc, ◌+◌, ◌-◌, ◌≤◌, ◌<◌}
use native.Mathlib.Nat.{zero-add}
use native.Mathlib.Omega.{arith}
use lib.ListN.{length, take, drop, get_or, length-append, length-take, length-drop}
use lib.Seq.{take-suc, take-add, get_or-take, get_or-drop, get_or-append-add, ext_get_or}
use lib.Dec.{leb}
use borrow.Author.Tests.{leb-true, leb-false}
use Rattle.std.proofs.lemmas.Bool.{false_from_ne_true}
use Rattle.framing.specs.Cutting.{longest_match}
use Rattle.laws.proofs.Tests.{iff_same}
use Rattle.laws.proofs.Search.{greatest_is}
use Rattle.laws.specs.Bytes.{same_at, Ends, ends_with}
use Rattle.laws.proofs.Tails.{ends_of_test, test_of_ends, too_long_lem, ends_nil, ends_snoc, ends_unsnoc}
use Rattle.laws.proofs.Same.{each_same, all_same}

-- the boundary agrees with itself over its first n bytes, j - n places on
abbrev pub Agrees : List ℕ → ℕ → ℕ → Type 0
Agrees b j n = (y : ℕ) → y < n → get_or b y 0 ≡ get_or b (j - n + y) 0

module _ (b : List ℕ) (j n : ℕ) (shorter : n ≤ j) (within : j < length b) where
  agrees_of_ends : Ends (take n b) (take j b) → Agrees b j n
  agrees_of_ends h y below =
      let x = h.0 in
      let size : length x ≡ j - n = omega (arith, ap length h.1, length-append x (take n b), length-take n b, length-take j b) in
      sym
      (sym (get_or-take j b (j - n + y) 0 (omega arith)) ∙ ap (λ (l : List ℕ). get_or l (j - n + y) 0) h.1
      ∙ ap (λ (s : ℕ). get_or (x ++ take n b) (s + y) 0) (sym size) ∙ get_or-append-add x (take n b) y 0 ∙ get_or-take n b y 0 below)

  ends_of_agrees : Agrees b j n → Ends (take n b) (take j b)
  ends_of_agrees h =
      let split : j ≡ j - n + n = omega arith in
      let part : take n (drop (j - n) b) ≡ take n b =
      ext_get_or 0 (take n (drop (j - n) b)) (take n b) (simp (length-take, length-drop) (omega arith))
      (λ y below.
      let short : y < n = omega (arith, below, length-take n (drop (j - n) b)) in
      get_or-take n (drop (j - n) b) y 0 short ∙ get_or-drop (j - n) b y 0 ∙ sym (h y short) ∙ sym (get_or-take n b y 0 short)) in
      (take (j - n) b, ap (λ (i : ℕ). take i b) split ∙ take-add (j - n) n b ∙ ap (λ (l : List ℕ). take (j - n) b ++ l) part)

module _ (b : List ℕ) (j c t : ℕ) (within : j < length b) (bounds : (0 < t) × (t ≤ suc j)) where
  as_snoc : take t b ≡ take (t - 1) b ++ (get_or b (t - 1) 0 ∷ [])
  as_snoc =
      let one : t ≡ suc (t - 1) = omega arith in
      ap (λ (i : ℕ). take i b) one ∙ take-suc b (t - 1) 0 (omega arith)

  taken_apart : ends_with (take t b) (take j b ++ (c ∷ [])) ≡ true → Agrees b j (t - 1) × (get_or b (t - 1) 0 ≡ c)
  taken_apart h =
      let both = ends_unsnoc (take (t - 1) b) (take j b) (get_or b (t - 1) 0) c (rw as_snoc at (ends_of_test _ _ h)) in
      (agrees_of_ends b j (t - 1) (omega arith) within both.0, both.1)

  put_together : Agrees b j (t - 1) → get_or b (t - 1) 0 ≡ c → ends_with (take t b) (take j b ++ (c ∷ [])) ≡ true
  put_together h same =
      test_of_ends _ _ (rw (as_snoc, same) (ends_snoc (take (t - 1) b) (take j b) c (ends_of_agrees b j (t - 1) (omega arith) within h)))

  pub last_differs : (get_or b (t - 1) 0 ≡ c → ⊥) → false ≡ ends_with (take t b) (take j b ++ (c ∷ []))
  last_differs other = sym (false_from_ne_true _ (λ p. other (taken_apart p).1))

  -- and where the last byte is the same, the bytes before it decide
  pub last_same : get_or b (t - 1) 0 ≡ c → same_at (t - 1) b 0 b (j - (t - 1)) ≡ ends_with (take t b) (take j b ++ (c ∷ []))
  last_same same =
      iff_same _ _
      (λ h. put_together (λ y below. sym (each_same b 0 b (j - (t - 1)) (t - 1) h y below ∙ ap (λ (n : ℕ). get_or b n 0) (zero-add y))) same)
      (λ h.
      all_same b 0 b (j - (t - 1)) (t - 1) (omega arith) (omega arith)
      (λ y below. sym ((taken_apart h).0 y below) ∙ ap (λ (n : ℕ). get_or b n 0) (sym (zero-add y))))

-- of the first bytes of b, fewer than n, no more than t end w
abbrev pub NoneAbove : ℕ → List ℕ → List ℕ → ℕ → Type 0
NoneAbove n b w t = (x : ℕ) → t < x → x < n → ends_with (take x b) w ≡ false

pub above_first : (b : List ℕ) (j c t : ℕ) → j < length b → j < t → NoneAbove (suc (length b)) b (take j b ++ (c ∷ [])) t
above_first b j c t within long x above below =
    too_long_lem (take x b) (take j b ++ (c ∷ [])) (simp (length-take, length-append) (omega arith))

module _ (n : ℕ) (b w : List ℕ) (t : ℕ) (above : NoneAbove n b w t) where
  pub above_next : ends_with (take t b) w ≡ false → NoneAbove n b w (t - 1)
  above_next off x over below = go (leb x t) refl
    where
      go : (r : Bool) → leb x t ≡ r → ends_with (take x b) w ≡ false
      go true e = let same : x ≡ t = omega (arith, leb-true x t e) in rw same off
      go false e = above x (leb-false x t e) below

  pub above_found : t < n → ends_with (take t b) w ≡ true → t ≡ longest_match n b w
  unfolding longest_match
  above_found below h = sym (greatest_is (λ j. ends_with (take j b) w) n t below h above)

  pub above_none : 0 < n → t ≤ 0 → 0 ≡ longest_match n b w
  unfolding longest_match
  above_none some low =
      sym (greatest_is (λ j. ends_with (take j b) w) n 0 some (test_of_ends [] w (ends_nil w)) (λ x over below. above x (omega arith) below))
