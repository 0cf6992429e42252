-- Words that were read: their bytes one by one, where they end, and that they stand there. Assumes nothing.
use Prim.Native.Nat.{ℕ, ◌+◌, ◌≤◌}
use mathlib.Core.Path.{◌≡◌, refl, sym, ◌∙◌, ap, ap₂}
use mathlib.Core.Bool.{true}
use mathlib.Core.List.{List, [], ◌∷◌, ◌++◌}
use native.Mathlib.Omega.{arith}
use lib.ListN.{length}
use Rattle.message.specs.Reading.{is, has, one, word_at}
use Rattle.message.specs.Reading.Reading.{whole}
use Rattle.message.specs.Elements.{part}
use Rattle.message.proofs.Laws.{has_lt, one_yes, one_has}
use Rattle.message.proofs.Runs.{byte_is}
use Rattle.message.proofs.Parts.{part_none, part_some}
use Rattle.message.proofs.Trees.{whole_same}
use Rattle.message.proofs.Facts.{then_whole}

module _ (s : List ℕ) where
  -- the first byte of a word that stands there, and the rest
  pub word_first : (b : ℕ) (w : List ℕ) (i e : ℕ) → word_at (b ∷ w) s i ≡ whole e → (has (is b) s i ≡ true) × (word_at w s (i + 1) ≡ whole e)
  unfolding word_at
  word_first b w i e q =
      let x = then_whole (word_at w s) (one (is b) s i) e q in
      let o = one_has (is b) s i x.0 x.1 in
      (o.0, ap (word_at w s) (sym o.1) ∙ x.2)

  -- and a byte before a word that does
  pub word_before : (b : ℕ) (w : List ℕ) (i next e : ℕ) → has (is b) s i ≡ true → next ≡ i + 1 → word_at w s next ≡ whole e
      → word_at (b ∷ w) s i ≡ whole e
  unfolding word_at
  word_before b w i next e there on q = rw (one_yes (is b) s i there) (ap (word_at w s) (sym on) ∙ q)

  -- one word behind another
  pub word_joined : (w v : List ℕ) (i j e : ℕ) → word_at w s i ≡ whole j → word_at v s j ≡ whole e → word_at (w ++ v) s i ≡ whole e
  unfolding word_at
  word_joined [] v i j e q r = let same : i ≡ j = whole_same q in ap (word_at v s) same ∙ r
  word_joined (b ∷ w) v i j e q r =
      let x = word_first b w i j q in
      word_before b (w ++ v) i (i + 1) e x.0 refl (word_joined w v (i + 1) j e x.1 r)

  pub word_ends : (w : List ℕ) (i e : ℕ) → word_at w s i ≡ whole e → e ≡ i + length w
  unfolding word_at
  word_ends [] i e q = let same : i ≡ e = whole_same q in omega arith
  word_ends (b ∷ w) i e q = omega (arith, word_ends w (i + 1) e (word_first b w i e q).1)

  pub word_within : (w : List ℕ) (i e : ℕ) → word_at w s i ≡ whole e → i ≤ length s → e ≤ length s
  unfolding word_at
  word_within [] i e q within = let same : i ≡ e = whole_same q in omega arith
  word_within (b ∷ w) i e q within =
      let x = word_first b w i e q in
      word_within w (i + 1) e x.1 (omega (arith, has_lt (is b) s i x.0))

  -- a word that was read stands there
  pub word_part : (w : List ℕ) (i e : ℕ) → word_at w s i ≡ whole e → e ≤ length s → (i ≤ e) × (part s i e ≡ w)
  unfolding word_at
  word_part [] i e q l = let same : i ≡ e = whole_same q in (omega arith, part_none s i e (omega arith))
  word_part (b ∷ w) i e q l =
      let x = word_first b w i e q in
      let r = word_part w (i + 1) e x.1 l in
      (omega (arith, r.0), part_some s i e (omega (arith, r.0)) l ∙ ap₂ ◌∷◌ (byte_is b s i x.0) r.1)
