-- The laws of the readers of specs/ that the proofs of the code cite. Assumes nothing.
use Prim.Native.Nat.{ℕ, zero, suc, ◌+◌, ◌-◌, ◌<◌, ◌≤◌}
use mathlib.Core.Path.{◌≡◌, refl, sym, ◌∙◌, ap}
use mathlib.Core.Bool.{Bool, true, false, cond, ◌&&◌, ◌||◌}
use mathlib.Core.List.{List, [], ◌∷◌}
use native.Mathlib.Nat.{add-zero}
use native.Mathlib.Omega.{arith}
use native.Mathlib.Decide.{dec_lt}
use lib.ListN.{length, drop, drop_of_length-le, length-drop}
use lib.Dec.{ltb}
use borrow.Author.Tests.{lt-ltb, le-ltb, ltb-true}
use Rattle.std.proofs.lemmas.Bool.Decides.{nat_tests}
use Rattle.std.proofs.lemmas.Bool.{and_parts, cond_both}
use Rattle.std.proofs.lemmas.List.{drop_more}
use Rattle.message.specs.Class.{between}
use Rattle.message.specs.Reading.{Reading, ◌>>=◌, is, has, one, span, ends, up_to, word_at, byte_at}
use Rattle.message.specs.Reading.Reading.{whole, refused}
use Rattle.message.specs.Text.{hyphens_at}

-- ---- One reading after another: `went` is the way on after the first was whole, `stopped` the way out after it was refused. So a function's steps are
-- gone back one by one.

module _ {A B : Type 0} (next : A → Reading B) {a : Reading A} where
  pub went : {x : A} → a ≡ whole x → next x ≡ (a >>= next)
  went h = rw h

  pub stopped : {n p : ℕ} → a ≡ refused n p → refused n p ≡ (a >>= next)
  stopped h = rw h

-- ---- tests

pub cond_true : {A : Type 0} {x : A} (y : A) {t : Bool} → t ≡ true → x ≡ cond t x y
cond_true y h = rw h

pub cond_false : {A : Type 0} (x : A) {y : A} {t : Bool} → t ≡ false → y ≡ cond t x y
cond_false x h = rw h

pub and_true : {t : Bool} (u : Bool) → t ≡ true → u ≡ (t && u)
and_true u h = rw h

pub and_false : {t : Bool} (u : Bool) → t ≡ false → false ≡ (t && u)
and_false u h = rw h

pub or_true : {t : Bool} (u : Bool) → t ≡ true → true ≡ (t || u)
or_true u h = rw h

-- what holds on either way
pub on_either : {A : Type 0} (P : A → Type 0) {x y : A} (t : Bool) → P x → P y → P (cond t x y)
on_either P t p q = cond_both t _ _ P (λ e. p) (λ e. q)

-- ---- one byte, and as many as pass a test

span_none : (test : ℕ → Bool) → span test [] ≡ 0
unfolding span
span_none test = refl

span_yes : (test : ℕ → Bool) (x : ℕ) (xs : List ℕ) → test x ≡ true → span test (x ∷ xs) ≡ suc (span test xs)
unfolding span
span_yes test x xs e = rw (e, span)

span_no : (test : ℕ → Bool) (x : ℕ) (xs : List ℕ) → test x ≡ false → span test (x ∷ xs) ≡ 0
unfolding span
span_no test x xs e = rw (e, span)

span_le : (test : ℕ → Bool) (xs : List ℕ) → span test xs ≤ length xs
unfolding span
span_le test [] = omega arith
span_le test (x ∷ xs) = go (test x) (span_le test xs)
  where
    go : (t : Bool) {n : ℕ} → n ≤ length xs → cond t (suc n) 0 ≤ suc (length xs)
    go true h = omega arith
    go false h = omega arith

module _ (test : ℕ → Bool) (s : List ℕ) (at : ℕ) where
  pub has_in : at < length s → has test s at ≡ test (byte_at s at)
  unfolding has
  has_in h = rw (lt-ltb at (length s) h)

  pub has_out : length s ≤ at → has test s at ≡ false
  unfolding has
  has_out h = rw (le-ltb at (length s) h)

  pub has_lt : has test s at ≡ true → at < length s
  unfolding has
  has_lt e = ltb-true at (length s) (and_parts (ltb at (length s)) (test (byte_at s at)) e).0

  -- what the test says of the byte there
  pub has_byte : has test s at ≡ true → test (byte_at s at) ≡ true
  has_byte e = sym (has_in (has_lt e)) ∙ e

  pub fails_byte : at < length s → has test s at ≡ false → test (byte_at s at) ≡ false
  fails_byte h e = sym (has_in h) ∙ e

  pub one_yes : has test s at ≡ true → one test s at ≡ whole (at + 1)
  unfolding one
  one_yes e = rw (e, one)

  pub one_no : has test s at ≡ false → one test s at ≡ refused 9 at
  unfolding one
  one_no e = rw (e, one)

  -- a byte that was read stands there, and the place behind it is the next
  pub one_has : (e : ℕ) → one test s at ≡ whole e → (has test s at ≡ true) × (e ≡ at + 1)
  unfolding one
  one_has e q = go (has test s at) refl
    where
      go : (t : Bool) → has test s at ≡ t → (has test s at ≡ true) × (e ≡ at + 1)
      go true h = let z : whole (at + 1) ≡ whole e = sym (one_yes h) ∙ q in let y : at + 1 ≡ e = cc in (h, sym y)
      go false h = cc (one_no h)

  pub ends_le : at ≤ length s → ends test s at ≤ length s
  unfolding ends
  ends_le h = omega (arith, span_le test (drop at s), length-drop at s)

  pub ends_from : at ≤ ends test s at
  unfolding ends
  ends_from = omega arith

  pub ends_after : {e : ℕ} → e ≡ ends test s at → at ≤ e
  ends_after h = omega (arith, ends_from)

  pub ends_more : has test s at ≡ true → ends test s at ≡ ends test s (at + 1)
  unfolding ends
  ends_more e =
      let h : at < length s = has_lt e in
      let t : test (byte_at s at) ≡ true = sym (has_in h) ∙ e in
      rw (drop_more s at 0 h, span_yes test (byte_at s at) (drop (at + 1) s) t) (omega arith)

  pub ends_stop : has test s at ≡ false → ends test s at ≡ at
  unfolding ends
  ends_stop e =
      elim (dec_lt at (length s)) [
        | yes h ↦
            let t : test (byte_at s at) ≡ false = sym (has_in h) ∙ e in
            rw (drop_more s at 0 h, span_no test (byte_at s at) (drop (at + 1) s) t) (omega arith)
        | no h ↦ rw (drop_of_length-le s {i = at} (omega arith), span_none test) (omega arith)
      ]

  -- past the end of the message
  pub ends_out : length s ≤ at → ends test s at ≡ at
  ends_out h = ends_stop (has_out h)

-- ---- how many pass a test, of at most k: so a run is looked at piece by piece

module _ (test : ℕ → Bool) (s : List ℕ) where
  -- those that pass stand in the message
  up_le : (k at : ℕ) → up_to k test s at ≤ length s - at
  unfolding up_to
  up_le zero at = omega arith
  up_le (suc k) at =
      cond_both (has test s at) _ _ (λ n. n ≤ length s - at) (λ t. omega (arith, up_le k (at + 1), has_lt test s at t)) (λ t. omega arith)

  ends_all : (k at : ℕ) → up_to k test s at ≡ k → ends test s (at + k) ≡ ends test s at
  unfolding up_to
  ends_all zero at = λ h. rw add-zero
  ends_all (suc k) at =
      cond_both (has test s at) _ _ (λ n. n ≡ suc k → ends test s (at + suc k) ≡ ends test s at)
      (λ t h. ap (ends test s) (omega arith) ∙ ends_all k (at + 1) (omega arith) ∙ sym (ends_more test s at t))
      (λ t h. absurd (omega arith))

  ends_some : (k at : ℕ) → (up_to k test s at ≡ k → ⊥) → at + up_to k test s at ≡ ends test s at
  unfolding up_to
  ends_some zero at = λ h. absurd (h refl)
  ends_some (suc k) at =
      cond_both (has test s at) _ _ (λ n. (n ≡ suc k → ⊥) → at + n ≡ ends test s at)
      (λ t h. omega (arith, ends_some k (at + 1) (λ e. h (omega arith)), ends_more test s at t))
      (λ t h. omega (arith, ends_stop test s at t))

  module _ (k at : ℕ) {n : ℕ} (n-is : n ≡ up_to k test s at) where
    pub up_in : n ≤ length s - at
    up_in = omega (arith, up_le k at)

    -- all of them pass, and the run goes on behind them
    pub up_all : n ≡ k → ends test s (at + n) ≡ ends test s at
    up_all h = ap (λ (m : ℕ). ends test s (at + m)) h ∙ ends_all k at (sym n-is ∙ h)

    -- not all do, and it ends behind those that do
    pub up_some : (n ≡ k → ⊥) → at + n ≡ ends test s at
    up_some h = ap (λ (m : ℕ). at + m) n-is ∙ ends_some k at (λ e. h (n-is ∙ e))

-- ---- a byte of a range

pub between_both : (low high x : ℕ) → between low high x ≡ true → (low ≤ x) × (x ≤ high)
between_both low high x h = grind (arith, nat_tests)

module _ (low high x : ℕ) where
  pub between_yes : low ≤ x → x ≤ high → between low high x ≡ true
  between_yes l h = grind (arith, nat_tests)

  pub between_below : x < low → between low high x ≡ false
  between_below h = grind (arith, nat_tests)

  pub between_above : high < x → between low high x ≡ false
  between_above h = grind (arith, nat_tests)

module _ (low high : ℕ) (s : List ℕ) (at : ℕ) where
  pub has_between : has (between low high) s at ≡ true → (at < length s) × (low ≤ byte_at s at) × (byte_at s at ≤ high)
  has_between h =
      let b = between_both low high (byte_at s at) (has_byte (between low high) s at h) in
      (has_lt (between low high) s at h, b.0, b.1)

  pub one_between : (e : ℕ) → one (between low high) s at ≡ whole e
      → (at < length s) × (low ≤ byte_at s at) × (byte_at s at ≤ high) × (e ≡ at + 1)
  one_between e q =
      let o = one_has (between low high) s at e q in
      let b = has_between o.0 in
      (b.0, b.1, b.2, o.1)

-- a test that two others make, where the first fails or passes
module _ (f g : ℕ → Bool) (s : List ℕ) (at : ℕ) where
  pub has_or : has (λ x. f x || g x) s at ≡ (has f s at || has g s at)
  unfolding has
  has_or = grind (arith, nat_tests)

  pub has_second : has f s at ≡ false → has (λ x. f x || g x) s at ≡ has g s at
  has_second h = has_or ∙ rw h

-- ---- a word, from its k-th byte on

module _ (w s : List ℕ) (at k : ℕ) where
  pub word_none : length w ≤ k → word_at (drop k w) s at ≡ whole at
  unfolding word_at
  word_none h = rw (drop_of_length-le w {i = k} h)

  pub word_more : k < length w → word_at (drop k w) s at ≡ (one (is (byte_at w k)) s at >>= word_at (drop (k + 1) w) s)
  unfolding word_at
  word_more h = rw (drop_more w k 0 h)

-- both bytes of `--` stand in the message
pub hyphens_lt : (s : List ℕ) (at : ℕ) → hyphens_at s at ≡ true → at + 1 < length s
hyphens_lt s at h = has_lt (is 45) s (at + 1) (and_parts (has (is 45) s at) (has (is 45) s (at + 1)) h).1
