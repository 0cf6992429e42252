-- Single bytes that are known, and runs of bytes that pass a test. Assumes nothing.
use Prim.Native.Nat.{ℕ, zero, suc, ◌+◌, ◌<◌, ◌≤◌}
use mathlib.Core.Path.{◌≡◌, refl, sym, ◌∙◌, ap}
use mathlib.Core.Bool.{Bool, true, false}
use mathlib.Core.List.{List, ◌∷◌}
use native.Mathlib.Omega.{arith}
use lib.ListN.{length}
use borrow.Author.Tests.{le-leb, eqb-true}
use Rattle.std.proofs.lemmas.Bool.{false_from_ne_true}
use Rattle.message.specs.Class.{is_start, is_name}
use Rattle.message.specs.Reading.{Reading, ◌>>=◌, is_whole, is, byte_at, has, ends, word_at}
use Rattle.message.proofs.Laws.{has_in, has_lt, has_byte, one_no, ends_from, ends_more, ends_stop, ends_out}

-- a byte that is known passes a test or not
module _ (x : ℕ) (s : List ℕ) (at : ℕ) (there : has (is x) s at ≡ true) where
  pub byte_is : byte_at s at ≡ x
  byte_is = eqb-true (byte_at s at) x (has_byte (is x) s at there)

  pub has_known : (test : ℕ → Bool) → has test s at ≡ test x
  has_known test = has_in test s at (has_lt (is x) s at there) ∙ ap test byte_is

-- the first byte of a word that stands there
pub word_begins : (x : ℕ) (w s : List ℕ) (at : ℕ) → is_whole (word_at (x ∷ w) s at) ≡ true → has (is x) s at ≡ true
unfolding word_at
word_begins x w s at h = go (has (is x) s at) refl
  where
    go : (t : Bool) → has (is x) s at ≡ t → t ≡ true
    go true e = refl
    go false e = sym (ap (λ (r : Reading ℕ). is_whole (r >>= word_at w s)) (one_no (is x) s at e)) ∙ h

module _ (test : ℕ → Bool) (s : List ℕ) where
  -- what each byte of a run keeps holds behind the run
  module _ (P : ℕ → Type 0) (keeps : (i : ℕ) → has test s i ≡ true → P i → P (i + 1)) where
    keeps_on : (n at : ℕ) → length s ≤ n + at → P at → P (ends test s at)
    keeps_on zero at h p = rw (ends_out test s at (omega arith)) p
    keeps_on (suc n) at h p = go (has test s at) refl (λ e. keeps_on n (at + 1) (omega arith) (keeps at e p))
      where
        go : (t : Bool) → has test s at ≡ t → (has test s at ≡ true → P (ends test s (at + 1))) → P (ends test s at)
        go true e more = rw (ends_more test s at e) (more e)
        go false e more = rw (ends_stop test s at e) p

    pub run_keeps : (at : ℕ) → P at → P (ends test s at)
    run_keeps at p = keeps_on (length s) at (omega arith) p

  -- the byte behind it does not pass
  pub ends_fails : (at : ℕ) → has test s (ends test s at) ≡ false
  ends_fails at =
      let stop = ends test s at in
      let same : ends test s stop ≡ stop = run_keeps (λ (i : ℕ). ends test s i ≡ stop) (λ i e q. sym (ends_more test s i e) ∙ q) at refl in
      false_from_ne_true (has test s stop) (λ e. omega (arith, ends_more test s stop e, ends_from test s (stop + 1)))

-- what begins a name is part of it
module _ (class : ℕ → ℕ) (s : List ℕ) (at : ℕ) (begins : has (is_start class) s at ≡ true) where
  pub start_name : has (is_name class) s at ≡ true
  start_name =
      has_in (is_name class) s at (has_lt (is_start class) s at begins)
      ∙ le-leb _ (class (byte_at s at)) (omega (arith, eqb-true (class (byte_at s at)) _ (has_byte (is_start class) s at begins)))

  pub start_in_name : at < ends (is_name class) s at
  start_in_name = omega (arith, ends_more (is_name class) s at start_name, ends_from (is_name class) s (at + 1))
