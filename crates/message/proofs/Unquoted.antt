-- A value holds no mark of the kind that quotes it: neither its plain bytes, nor references, nor characters of more than one byte do.
-- Assumes nothing.
use Prim.Native.Nat.{ℕ, zero, suc, ◌+◌, ◌*◌, ◌<◌, ◌≤◌}
use mathlib.Core.Path.{◌≡◌, refl, sym, ◌∙◌, ap, subst}
use mathlib.Core.Bool.{Bool, true, false, cond, ◌||◌}
use mathlib.Core.List.{List, [], ◌∷◌}
use native.Mathlib.Omega.{arith}
use native.Mathlib.Decide.{dec_lt}
use lib.ListN.{length}
use lib.Dec.{leb, eqb}
use borrow.Author.Tests.{eq-eqb}
use Rattle.std.proofs.lemmas.Bool.{both_ways, cond_both, or_parts}
use Rattle.std.proofs.lemmas.Bool.Decides.{nat_tests}
use Rattle.message.specs.Class.{class_of, between, is_text, is_plain}
use Rattle.message.specs.Reading.{Reading, ◌>>=◌, is, byte_at, is_quote, has, one, ends, word_at}
use Rattle.message.specs.Characters.{Character, later, second_of_three, third_of_three, second_of_four, two_at, three_at, last_two_at, four_at, long_at, is_digit, digit_of, digits_at, closes, numbered_at, stands_at, predefined_at, reference_at}
use Rattle.message.specs.Text.{special_at, beyond_plain_in_at, value_at}
use Rattle.message.proofs.Laws.{has_in, has_lt, has_byte, ends_more, ends_stop, ends_out}
use Rattle.message.proofs.Progress.{Every, every_then}

-- the byte stands in the word
abbrev holds : List ℕ → ℕ → Bool
holds [] y = false
holds (x ∷ word) y = is x y || holds word y

module _ (s : List ℕ) (q : ℕ) where
  -- from one place up to another no byte is q
  abbrev pub Free : ℕ → ℕ → Type 0
  Free from to = (i : ℕ) → from ≤ i → i < to → byte_at s i ≡ q → ⊥

  pub free_none : (at : ℕ) → Free at at
  free_none at i f t = λ e. omega arith

  free_join : (from at to : ℕ) → Free from at → Free at to → Free from to
  free_join from at to f g i a b e = elim (dec_lt i at) [ yes h ↦ f i a h e | no h ↦ g i (omega arith) b e ]

  -- a byte that passes a test which q fails
  free_on : (test : ℕ → Bool) → test q ≡ false → (from at : ℕ) → Free from at → has test s at ≡ true → Free from (at + 1)
  free_on test fails from at f h =
      free_join from at (at + 1) f (λ i a b e. both_ways _ (ap test (ap (byte_at s) (omega arith) ∙ e) ∙ fails) (has_byte test s at h))

  -- and as many as do
  pub free_run : (test : ℕ → Bool) → test q ≡ false → (n from at : ℕ) → length s ≤ at + n → Free from at → Free from (ends test s at)
  free_run test fails zero from at h f = subst (Free from) (sym (ends_out test s at (omega arith))) f
  free_run test fails (suc n) from at h f = go (has test s at) refl (free_run test fails n from (at + 1) (omega arith))
    where
      go : (t : Bool) → has test s at ≡ t → (Free from (at + 1) → Free from (ends test s (at + 1))) → Free from (ends test s at)
      go true e further = subst (Free from) (sym (ends_more test s at e)) (further (free_on test fails from at f e))
      go false e further = subst (Free from) (sym (ends_stop test s at e)) f

  -- ---- where q is a quotation mark, what a value may hold besides plain bytes

  module _ (quote : is_quote q ≡ true) (from : ℕ) where
    fails : (test : ℕ → Bool) → test 34 ≡ false → test 39 ≡ false → test q ≡ false
    fails test a b = grind (arith, nat_tests)

    abbrev Clear : Reading Character → Type 0
    Clear = Every (λ c. Free from c.end)

    abbrev ClearPlace : Reading ℕ → Type 0
    ClearPlace = Every (λ e. Free from e)

    free_one : (test : ℕ → Bool) → test q ≡ false → (at : ℕ) → Free from at → ClearPlace (one test s at)
    unfolding one
    free_one test fails at f = cond_both (has test s at) _ _ ClearPlace (free_on test fails from at f) (λ t. tt)

    second_three_lem : (lead : ℕ) → second_of_three lead q ≡ false
    second_three_lem lead = grind (arith, nat_tests)

    second_four_lem : (lead : ℕ) → second_of_four lead q ≡ false
    second_four_lem lead = grind (arith, nat_tests)

    step : (test : ℕ → Bool) → test q ≡ false → {B : Type 0} (Q : B → Type 0) (next : ℕ → Reading B) (at : ℕ) → Free from at
        → ((e : ℕ) → Free from e → Every Q (next e)) → Every Q (one test s at >>= next)
    step test no-q Q next at f g = every_then (Free from) Q next (one test s at) (free_one test no-q at f) g

    free_long : (at : ℕ) → Free from at → Clear (long_at s at)
    unfolding long_at two_at three_at four_at last_two_at
    free_long at f =
        cond_both (has (between 194 223) s at) _ _ Clear (λ t.
        step later (fails later refl refl) (λ c. Free from c.end) _ (at + 1)
        (free_on (between 194 223) (fails (between 194 223) refl refl) from at f t) (λ e g. g)) (λ t.
        cond_both (has (between 224 239) s at) _ _ Clear (λ t.
        step (second_of_three (byte_at s at)) (second_three_lem (byte_at s at)) (λ c. Free from c.end) _ (at + 1)
        (free_on (between 224 239) (fails (between 224 239) refl refl) from at f t) (λ i g.
        step (third_of_three (byte_at s at) (byte_at s (at + 1))) (fails (third_of_three (byte_at s at) (byte_at s (at + 1))) refl refl)
        (λ c. Free from c.end) _ i g (λ e g'. g'))) (λ t.
        step (between 240 244) (fails (between 240 244) refl refl) (λ c. Free from c.end) _ at f (λ i g.
        step (second_of_four (byte_at s at)) (second_four_lem (byte_at s at)) (λ c. Free from c.end) _ i g (λ j g'.
        step later (fails later refl refl) (λ c. Free from c.end) _ j g' (λ k g''.
        step later (fails later refl refl) (λ c. Free from c.end) _ k g'' (λ e g'''. g'''))))))

    not_plain : is_plain class_of q ≡ false
    unfolding class_of
    not_plain = fails (is_plain class_of) refl refl

    free_word : (word : List ℕ) (at : ℕ) → holds word q ≡ false → Free from at → ClearPlace (word_at word s at)
    unfolding word_at
    free_word [] at h f = f
    free_word (x ∷ word) at h f =
        step (is x) (or_parts (eqb q x) (holds word q) h).0 (λ e. Free from e) _ at f
        (λ e g. free_word word e (or_parts (eqb q x) (holds word q) h).1 g)

    free_stands : (word : List ℕ) (code at : ℕ) → holds word 34 ≡ false → holds word 39 ≡ false → Free from at
        → Clear (stands_at word code s at)
    unfolding stands_at
    free_stands word code at a b f =
        every_then (Free from) (λ c. Free from c.end) _ (word_at word s at) (free_word word at (fails (holds word) a b) f) (λ e g. g)

    free_predefined : (at : ℕ) → Free from at → Clear (predefined_at s at)
    unfolding predefined_at
    free_predefined at f =
        cond_both (has (is 108) s at) _ _ Clear (λ t. free_stands (108 ∷ 116 ∷ 59 ∷ []) 60 at refl refl f) (λ t.
        cond_both (has (is 103) s at) _ _ Clear (λ t. free_stands (103 ∷ 116 ∷ 59 ∷ []) 62 at refl refl f) (λ t.
        cond_both (has (is 113) s at) _ _ Clear (λ t. free_stands (113 ∷ 117 ∷ 111 ∷ 116 ∷ 59 ∷ []) 34 at refl refl f) (λ t.
        step (is 97) (fails (is 97) refl refl) (λ c. Free from c.end) _ at f (λ i g.
        cond_both (has (is 109) s i) _ _ Clear (λ t. free_stands (109 ∷ 112 ∷ 59 ∷ []) 38 i refl refl g)
        (λ t. free_stands (112 ∷ 111 ∷ 115 ∷ 59 ∷ []) 39 i refl refl g)))))

    free_digits : (fuel base n at : ℕ) → Free from at → Clear (digits_at fuel base n s at)
    unfolding digits_at
    free_digits zero base n at f = tt
    free_digits (suc fuel) base n at f =
        let more = n * base + digit_of (byte_at s at) in
        cond_both (has (is_digit base) s at) _ _ Clear (λ t.
        cond_both (leb more 1114111) _ _ Clear
        (λ u. free_digits fuel base more (at + 1) (free_on (is_digit base) (fails (is_digit base) refl refl) from at f t)) (λ u. tt)) (λ t. f)

    free_numbered : (base at : ℕ) → Free from at → Clear (numbered_at base s at)
    unfolding numbered_at
    free_numbered base at f =
        step (is_digit base) (fails (is_digit base) refl refl) (λ c. Free from c.end) _ at f (λ i g.
        every_then (λ c. Free from c.end) (λ c. Free from c.end) _ (digits_at (suc (length s)) base 0 s at)
        (free_digits (suc (length s)) base 0 at f) (λ n g'.
        step (closes n.code) (fails (closes n.code) refl refl) (λ c. Free from c.end) _ n.end g' (λ e g''. g'')))

    free_reference : (at : ℕ) → Free from at → Clear (reference_at s at)
    unfolding reference_at
    free_reference at f =
        step (is 38) (fails (is 38) refl refl) (λ c. Free from c.end) _ at f (λ i g.
        cond_both (has (is 35) s i) _ _ Clear (λ t.
        let hash : Free from (i + 1) = free_on (is 35) (fails (is 35) refl refl) from i g t in
        cond_both (has (is 120) s (i + 1)) _ _ Clear
        (λ u. free_numbered 16 (i + 2) (subst (Free from) (omega arith) (free_on (is 120) (fails (is 120) refl refl) from (i + 1) hash u)))
        (λ u. free_numbered 10 (i + 1) hash)) (λ t.
        free_predefined i g))

    free_beyond : (at : ℕ) → Free from at → has (is q) s at ≡ false → ClearPlace (beyond_plain_in_at class_of s at)
    unfolding beyond_plain_in_at special_at
    free_beyond at f other =
        cond_both (has (is_text class_of) s at) _ _ ClearPlace
        (λ t i a b e. elim (dec_lt i at) [ yes h ↦ f i a h e | no h ↦ differs (has_lt (is_text class_of) s at t) i (omega arith) e ]) (λ t.
        every_then (λ c. Free from c.end) (Free from) _ (cond (has (is 38) s at) (reference_at s at) (long_at s at))
        (cond_both (has (is 38) s at) _ _ Clear (λ u. free_reference at f) (λ u. free_long at f)) (λ c g. g))
      where
        differs : at < length s → (i : ℕ) → i ≡ at → byte_at s i ≡ q → ⊥
        differs h i i-is e = both_ways _ (sym (has_in (is q) s at h) ∙ other) (eq-eqb (byte_at s at) q (ap (byte_at s) (sym i-is) ∙ e))

    -- ---- a value, up to the mark that ends it

    pub free_value : (fuel at : ℕ) → Free from at
        → Every (λ stop. Free from stop × (has (is q) s stop ≡ true)) (value_at class_of fuel q s at)
    unfolding value_at
    free_value zero at f = tt
    free_value (suc fuel) at f =
        let stop = ends (is_plain class_of) s at in
        let clear : Free from stop = free_run (is_plain class_of) not_plain (length s) from at (omega arith) f in
        cond_both (has (is q) s stop) _ _ (Every (λ stop. Free from stop × (has (is q) s stop ≡ true))) (λ t. (clear, t)) (λ t.
        every_then (Free from) (λ stop. Free from stop × (has (is q) s stop ≡ true)) _ (beyond_plain_in_at class_of s stop)
        (free_beyond stop clear t) (λ e g. free_value fuel e g))
