-- The numbers of refusal. The readers that take no limits refuse for the form of the message alone: what holds of 9 and of 12 holds of all
-- their refusals. Assumes nothing.
use Prim.Native.Nat.{ℕ, zero, suc, ◌+◌, ◌-◌, ◌*◌}
use mathlib.Core.Path.{◌≡◌, refl, sym, subst}
use mathlib.Core.Bool.{Bool, ◌&&◌, ◌||◌}
use mathlib.Core.List.{List, [], ◌∷◌}
use lib.ListN.{length}
use lib.Dec.{ltb, leb}
use Rattle.std.proofs.lemmas.Bool.{cond_both}
use Rattle.message.specs.Class.{between, is_space, is_text, is_plain, is_plain_note}
use Rattle.message.specs.Reading.{Reading, ◌>>=◌, is_whole, is, byte_at, is_quote, has, one, ends, word_at, blanks, equals_at, opened_at, closed_at}
use Rattle.message.specs.Reading.Reading.{whole, refused}
use Rattle.message.specs.Names.{Named}
use Rattle.message.specs.Characters.{later, second_of_three, third_of_three, second_of_four, joined, two_at, three_at, last_two_at, four_at, long_at, is_digit, digit_of, digits_at, closes, numbered_at, stands_at, predefined_at, reference_at}
use Rattle.message.specs.Text.{special_at, bracket_at, beyond_plain_in_at, beyond_plain_at, beyond_note_at, hyphens_at, text_at, value_at, comment_at}
use Rattle.message.specs.Markup.{hyphens, doctype, cdata, version, one_dot_zero, encoding, upper_utf8, lower_utf8, closing, opens_at, utf8_at, bang_at, around_at, declares, encoding_at, declaration_at}
use Rattle.message.specs.Elements.{start_end_at, end_at, quoted_at, free_at, declared_of}
use Rattle.message.proofs.Trees.{unread}

-- the number of a refusal, if the reading is one, is a P
pub data Refuses (P : ℕ → Type 0) {A : Type 0} : Reading A → Type 0 where
  never : {x : A} → Refuses P (whole x)
  with : {n p : ℕ} → P n → Refuses P (refused n p)

-- the second reading is asked only where the first is whole
pub refuses_after : {P : ℕ → Type 0} {A B : Type 0} {a : Reading A} (next : A → Reading B) → Refuses P a
    → ((x : A) → a ≡ whole x → Refuses P (next x))
    → Refuses P (a >>= next)
refuses_after next (never {x}) g = g x refl
refuses_after next (with h) g = with h

pub refuses_then : {P : ℕ → Type 0} {A B : Type 0} {a : Reading A} (next : A → Reading B) → Refuses P a → ((x : A) → Refuses P (next x))
    → Refuses P (a >>= next)
refuses_then next h g = refuses_after next h (λ x q. g x)

pub refuses_number : {P : ℕ → Type 0} {A : Type 0} {a : Reading A} (n p : ℕ) → Refuses P a → a ≡ refused n p → P n
refuses_number n p never q = unread (sym q)
refuses_number {P = P} n p (with {n = n'} h) q = let z : n' ≡ n = cc in subst P z h

-- ---- readers that refuse by 9 alone

module _ (P : ℕ → Type 0) (nine : P 9) (s : List ℕ) where
  abbrev ByForm : {A : Type 0} → Reading A → Type 0
  ByForm = Refuses P

  pub form_one : (test : ℕ → Bool) (at : ℕ) → ByForm (one test s at)
  unfolding one
  form_one test at = cond_both (has test s at) _ _ ByForm (λ t. never) (λ t. with nine)

  pub form_word : (word : List ℕ) (at : ℕ) → ByForm (word_at word s at)
  unfolding word_at
  form_word [] at = never
  form_word (x ∷ word) at = refuses_then _ (form_one (is x) at) (form_word word)

  form_last_two : (begun at : ℕ) → ByForm (last_two_at begun s at)
  unfolding last_two_at
  form_last_two begun at = refuses_then _ (form_one later at) (λ i. refuses_then _ (form_one later i) (λ e. never))

  form_long : (at : ℕ) → ByForm (long_at s at)
  unfolding long_at two_at three_at four_at
  form_long at =
      cond_both (has (between 194 223) s at) _ _ ByForm (λ t. refuses_then _ (form_one later (at + 1)) (λ e. never)) (λ t.
      cond_both (has (between 224 239) s at) _ _ ByForm (λ t.
      refuses_then _ (form_one (second_of_three (byte_at s at)) (at + 1)) (λ i.
      refuses_then _ (form_one (third_of_three (byte_at s at) (byte_at s (at + 1))) i) (λ e. never))) (λ t.
      refuses_then _ (form_one (between 240 244) at)
      (λ i. refuses_then _ (form_one (second_of_four (byte_at s at)) i) (form_last_two (joined (byte_at s at - 240) (byte_at s i))))))

  form_digits : (fuel base n at : ℕ) → ByForm (digits_at fuel base n s at)
  unfolding digits_at
  form_digits zero base n at = with nine
  form_digits (suc fuel) base n at =
      let more = n * base + digit_of (byte_at s at) in
      cond_both (has (is_digit base) s at) _ _ ByForm
      (λ t. cond_both (leb more 1114111) _ _ ByForm (λ u. form_digits fuel base more (at + 1)) (λ u. with nine)) (λ t. never)

  form_numbered : (base at : ℕ) → ByForm (numbered_at base s at)
  unfolding numbered_at
  form_numbered base at =
      refuses_then _ (form_one (is_digit base) at)
      (λ i. refuses_then _ (form_digits (suc (length s)) base 0 at)
      (λ n. refuses_then _ (form_one (closes n.code) n.end) (λ e. never)))

  form_stands : (word : List ℕ) (code at : ℕ) → ByForm (stands_at word code s at)
  unfolding stands_at
  form_stands word code at = refuses_then _ (form_word word at) (λ e. never)

  form_predefined : (at : ℕ) → ByForm (predefined_at s at)
  unfolding predefined_at
  form_predefined at =
      cond_both (has (is 108) s at) _ _ ByForm (λ t. form_stands _ _ at) (λ t.
      cond_both (has (is 103) s at) _ _ ByForm (λ t. form_stands _ _ at) (λ t.
      cond_both (has (is 113) s at) _ _ ByForm (λ t. form_stands _ _ at) (λ t.
      refuses_then _ (form_one (is 97) at) (λ i. cond_both (has (is 109) s i) _ _ ByForm (λ t. form_stands _ _ i) (λ t. form_stands _ _ i)))))

  form_reference : (at : ℕ) → ByForm (reference_at s at)
  unfolding reference_at
  form_reference at =
      refuses_then _ (form_one (is 38) at) (λ i.
      cond_both (has (is 35) s i) _ _ ByForm (λ t.
      cond_both (has (is 120) s (i + 1)) _ _ ByForm (λ t. form_numbered 16 (i + 2)) (λ t. form_numbered 10 (i + 1))) (λ t. form_predefined i))

  pub form_start_end : (b : ℕ) (n : Named) (at : ℕ) → ByForm (start_end_at s b n at)
  unfolding start_end_at
  form_start_end b n at =
      cond_both (has (is 47) s at) _ _ ByForm (λ t. refuses_then _ (form_one (is 62) (at + 1)) (λ i. never))
      (λ t. refuses_then _ (form_one (is 62) at) (λ i. never))

  pub form_end : (at : ℕ) → ByForm (end_at s at)
  unfolding end_at
  form_end at =
      cond_both (has (is 60) s at) _ _ ByForm (λ t. with nine) (λ t. cond_both (ltb at (length s)) _ _ ByForm (λ u. with nine) (λ u. never))

  module _ (class : ℕ → ℕ) where
    form_beyond_in : (at : ℕ) → ByForm (beyond_plain_in_at class s at)
    unfolding beyond_plain_in_at special_at
    form_beyond_in at =
        cond_both (has (is_text class) s at) _ _ ByForm (λ t. never) (λ t.
        refuses_then _ (cond_both (has (is 38) s at) _ _ ByForm (λ u. form_reference at) (λ u. form_long at)) (λ c. never))

    form_beyond : (at : ℕ) → ByForm (beyond_plain_at class s at)
    unfolding beyond_plain_at bracket_at
    form_beyond at =
        cond_both (has (is 93) s at) _ _ ByForm (λ t.
        cond_both (has (is 93) s (at + 1) && has (is 62) s (at + 2)) _ _ ByForm (λ u. with nine) (λ u. never)) (λ t. form_beyond_in at)

    form_text : (fuel at : ℕ) → ByForm (text_at class fuel s at)
    unfolding text_at
    form_text zero at = with nine
    form_text (suc fuel) at =
        let stop = ends (is_plain class) s at in
        cond_both (has (is 60) s stop) _ _ ByForm (λ t. never) (λ t. refuses_then _ (form_beyond stop) (form_text fuel))

    form_value : (fuel quote at : ℕ) → ByForm (value_at class fuel quote s at)
    unfolding value_at
    form_value zero quote at = with nine
    form_value (suc fuel) quote at =
        let stop = ends (is_plain class) s at in
        cond_both (has (is quote) s stop) _ _ ByForm (λ t. never) (λ t. refuses_then _ (form_beyond_in stop) (form_value fuel quote))

    form_comment : (fuel at : ℕ) → ByForm (comment_at class fuel s at)
    unfolding comment_at beyond_note_at
    form_comment zero at = with nine
    form_comment (suc fuel) at =
        let stop = ends (is_plain_note class) s at in
        cond_both (hyphens_at s stop) _ _ ByForm (λ t. form_one (is 62) (stop + 2)) (λ t.
        refuses_then _ (cond_both (has (is 45) s stop) _ _ ByForm (λ u. never) (λ u. refuses_then _ (form_long stop) (λ c. never)))
        (form_comment fuel))

    form_opened : (at : ℕ) → ByForm (opened_at class s at)
    unfolding opened_at equals_at
    form_opened at = refuses_then _ (refuses_then _ (form_one (is 61) (blanks class s at)) (λ next. never)) (form_one is_quote)

    pub form_quoted : (at : ℕ) → ByForm (quoted_at class s at)
    unfolding quoted_at
    form_quoted at =
        refuses_then _ (form_opened at) (λ begin. refuses_then _ (form_value (length s) (byte_at s (begin - 1)) begin) (λ stop. never))

    -- ---- the declaration

    form_closed : (from to : ℕ) → ByForm (closed_at s from to)
    unfolding closed_at
    form_closed from to =
        cond_both (ltb 0 from && leb from (length s)) _ _ ByForm (λ t. form_one (is (byte_at s (from - 1))) to) (λ t. with nine)

    form_encoding : (at : ℕ) → ByForm (encoding_at class s at)
    unfolding encoding_at utf8_at
    form_encoding at =
        refuses_then _ (form_one (is_space class) at) (λ space.
        refuses_then _ (form_word encoding (blanks class s at)) (λ named.
        refuses_then _ (form_opened named) (λ from.
        refuses_then _ (cond_both (has (is 117) s from) _ _ ByForm (λ t. form_word lower_utf8 from) (λ t. form_word upper_utf8 from)) (λ to.
        refuses_then _ (form_closed from to) (λ done. form_word closing (blanks class s done))))))

    pub form_declared : ByForm (declared_of class s)
    unfolding declared_of declaration_at
    form_declared =
        cond_both (declares class s) _ _ ByForm (λ t.
        refuses_then _ (form_word version (blanks class s 5)) (λ named.
        refuses_then _ (form_opened named) (λ from.
        refuses_then _ (form_word one_dot_zero from) (λ to.
        refuses_then _ (form_closed from to) (λ done.
        cond_both (has (is 63) s (blanks class s done)) _ _ ByForm (λ u. form_word closing (blanks class s done))
        (λ u. form_encoding done)))))) (λ t. never)

    -- ---- those that refuse by 12 too

    module _ (twelve : P 12) where
      form_bang : (at : ℕ) → ByForm (bang_at class s at)
      unfolding bang_at
      form_bang at =
          refuses_then _ (form_one (is 60) at) (λ i.
          refuses_then _ (form_one (is 33) i) (λ from.
          cond_both (is_whole (word_at doctype s from) || is_whole (word_at cdata s from)) _ _ ByForm (λ t. with twelve) (λ t.
          refuses_then _ (form_word hyphens from) (form_comment (length s)))))

      pub form_around : (fuel at : ℕ) → ByForm (around_at class fuel s at)
      unfolding around_at
      form_around zero at = with nine
      form_around (suc fuel) at =
          let stop = blanks class s at in
          cond_both (opens_at 33 s stop) _ _ ByForm (λ t. refuses_then _ (form_bang stop) (form_around fuel)) (λ t.
          cond_both (opens_at 63 s stop) _ _ ByForm (λ u. with twelve) (λ u. never))

      pub form_free : (fuel at : ℕ) → ByForm (free_at class s fuel at)
      unfolding free_at
      form_free zero at = with nine
      form_free (suc fuel) at =
          refuses_then _ (form_text (length s) at) (λ stop.
          cond_both (has (is 33) s (stop + 1)) _ _ ByForm (λ t. refuses_then _ (form_bang stop) (form_free fuel)) (λ t.
          cond_both (has (is 63) s (stop + 1)) _ _ ByForm (λ u. with twelve) (λ u. never)))
