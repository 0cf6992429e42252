-- What is read whole ends past where it began and within the message, so the loops of the code end, and the fuel of the readers of specs/
-- is enough. Assumes nothing.
use Prim.Native.Nat.{ℕ, zero, suc, ◌+◌, ◌-◌, ◌*◌, ◌<◌, ◌≤◌}
use mathlib.Core.Path.{◌≡◌, refl, sym, ◌∙◌, subst}
use mathlib.Core.Bool.{Bool, true, ◌&&◌}
use mathlib.Core.List.{List, [], ◌∷◌}
use native.Mathlib.Omega.{arith}
use lib.ListN.{length}
use lib.Dec.{leb}
use Rattle.std.proofs.lemmas.Bool.{cond_both}
use Rattle.message.specs.Class.{between, is_text}
use Rattle.message.specs.Reading.{Reading, ◌>>=◌, is, byte_at, has, one, word_at}
use Rattle.message.specs.Reading.Reading.{whole, refused}
use Rattle.message.specs.Characters.{Character, later, second_of_three, third_of_three, second_of_four, joined, two_at, three_at, last_two_at, four_at, long_at, is_digit, digit_of, digits_at, closes, numbered_at, stands_at, predefined_at, reference_at}
use Rattle.message.specs.Text.{special_at, bracket_at, beyond_plain_in_at, beyond_plain_at, beyond_note_at}
use Rattle.message.proofs.Laws.{stopped, cond_false, has_lt, has_out, one_no}

-- what holds of all that the reading may have read
abbrev pub Every : {A : Type 0} → (A → Type 0) → Reading A → Type 0
Every P (whole x) = P x
Every P (refused number place) = Unit {0}

pub every_then : {A B : Type 0} (P : A → Type 0) (Q : B → Type 0) (next : A → Reading B) (a : Reading A) → Every P a
    → ((x : A) → P x → Every Q (next x)) → Every Q (a >>= next)
every_then P Q next (whole x) h g = g x h
every_then P Q next (refused number place) h g = tt

-- whatever the first has read
pub every_on : {A B : Type 0} (Q : B → Type 0) (next : A → Reading B) (a : Reading A) → ((x : A) → a ≡ whole x → Every Q (next x))
    → Every Q (a >>= next)
every_on Q next (whole x) g = g x refl
every_on Q next (refused number place) g = tt

-- what follows from it
pub every_so : {A : Type 0} (P Q : A → Type 0) → ((x : A) → P x → Q x) → (a : Reading A) → Every P a → Every Q a
every_so P Q f (whole x) h = f x h
every_so P Q f (refused number place) h = tt

-- where the reading is whole, what was read ends past the place k, and not past n, the length of the message
abbrev pub Past : {A : Type 0} → (A → ℕ) → ℕ → ℕ → Reading A → Type 0
Past end n k = Every (λ x. (k < end x) × (end x ≤ n))

-- the same of a place, and of a character
abbrev pub PastPlace : ℕ → ℕ → Reading ℕ → Type 0
PastPlace = Past (λ e. e)

abbrev pub PastCharacter : ℕ → ℕ → Reading Character → Type 0
PastCharacter = Past (λ c. c.end)

module _ {A B : Type 0} (end : A → ℕ) (end' : B → ℕ) (n k : ℕ) where
  pub past_then : (next : A → Reading B) (a : Reading A) → Past end n k a → ((x : A) → k < end x → end x ≤ n → Past end' n k (next x))
      → Past end' n k (a >>= next)
  past_then next a h g = every_then (λ x. (k < end x) × (end x ≤ n)) (λ y. (k < end' y) × (end' y ≤ n)) next a h (λ x p. g x p.0 p.1)

-- what is known of a reading that was whole
pub past_whole : {A : Type 0} (end : A → ℕ) (n k : ℕ) {a : Reading A} {x : A} → a ≡ whole x → Past end n k a → (k < end x) × (end x ≤ n)
past_whole end n k q h = subst (Past end n k) q h

module _ (s : List ℕ) (k : ℕ) where
  pub past_one : (test : ℕ → Bool) (at : ℕ) → k ≤ at → PastPlace (length s) k (one test s at)
  unfolding one
  past_one test at h = cond_both (has test s at) _ _ (PastPlace (length s) k) (λ t. omega (arith, has_lt test s at t)) (λ t. tt)

  pub past_word : (word : List ℕ) (at : ℕ) → k < at → at ≤ length s → PastPlace (length s) k (word_at word s at)
  unfolding word_at
  past_word [] at h l = (h, l)
  past_word (x ∷ word) at h l =
      past_then (λ e. e) (λ e. e) (length s) k _ (one (is x) s at) (past_one (is x) at (omega arith)) (λ i p q. past_word word i p q)

  abbrev place_then : {B : Type 0} (end : B → ℕ) (next : ℕ → Reading B) (a : Reading ℕ) → PastPlace (length s) k a
      → ((e : ℕ) → k < e → e ≤ length s → Past end (length s) k (next e)) → Past end (length s) k (a >>= next)
  place_then end = past_then (λ e. e) end (length s) k

  -- ---- characters of more than one byte

  past_two : (at : ℕ) → k ≤ at → PastCharacter (length s) k (two_at s at)
  unfolding two_at
  past_two at h = place_then (λ c. c.end) _ (one later s (at + 1)) (past_one later (at + 1) (omega arith)) (λ e p q. (p, q))

  past_three : (at : ℕ) → k ≤ at → PastCharacter (length s) k (three_at s at)
  unfolding three_at
  past_three at h =
      place_then (λ c. c.end) _ (one (second_of_three (byte_at s at)) s (at + 1))
      (past_one (second_of_three (byte_at s at)) (at + 1) (omega arith)) (λ i p q.
      place_then (λ c. c.end) _ (one (third_of_three (byte_at s at) (byte_at s (at + 1))) s i)
      (past_one (third_of_three (byte_at s at) (byte_at s (at + 1))) i (omega arith)) (λ e p' q'. (p', q')))

  past_last_two : (begun at : ℕ) → k ≤ at → PastCharacter (length s) k (last_two_at begun s at)
  unfolding last_two_at
  past_last_two begun at h =
      place_then (λ c. c.end) _ (one later s at) (past_one later at h) (λ i p q.
      place_then (λ c. c.end) _ (one later s i) (past_one later i (omega arith)) (λ e p' q'. (p', q')))

  past_four : (at : ℕ) → k ≤ at → PastCharacter (length s) k (four_at s at)
  unfolding four_at
  past_four at h =
      place_then (λ c. c.end) _ (one (between 240 244) s at) (past_one (between 240 244) at h) (λ i p q.
      place_then (λ c. c.end) _ (one (second_of_four (byte_at s at)) s i) (past_one (second_of_four (byte_at s at)) i (omega arith)) (λ j p' q'.
      past_last_two (joined (byte_at s at - 240) (byte_at s i)) j (omega arith)))

  pub past_long : (at : ℕ) → k ≤ at → PastCharacter (length s) k (long_at s at)
  unfolding long_at
  past_long at h =
      cond_both (has (between 194 223) s at) _ _ (PastCharacter (length s) k) (λ t. past_two at h) (λ t.
      cond_both (has (between 224 239) s at) _ _ (PastCharacter (length s) k) (λ t. past_three at h) (λ t. past_four at h))

  -- ---- references

  after_digits : (fuel base number at : ℕ) → k < at → Every (λ c. k < c.end) (digits_at fuel base number s at)
  unfolding digits_at
  after_digits zero base number at h = tt
  after_digits (suc fuel) base number at h =
      let more = number * base + digit_of (byte_at s at) in
      cond_both (has (is_digit base) s at) _ _ (Every (λ c. k < c.end)) (λ t.
      cond_both (leb more 1114111) _ _ (Every (λ c. k < c.end)) (λ u. after_digits fuel base more (at + 1) (omega arith)) (λ u. tt)) (λ t. h)

  past_numbered : (base at : ℕ) → k < at → PastCharacter (length s) k (numbered_at base s at)
  unfolding numbered_at
  past_numbered base at h =
      place_then (λ c. c.end) _ (one (is_digit base) s at) (past_one (is_digit base) at (omega arith)) (λ i p q.
      every_then (λ c. k < c.end) (λ c. (k < c.end) × (c.end ≤ length s)) _ (digits_at (suc (length s)) base 0 s at)
      (after_digits (suc (length s)) base 0 at h) (λ number l.
      place_then (λ c. c.end) _ (one (closes number.code) s number.end)
      (past_one (closes number.code) number.end (omega arith)) (λ e p' q'. (p', q'))))

  past_stands : (word : List ℕ) (code at : ℕ) → k < at → at ≤ length s → PastCharacter (length s) k (stands_at word code s at)
  unfolding stands_at
  past_stands word code at h l = place_then (λ c. c.end) _ (word_at word s at) (past_word word at h l) (λ e p q. (p, q))

  past_predefined : (at : ℕ) → k < at → PastCharacter (length s) k (predefined_at s at)
  unfolding predefined_at
  past_predefined at h =
      cond_both (has (is 108) s at) _ _ (PastCharacter (length s) k)
      (λ t. past_stands (108 ∷ 116 ∷ 59 ∷ []) 60 at h (omega (arith, has_lt (is 108) s at t))) (λ t.
      cond_both (has (is 103) s at) _ _ (PastCharacter (length s) k)
      (λ u. past_stands (103 ∷ 116 ∷ 59 ∷ []) 62 at h (omega (arith, has_lt (is 103) s at u))) (λ u.
      cond_both (has (is 113) s at) _ _ (PastCharacter (length s) k)
      (λ v. past_stands (113 ∷ 117 ∷ 111 ∷ 116 ∷ 59 ∷ []) 34 at h (omega (arith, has_lt (is 113) s at v))) (λ v.
      place_then (λ c. c.end) _ (one (is 97) s at) (past_one (is 97) at (omega arith)) (λ i p q.
      cond_both (has (is 109) s i) _ _ (PastCharacter (length s) k) (λ w. past_stands (109 ∷ 112 ∷ 59 ∷ []) 38 i p q)
      (λ w. past_stands (112 ∷ 111 ∷ 115 ∷ 59 ∷ []) 39 i p q)))))

  pub past_reference : (at : ℕ) → k ≤ at → PastCharacter (length s) k (reference_at s at)
  unfolding reference_at
  past_reference at h =
      place_then (λ c. c.end) _ (one (is 38) s at) (past_one (is 38) at h) (λ i p q.
      cond_both (has (is 35) s i) _ _ (PastCharacter (length s) k) (λ t.
      cond_both (has (is 120) s (i + 1)) _ _ (PastCharacter (length s) k) (λ u. past_numbered 16 (i + 2) (omega arith))
      (λ u. past_numbered 10 (i + 1) (omega arith))) (λ t.
      past_predefined i p))

  -- ---- what stands between plain bytes of text, of a value, of a comment

  pub past_special : (at : ℕ) → k ≤ at → PastCharacter (length s) k (special_at s at)
  unfolding special_at
  past_special at h = cond_both (has (is 38) s at) _ _ (PastCharacter (length s) k) (λ t. past_reference at h) (λ t. past_long at h)

  past_bracket : (at : ℕ) → k ≤ at → has (is 93) s at ≡ true → PastPlace (length s) k (bracket_at s at)
  unfolding bracket_at
  past_bracket at h t =
      cond_both (has (is 93) s (at + 1) && has (is 62) s (at + 2)) _ _ (PastPlace (length s) k) (λ u. tt)
      (λ u. omega (arith, has_lt (is 93) s at t))

  pub past_beyond_plain_in : (class : ℕ → ℕ) (at : ℕ) → k ≤ at → PastPlace (length s) k (beyond_plain_in_at class s at)
  unfolding beyond_plain_in_at
  past_beyond_plain_in class at h =
      cond_both (has (is_text class) s at) _ _ (PastPlace (length s) k) (λ t. omega (arith, has_lt (is_text class) s at t)) (λ t.
      past_then (λ c. c.end) (λ e. e) (length s) k _ (special_at s at) (past_special at h) (λ c p q. (p, q)))

  pub past_beyond_plain : (class : ℕ → ℕ) (at : ℕ) → k ≤ at → PastPlace (length s) k (beyond_plain_at class s at)
  unfolding beyond_plain_at
  past_beyond_plain class at h =
      cond_both (has (is 93) s at) _ _ (PastPlace (length s) k) (λ t. past_bracket at h t) (λ t. past_beyond_plain_in class at h)

  pub past_beyond_note : (at : ℕ) → k ≤ at → PastPlace (length s) k (beyond_note_at s at)
  unfolding beyond_note_at
  past_beyond_note at h =
      cond_both (has (is 45) s at) _ _ (PastPlace (length s) k) (λ t. omega (arith, has_lt (is 45) s at t)) (λ t.
      past_then (λ c. c.end) (λ e. e) (length s) k _ (long_at s at) (past_long at h) (λ c p q. (p, q)))

-- ---- what is known of a reading that was whole

module _ (s : List ℕ) (at : ℕ) where
  pub beyond_plain_in_on : (class : ℕ → ℕ) (e : ℕ) → beyond_plain_in_at class s at ≡ whole e → (at < e) × (e ≤ length s)
  beyond_plain_in_on class e q = past_whole (λ e. e) (length s) at q (past_beyond_plain_in s at class at (omega arith))

  pub beyond_plain_on : (class : ℕ → ℕ) (e : ℕ) → beyond_plain_at class s at ≡ whole e → (at < e) × (e ≤ length s)
  beyond_plain_on class e q = past_whole (λ e. e) (length s) at q (past_beyond_plain s at class at (omega arith))

  pub beyond_note_on : (e : ℕ) → beyond_note_at s at ≡ whole e → (at < e) × (e ≤ length s)
  beyond_note_on e q = past_whole (λ e. e) (length s) at q (past_beyond_note s at at (omega arith))

-- ---- At the end of the message nothing is read.

module _ (s : List ℕ) (at : ℕ) (end : length s ≤ at) where
  pub long_out : refused 9 at ≡ long_at s at
  unfolding long_at four_at
  long_out =
      stopped _ (one_no (between 240 244) s at (has_out (between 240 244) s at end))
      ∙ cond_false _ (has_out (between 224 239) s at end)
      ∙ cond_false _ (has_out (between 194 223) s at end)

  pub beyond_note_out : refused 9 at ≡ beyond_note_at s at
  unfolding beyond_note_at
  beyond_note_out = stopped _ (sym long_out) ∙ cond_false _ (has_out (is 45) s at end)

  pub special_out : refused 9 at ≡ special_at s at
  unfolding special_at
  special_out = long_out ∙ cond_false _ (has_out (is 38) s at end)

  pub beyond_plain_in_out : (class : ℕ → ℕ) → refused 9 at ≡ beyond_plain_in_at class s at
  unfolding beyond_plain_in_at
  beyond_plain_in_out class = stopped _ (sym special_out) ∙ cond_false _ (has_out (is_text class) s at end)

  pub beyond_plain_out : (class : ℕ → ℕ) → refused 9 at ≡ beyond_plain_at class s at
  unfolding beyond_plain_at
  beyond_plain_out class = beyond_plain_in_out class ∙ cond_false _ (has_out (is 93) s at end)
