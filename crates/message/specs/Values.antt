-- Document 01, "The restricted XML" and "The seven messages": what values mean, references replaced and line ends made one. Assumes nothing.
use Rattle.std.specs.Prelude.{ℕ, zero, suc, ◌+◌, ◌-◌, ◌*◌, Bool, false, cond, ◌&&◌, ◌||◌, List, [], ◌∷◌, ltb, leb, eqb, Option, None, Some}
use Rattle.laws.specs.Bytes.{same_bytes}
use Rattle.message.specs.Class.{between, is_text}
use Rattle.message.specs.Reading.{Reading, ◌>>=◌, is, byte_at, has}
use Rattle.message.specs.Reading.Reading.{whole, refused}
use Rattle.message.specs.Characters.{Character}
use Rattle.message.specs.Text.{special_at}
use Rattle.message.specs.Markup.{bang_at}
use Rattle.message.specs.Words.{char, ok_status, redundant_status, unreadable_message}
use Rattle.message.specs.declared.Status.{Status}
use Rattle.message.specs.declared.Status.TheVariants as statuses
use Rattle.message.specs.declared.Advice.{Advice}
use Rattle.message.specs.declared.Advice.TheVariants as advices

-- ---- the characters of a value

-- behind a line end that begins at the place: CR LF is one
abbrev pub line_end : List ℕ → ℕ → ℕ
line_end s at = cond (has (is 13) s at && has (is 10) s (at + 1)) (at + 2) (at + 1)

-- literal tab, line feed and carriage return, which an attribute's value reads as a space
abbrev pub is_break : ℕ → Bool
is_break x = eqb x 9 || (eqb x 10 || eqb x 13)

module _ (class : ℕ → ℕ) (s : List ℕ) where
  -- a character as it stands or as a reference names it
  unfoldable pub letter_at : ℕ → Reading Character
  letter_at at = cond (has (is_text class) s at) (whole (record { end = at + 1; code = byte_at s at })) (special_at s at)

  unfoldable pub attribute_letter_at : ℕ → Reading Character
  attribute_letter_at at = cond (has is_break s at) (whole (record { end = line_end s at; code = 32 })) (letter_at at)

  unfoldable pub text_letter_at : ℕ → Reading Character
  text_letter_at at = cond (has (is 13) s at) (whole (record { end = line_end s at; code = 10 })) (letter_at at)

  -- what a value from `at` up to `to` means, letter by letter
  unfoldable pub attribute_meaning : ℕ → ℕ → ℕ → Reading (List ℕ)
  attribute_meaning zero to at = refused 9 at
  attribute_meaning (suc fuel) to at =
      let others = attribute_letter_at at >>= (λ c. attribute_meaning fuel to c.end >>= (λ codes. whole (c.code ∷ codes))) in
      cond (ltb at to) others (whole [])

  -- the same of an element's content that holds no element: comments mean nothing
  unfoldable pub content_meaning : ℕ → ℕ → ℕ → Reading (List ℕ)
  content_meaning zero to at = refused 9 at
  content_meaning (suc fuel) to at =
      let others = text_letter_at at >>= (λ c. content_meaning fuel to c.end >>= (λ codes. whole (c.code ∷ codes))) in
      let behind = bang_at class s at >>= content_meaning fuel to in
      cond (ltb at to) (cond (has (is (char "<")) s at) behind others) (whole [])

-- ---- what they name

abbrev pub means : List ℕ → Reading (List ℕ) → Bool
means word (whole codes) = same_bytes codes word
means word (refused number place) = false

-- the digits after those that make the number n: it stays below 2^32
unfoldable pub decimal_from : ℕ → List ℕ → Option ℕ
decimal_from n [] = Some n
decimal_from n (d ∷ digits) =
    cond (between (char "0") (char "9") d && leb (n * 10 + (d - char "0")) 4294967295) (decimal_from (n * 10 + (d - char "0")) digits) None

abbrev pub number_from : ℕ → Reading (List ℕ) → Option ℕ
number_from n (whole codes) = decimal_from n codes
number_from n (refused number place) = None

-- without leading zeros: a zero stands alone
abbrev pub leading_zero : List ℕ → Bool
leading_zero [] = false
leading_zero (d ∷ []) = false
leading_zero (d ∷ e ∷ digits) = eqb d (char "0")

unfoldable pub decimal_of : List ℕ → Option ℕ
decimal_of [] = None
decimal_of (d ∷ digits) = cond (leading_zero (d ∷ digits)) None (decimal_from 0 (d ∷ digits))

abbrev pub number_of : Reading (List ℕ) → Option ℕ
number_of (whole codes) = decimal_of codes
number_of (refused number place) = None

abbrev pub status_of : Reading (List ℕ) → Status
status_of meaning = cond (means ok_status meaning) statuses.Ok (cond (means redundant_status meaning) statuses.RedundantSession statuses.Other)

abbrev pub advice_of : Reading (List ℕ) → Advice
advice_of meaning = cond (means unreadable_message meaning) advices.UnreadableMessage advices.Other

-- ---- the numbers of the meanings, as include/ali_link.h has them

abbrev pub number_flag : Option ℕ → ℕ
number_flag None = 0
number_flag (Some n) = 1

abbrev pub number_named : Option ℕ → ℕ
number_named None = 0
number_named (Some n) = n

abbrev pub status_number : Status → ℕ
status_number statuses.Ok = 1
status_number statuses.RedundantSession = 2
status_number statuses.Other = 0

abbrev pub advice_number : Advice → ℕ
advice_number advices.UnreadableMessage = 1
advice_number advices.Other = 0
