-- Document 01, "The restricted XML": text between tags, attribute values, comments. Assumes nothing.
use Rattle.std.specs.Prelude.{ℕ, zero, suc, ◌+◌, Bool, cond, ◌&&◌, List}
use Rattle.message.specs.Class.{is_text, is_plain, is_plain_note}
use Rattle.message.specs.Reading.{Reading, ◌>>=◌, is, has, one, ends}
use Rattle.message.specs.Reading.Reading.{whole, refused}
use Rattle.message.specs.Characters.{Character, long_at, reference_at}
use Rattle.message.specs.Words.{char}

-- a reference, or a character of more than one byte
unfoldable pub special_at : List ℕ → ℕ → Reading Character
special_at s at = cond (has (is (char "&")) s at) (reference_at s at) (long_at s at)

-- the place behind a character
abbrev pub behind : Reading Character → Reading ℕ
behind reading = reading >>= (λ c. whole c.end)

-- a `]`, which does not begin `]]>`: that is dead at its `>`
unfoldable pub bracket_at : List ℕ → ℕ → Reading ℕ
bracket_at s at = cond (has (is (char "]")) s (at + 1) && has (is (char ">")) s (at + 2)) (refused 9 (at + 2)) (whole (at + 1))

-- what is no plain text in a value: a byte of text like any other, a reference, or a character of more than one byte
unfoldable pub beyond_plain_in_at : (ℕ → ℕ) → List ℕ → ℕ → Reading ℕ
beyond_plain_in_at class s at = cond (has (is_text class) s at) (whole (at + 1)) (behind (special_at s at))

-- the same between tags, where a `]` must not begin `]]>`
unfoldable pub beyond_plain_at : (ℕ → ℕ) → List ℕ → ℕ → Reading ℕ
beyond_plain_at class s at = cond (has (is (char "]")) s at) (bracket_at s at) (beyond_plain_in_at class s at)

-- what is no plain byte of a comment: a `-` by itself, or a character of more than one byte
unfoldable pub beyond_note_at : List ℕ → ℕ → Reading ℕ
beyond_note_at s at = cond (has (is (char "-")) s at) (whole (at + 1)) (behind (long_at s at))

abbrev pub hyphens_at : List ℕ → ℕ → Bool
hyphens_at s at = has (is (char "-")) s at && has (is (char "-")) s (at + 1)

module _ (class : ℕ → ℕ) where
  -- text up to the next `<`
  unfoldable pub text_at : ℕ → List ℕ → ℕ → Reading ℕ
  text_at zero s at = refused 9 at
  text_at (suc fuel) s at =
      let stop = ends (is_plain class) s at in
      let more = beyond_plain_at class s stop >>= text_at fuel s in
      cond (has (is (char "<")) s stop) (whole stop) more

  -- an attribute's value up to the quotation mark that ends it
  unfoldable pub value_at : ℕ → ℕ → List ℕ → ℕ → Reading ℕ
  value_at zero quote s at = refused 9 at
  value_at (suc fuel) quote s at =
      let stop = ends (is_plain class) s at in
      let more = beyond_plain_in_at class s stop >>= value_at fuel quote s in
      cond (has (is quote) s stop) (whole stop) more

  -- a comment after its `<!--`: the byte after `--` is `>`
  unfoldable pub comment_at : ℕ → List ℕ → ℕ → Reading ℕ
  comment_at zero s at = refused 9 at
  comment_at (suc fuel) s at =
      let stop = ends (is_plain_note class) s at in
      let more = beyond_note_at s stop >>= comment_at fuel s in
      cond (hyphens_at s stop) (one (is (char ">")) s (stop + 2)) more
