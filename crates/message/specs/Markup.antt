-- Document 01, "The restricted XML": the declaration, comments where markup may begin, and the openings of refusal 12. Assumes nothing.
use Rattle.std.specs.Prelude.{ℕ, zero, suc, ◌+◌, Bool, cond, ◌&&◌, ◌||◌, List, length}
use Rattle.message.specs.Class.{is_space}
use Rattle.message.specs.Reading.{Reading, ◌>>=◌, is_whole, is, has, one, word_at, blanks, opened_at, closed_at}
use Rattle.message.specs.Reading.Reading.{whole, refused}
use Rattle.message.specs.Text.{comment_at}
use Rattle.message.specs.Words.{char, codes}

-- ---- the words of the declaration and of the openings

abbrev pub xml : List ℕ
xml = codes "<?xml"

abbrev pub version : List ℕ
version = codes "version"

abbrev pub one_dot_zero : List ℕ
one_dot_zero = codes "1.0"

abbrev pub encoding : List ℕ
encoding = codes "encoding"

abbrev pub upper_utf8 : List ℕ
upper_utf8 = codes "UTF-8"

abbrev pub lower_utf8 : List ℕ
lower_utf8 = codes "utf-8"

abbrev pub closing : List ℕ
closing = codes "?>"

abbrev pub doctype : List ℕ
doctype = codes "DOCTYPE"

abbrev pub cdata : List ℕ
cdata = codes "[CDATA["

abbrev pub hyphens : List ℕ
hyphens = codes "--"

-- `<` and the byte b
abbrev pub opens_at : ℕ → List ℕ → ℕ → Bool
opens_at b s at = has (is (char "<")) s at && has (is b) s (at + 1)

-- the encoding's name, in capitals or in small letters
unfoldable pub utf8_at : List ℕ → ℕ → Reading ℕ
utf8_at s at = cond (has (is (char "u")) s at) (word_at lower_utf8 s at) (word_at upper_utf8 s at)

module _ (class : ℕ → ℕ) where
  -- From a `<!` on: a whole `<!DOCTYPE` or `<![CDATA[` is 12 at its `<`; anything else is a comment, or dead at the byte that makes it none.
  unfoldable pub bang_at : List ℕ → ℕ → Reading ℕ
  bang_at s at = do
    i ← one (is (char "<")) s at
    from ← one (is (char "!")) s i
    let comment = word_at hyphens s from >>= comment_at class (length s) s in
        cond (is_whole (word_at doctype s from) || is_whole (word_at cdata s from)) (refused 12 at) comment

  -- White space and comments around the root, up to what is neither; a processing instruction is 12 at its `<`.
  unfoldable pub around_at : ℕ → List ℕ → ℕ → Reading ℕ
  around_at zero s at = refused 9 at
  around_at (suc fuel) s at =
      let stop = blanks class s at in
      let bang = bang_at s stop >>= around_at fuel s in
      cond (opens_at (char "!") s stop) bang (cond (opens_at (char "?") s stop) (refused 12 stop) (whole stop))

  -- ---- the declaration

  -- the message begins with `<?xml` and white space: any other `<?` is 12
  abbrev pub declares : List ℕ → Bool
  declares s = is_whole (word_at xml s 0) && has (is_space class) s 5

  unfoldable pub encoding_at : List ℕ → ℕ → Reading ℕ
  encoding_at s at = do
    space ← one (is_space class) s at
    named ← word_at encoding s (blanks class s at)
    from ← opened_at class s named
    to ← utf8_at s from
    done ← closed_at s from to
    word_at closing s (blanks class s done)

  -- after `<?xml`
  unfoldable pub declaration_at : List ℕ → ℕ → Reading ℕ
  declaration_at s at = do
    named ← word_at version s (blanks class s at)
    from ← opened_at class s named
    to ← word_at one_dot_zero s from
    done ← closed_at s from to
    let more = encoding_at s done in
        cond (has (is (char "?")) s (blanks class s done)) (word_at closing s (blanks class s done)) more
