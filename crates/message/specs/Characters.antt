-- Document 01, "The restricted XML": the legal characters of XML 1.0, in UTF-8 to the byte and as references. Assumes nothing.
use Rattle.std.specs.Prelude.{ℕ, zero, suc, ◌+◌, ◌-◌, ◌*◌, Bool, cond, ◌&&◌, ◌||◌, List, length, ltb, leb, eqb}
use Rattle.message.specs.Class.{between}
use Rattle.message.specs.Reading.{Reading, ◌>>=◌, is, byte_at, has, one, word_at}
use Rattle.message.specs.Reading.Reading.{whole, refused}
use Rattle.message.specs.Words.{char, codes}

-- a character that has been read: where it ends, and its number
pub record Character : Type 0 where
  pub end : ℕ
  pub code : ℕ

abbrev pub legal : ℕ → Bool
legal c = eqb c 9 || (eqb c 10 || (eqb c 13 || (between 32 55295 c || (between 57344 65533 c || between 65536 1114111 c))))

-- ---- UTF-8: the characters of two, three and four bytes. Each byte's range leaves a legal character possible.

abbrev pub later : ℕ → Bool
later = between 128 191

-- after E0 nothing that fits two bytes, after ED no surrogate
abbrev pub second_of_three : ℕ → ℕ → Bool
second_of_three lead = between (cond (eqb lead 224) 160 128) (cond (eqb lead 237) 159 191)

-- after EF BF neither U+FFFE nor U+FFFF
abbrev pub third_of_three : ℕ → ℕ → ℕ → Bool
third_of_three lead second = between 128 (cond (eqb lead 239 && eqb second 191) 189 191)

-- after F0 nothing that fits three bytes, after F4 nothing above U+10FFFF
abbrev pub second_of_four : ℕ → ℕ → Bool
second_of_four lead = between (cond (eqb lead 240) 144 128) (cond (eqb lead 244) 143 191)

-- the number so far, and six bits more
abbrev pub joined : ℕ → ℕ → ℕ
joined high x = high * 64 + (x - 128)

unfoldable pub two_at : List ℕ → ℕ → Reading Character
two_at s at = do
  e ← one later s (at + 1)
  whole (record { end = e; code = joined (byte_at s at - 192) (byte_at s (at + 1)) })

unfoldable pub three_at : List ℕ → ℕ → Reading Character
three_at s at = do
  i ← one (second_of_three (byte_at s at)) s (at + 1)
  e ← one (third_of_three (byte_at s at) (byte_at s (at + 1))) s i
  whole (record { end = e; code = joined (joined (byte_at s at - 224) (byte_at s (at + 1))) (byte_at s i) })

-- the last two of four, after others that make the number n
unfoldable pub last_two_at : ℕ → List ℕ → ℕ → Reading Character
last_two_at n s at = do
  k ← one later s at
  e ← one later s k
  whole (record { end = e; code = joined (joined n (byte_at s at)) (byte_at s k) })

unfoldable pub four_at : List ℕ → ℕ → Reading Character
four_at s at = do
  i ← one (between 240 244) s at
  j ← one (second_of_four (byte_at s at)) s i
  last_two_at (joined (byte_at s at - 240) (byte_at s i)) s j

-- a character of more than one byte
unfoldable pub long_at : List ℕ → ℕ → Reading Character
long_at s at =
    cond (has (between 194 223) s at) (two_at s at)
    (cond (has (between 224 239) s at) (three_at s at) (four_at s at))

-- ---- references

abbrev pub hex_digit : ℕ → Bool
hex_digit x = between (char "0") (char "9") x || (between (char "A") (char "F") x || between (char "a") (char "f") x)

abbrev pub digit_of : ℕ → ℕ
digit_of x = cond (leb x 57) (x - 48) (cond (leb x 70) (x - 55) (x - 87))

abbrev pub is_digit : ℕ → ℕ → Bool
is_digit base x = hex_digit x && ltb (digit_of x) base

-- the digits from the place on, after others that make the number n: a digit that passes the last character of all is dead
unfoldable pub digits_at : ℕ → ℕ → ℕ → List ℕ → ℕ → Reading Character
digits_at zero base n s at = refused 9 at
digits_at (suc fuel) base n s at =
    let more = digits_at fuel base (n * base + digit_of (byte_at s at)) s (at + 1) in
    cond (has (is_digit base) s at)
    (cond (leb (n * base + digit_of (byte_at s at)) 1114111) more (refused 9 at))
    (whole (record { end = at; code = n }))

-- `;` behind the number of a legal character
abbrev pub closes : ℕ → ℕ → Bool
closes code x = eqb x (char ";") && legal code

-- after `&#` or `&#x`: at least one digit
unfoldable pub numbered_at : ℕ → List ℕ → ℕ → Reading Character
numbered_at base s at = do
  i ← one (is_digit base) s at
  number ← digits_at (suc (length s)) base 0 s at
  e ← one (closes number.code) s number.end
  whole (record { end = e; code = number.code })

-- the rest of a predefined name, and the character that it stands for
unfoldable pub stands_at : List ℕ → ℕ → List ℕ → ℕ → Reading Character
stands_at word c s at = do
  e ← word_at word s at
  whole (record { end = e; code = c })

-- after `&`: `lt;`, `gt;`, `quot;`, `amp;` or `apos;`
unfoldable pub predefined_at : List ℕ → ℕ → Reading Character
predefined_at s at =
    let amp = stands_at (codes "mp;") (char "&") s in
    let apos = stands_at (codes "pos;") (char "'") s in
    let amp-or-apos = one (is (char "a")) s at >>= (λ i. cond (has (is (char "m")) s i) (amp i) (apos i)) in
    cond (has (is (char "l")) s at) (stands_at (codes "lt;") (char "<") s at)
    (cond (has (is (char "g")) s at) (stands_at (codes "gt;") (char ">") s at)
    (cond (has (is (char "q")) s at) (stands_at (codes "quot;") (char "\"") s at) amp-or-apos))

-- from the `&` on
unfoldable pub reference_at : List ℕ → ℕ → Reading Character
reference_at s at = do
  i ← one (is (char "&")) s at
  cond (has (is (char "#")) s i)
      (cond (has (is (char "x")) s (i + 1)) (numbered_at 16 s (i + 2)) (numbered_at 10 s (i + 1)))
      (predefined_at s i)
