-- Promise 8, bytes and characters: which of the 256 begin a name, stand in one, are white space, and are text by themselves, written out; and the characters of
-- more than one byte. (proofs/Alphabet, proofs/Utf8) Assumes nothing.
use Rattle.std.specs.Prelude.{ℕ, zero, suc, ◌+◌, ◌*◌, ◌≤◌, ◌<◌, ◌≡◌, Bool, true, cond, List, [], ◌∷◌, ◌++◌, length}
use Rattle.message.specs.Class.{class_of, is_start, is_name, is_space, is_text}
use Rattle.message.specs.Reading.Reading.{whole}
use Rattle.message.specs.Characters.{Character, legal, long_at}
use Rattle.message.specs.Words.{codes}
use Rattle.message.specs.Readable.{Spelled}

-- of n bytes from b on those that pass the test
abbrev pub passing : (ℕ → Bool) → ℕ → ℕ → List ℕ
passing test b zero = []
passing test b (suc n) = cond (test b) (b ∷ passing test (suc b) n) (passing test (suc b) n)

abbrev pub bytes_of : (ℕ → Bool) → List ℕ
bytes_of test = passing test 0 256

-- A part of a name begins with a letter or an underscore.
abbrev pub NamesBegin : Type 0
NamesBegin = bytes_of (is_start class_of) ≡ codes "ABCDEFGHIJKLMNOPQRSTUVWXYZ_abcdefghijklmnopqrstuvwxyz"

-- Then letters, digits, underscore, hyphen, dot.
abbrev pub NamesGoOn : Type 0
NamesGoOn = bytes_of (is_name class_of) ≡ codes "-.0123456789ABCDEFGHIJKLMNOPQRSTUVWXYZ_abcdefghijklmnopqrstuvwxyz"

-- Tab, line feed, carriage return, space.
abbrev pub SpacesAre : Type 0
SpacesAre = bytes_of (is_space class_of) ≡ 9 ∷ 10 ∷ 13 ∷ 32 ∷ []

-- Of ASCII all that is no control byte is text, but for `&` and `<`; U+007F is.
abbrev pub TextIs : Type 0
TextIs = bytes_of (is_text class_of) ≡ 9 ∷ 10 ∷ 13 ∷ (codes " !\"#$%'()*+,-./0123456789:;=>?@ABCDEFGHIJKLMNOPQRSTUVWXYZ[\\]^_`abcdefghijklmnopqrstuvwxyz{|}~" ++ (127 ∷ []))

-- ---- characters of more than one byte

-- The bytes that UTF-8 gives a number, the shortest that can hold it.
pub data Utf8 : ℕ → List ℕ → Type 0 where
  two : (a b : ℕ) → a < 32 → b < 64 → 128 ≤ a * 64 + b → Utf8 (a * 64 + b) ((192 + a) ∷ (128 + b) ∷ [])
  three : (a b c : ℕ) → a < 16 → b < 64 → c < 64 → 2048 ≤ (a * 64 + b) * 64 + c → Utf8 ((a * 64 + b) * 64 + c) ((224 + a) ∷ (128 + b) ∷ (128 + c) ∷ [])
  four : (a b c d : ℕ) → a < 8 → b < 64 → c < 64 → d < 64 → 65536 ≤ ((a * 64 + b) * 64 + c) * 64 + d
      → Utf8 (((a * 64 + b) * 64 + c) * 64 + d) ((240 + a) ∷ (128 + b) ∷ (128 + c) ∷ (128 + d) ∷ [])

-- What is read as one character is a legal one with its bytes, and every legal one is read.
pub record CharacterExactly (s : List ℕ) (at : ℕ) : Type 0 where
  pub read : (c : Character) → long_at s at ≡ whole c
      → (word : List ℕ) × Utf8 c.code word × (legal c.code ≡ true) × Spelled word s at × (c.end ≡ at + length word)
  pub reads : (n : ℕ) (word : List ℕ) → Utf8 n word → legal n ≡ true → Spelled word s at → long_at s at ≡ whole (record { end = at + length word; code = n })

abbrev pub CharactersAre : Type 0
CharactersAre = (s : List ℕ) (at : ℕ) → CharacterExactly s at
