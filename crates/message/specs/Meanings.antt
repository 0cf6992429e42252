-- Promise 6, meanings: which texts name a number, a status and a type, and what comments and elements in them do.
-- (proofs/Meanings, proofs/References, proofs/ReferencesRead, proofs/BeyondAscii) Assumes nothing.
use Rattle.std.specs.Prelude.{ℕ, ◌+◌, ◌*◌, ◌<◌, ◌≤◌, ◌≡◌, true, false, List, [], ◌∷◌, ◌++◌, length, Some}
use Rattle.message.specs.Class.{class_of, is_text}
use Rattle.message.specs.Reading.{is, byte_at, has}
use Rattle.message.specs.Reading.Reading.{whole}
use Rattle.message.specs.Characters.{Character, legal}
use Rattle.message.specs.Text.{special_at}
use Rattle.message.specs.Markup.{bang_at}
use Rattle.message.specs.Readable.{Spelled}
use Rattle.message.specs.Elements.{Elements}
use Rattle.message.specs.Elements.Elements.{none}
use Rattle.message.specs.Messages.Found.{found}
use Rattle.message.specs.Messages.{number_value, status_value, type_advice}
use Rattle.message.specs.Words.{char, codes, ok_status, redundant_status, unreadable_message}
use Rattle.message.specs.declared.Status.TheVariants as statuses
use Rattle.message.specs.declared.Advice.TheVariants as advices

-- ---- texts, character by character

module _ (s : List ℕ) where
  -- a tab, a line feed, or a carriage return with no line feed behind it
  pub data Break (at : ℕ) : Type 0 where
    tab : has (is 9) s at ≡ true → Break at
    feed : has (is 10) s at ≡ true → Break at
    return : has (is 13) s at ≡ true → has (is 10) s (at + 1) ≡ false → Break at

  -- none of them
  pub record NoBreak (at : ℕ) : Type 0 where
    pub no_tab : has (is 9) s at ≡ false
    pub no_feed : has (is 10) s at ≡ false
    pub no_return : has (is 13) s at ≡ false

  -- what stands in an attribute's value from one place up to another: literal tab, line feed and carriage return are a space, CR LF one, and a
  -- reference is the character that it names
  pub data ValueSays (to : ℕ) : ℕ → List ℕ → Type 0 where
    done : {at : ℕ} → to ≤ at → ValueSays to at []
    pair : {at : ℕ} {text : List ℕ} → at < to → has (is 13) s at ≡ true → has (is 10) s (at + 1) ≡ true → ValueSays to (at + 2) text
        → ValueSays to at (32 ∷ text)
    space : {at : ℕ} {text : List ℕ} → at < to → Break at → ValueSays to (at + 1) text → ValueSays to at (32 ∷ text)
    byte : {at : ℕ} {text : List ℕ} → at < to → NoBreak at → has (is_text class_of) s at ≡ true → ValueSays to (at + 1) text
        → ValueSays to at (byte_at s at ∷ text)
    special : {at : ℕ} {text : List ℕ} (c : Character) → at < to → NoBreak at → has (is_text class_of) s at ≡ false → special_at s at ≡ whole c
        → ValueSays to c.end text → ValueSays to at (c.code ∷ text)

  -- the same between tags: CR LF and a lone CR are a line feed, and comments mean nothing
  pub data ContentSays (to : ℕ) : ℕ → List ℕ → Type 0 where
    done : {at : ℕ} → to ≤ at → ContentSays to at []
    comment : {at e : ℕ} {text : List ℕ} → at < to → has (is (char "<")) s at ≡ true → bang_at class_of s at ≡ whole e → ContentSays to e text → ContentSays to at text
    pair : {at : ℕ} {text : List ℕ} → at < to → has (is 13) s at ≡ true → has (is 10) s (at + 1) ≡ true → ContentSays to (at + 2) text
        → ContentSays to at (10 ∷ text)
    line : {at : ℕ} {text : List ℕ} → at < to → has (is 13) s at ≡ true → has (is 10) s (at + 1) ≡ false → ContentSays to (at + 1) text
        → ContentSays to at (10 ∷ text)
    byte : {at : ℕ} {text : List ℕ} → at < to → has (is (char "<")) s at ≡ false → has (is 13) s at ≡ false → has (is_text class_of) s at ≡ true
        → ContentSays to (at + 1) text → ContentSays to at (byte_at s at ∷ text)
    special : {at : ℕ} {text : List ℕ} (c : Character) → at < to → has (is (char "<")) s at ≡ false → has (is 13) s at ≡ false → has (is_text class_of) s at ≡ false
        → special_at s at ≡ whole c → ContentSays to c.end text → ContentSays to at (c.code ∷ text)

-- ---- the characters that references name

-- a digit of a base, and what it counts for
pub data Digit (base : ℕ) : ℕ → ℕ → Type 0 where
  figure : (d : ℕ) → d < 10 → d < base → Digit base (48 + d) d
  capital : (d : ℕ) → 10 ≤ d → d < base → Digit base (55 + d) d
  small : (d : ℕ) → 10 ≤ d → d < base → Digit base (87 + d) d

-- a number in a base, perhaps with leading zeros
pub data Digits (base : ℕ) : ℕ → List ℕ → Type 0 where
  first : (x d : ℕ) → Digit base x d → Digits base d (x ∷ [])
  further : {n : ℕ} {word : List ℕ} (x d : ℕ) → Digit base x d → Digits base n word → Digits base (n * base + d) (word ++ (x ∷ []))

-- a reference that stands at the place: where it ends, and the character that it names
pub data Reference (s : List ℕ) (at : ℕ) : Character → Type 0 where
  less : Spelled (codes "&lt;") s at → Reference s at (record { end = at + 4; code = 60 })
  greater : Spelled (codes "&gt;") s at → Reference s at (record { end = at + 4; code = 62 })
  ampersand : Spelled (codes "&amp;") s at → Reference s at (record { end = at + 5; code = 38 })
  apostrophe : Spelled (codes "&apos;") s at → Reference s at (record { end = at + 6; code = 39 })
  quotation : Spelled (codes "&quot;") s at → Reference s at (record { end = at + 6; code = 34 })
  decimal : (n : ℕ) (word : List ℕ) → Digits 10 n word → legal n ≡ true → Spelled (codes "&#" ++ (word ++ codes ";")) s at
      → Reference s at (record { end = at + (3 + length word); code = n })
  hexadecimal : (n : ℕ) (word : List ℕ) → Digits 16 n word → legal n ≡ true → Spelled (codes "&#x" ++ (word ++ codes ";")) s at
      → Reference s at (record { end = at + (4 + length word); code = n })

-- What is read behind an `&` is one of these, and each of them is read.
pub record ReferenceExactly (s : List ℕ) (at : ℕ) (c : Character) : Type 0 where
  pub read : has (is (char "&")) s at ≡ true → special_at s at ≡ whole c → Reference s at c
  pub reads : Reference s at c → special_at s at ≡ whole c

abbrev pub ReferencesMean : Type 0
ReferencesMean = (s : List ℕ) (at : ℕ) (c : Character) → ReferenceExactly s at c

-- A character of more than one byte is none of ASCII, so it is part of no number and of no URI.
abbrev pub OthersBeyondAscii : Type 0
OthersBeyondAscii = (s : List ℕ) (at : ℕ) (c : Character) → has (is (char "&")) s at ≡ false → special_at s at ≡ whole c → 128 ≤ c.code

-- ---- numbers

-- a number in decimal without leading zeros
pub data Decimal : ℕ → List ℕ → Type 0 where
  digit : (d : ℕ) → d < 10 → Decimal d ((48 + d) ∷ [])
  further : {n : ℕ} {text : List ℕ} (d : ℕ) → 0 < n → d < 10 → Decimal n text → Decimal (n * 10 + d) (text ++ ((48 + d) ∷ []))

-- ---- what they mean

-- A value names n exactly if its text is n in decimal, below 2^32.
pub record NamesExactly (s : List ℕ) (from to n : ℕ) : Type 0 where
  pub names : (number_value class_of s (found from to)).meaning ≡ Some n → (text : List ℕ) × ValueSays s to from text × Decimal n text × (n < 4294967296)
  pub named : (text : List ℕ) → ValueSays s to from text → Decimal n text → n < 4294967296 → (number_value class_of s (found from to)).meaning ≡ Some n

abbrev pub NumbersMean : Type 0
NumbersMean = (s : List ℕ) (from to n : ℕ) → NamesExactly s from to n

-- A status is Ok, or RedundantSession, exactly if its text is that URI.
pub record StatusExactly (s : List ℕ) (from to : ℕ) : Type 0 where
  pub ok : (status_value class_of s (found from to)).meaning ≡ statuses.Ok → ValueSays s to from ok_status
  pub is_ok : ValueSays s to from ok_status → (status_value class_of s (found from to)).meaning ≡ statuses.Ok
  pub redundant : (status_value class_of s (found from to)).meaning ≡ statuses.RedundantSession → ValueSays s to from redundant_status
  pub is_redundant : ValueSays s to from redundant_status → (status_value class_of s (found from to)).meaning ≡ statuses.RedundantSession

abbrev pub StatusesMean : Type 0
StatusesMean = (s : List ℕ) (from to : ℕ) → StatusExactly s from to

-- A type is UnreadableMessage exactly if it holds no element and its text, without comments, is that URI.
pub record TypeExactly (s : List ℕ) (inside : Elements) (from to : ℕ) : Type 0 where
  pub unreadable : type_advice class_of s inside from to ≡ advices.UnreadableMessage → (inside ≡ none) × ContentSays s to from unreadable_message
  pub is_unreadable : inside ≡ none → ContentSays s to from unreadable_message → type_advice class_of s inside from to ≡ advices.UnreadableMessage

abbrev pub TypesMean : Type 0
TypesMean = (s : List ℕ) (inside : Elements) (from to : ℕ) → TypeExactly s inside from to

-- ---- the URIs as document 01 writes them

abbrev pub UrisAre : Type 0
UrisAre =
    (ok_status ≡ codes "urn:nena-org:dtc:aqstcp:status:Ok")
    × (redundant_status ≡ codes "urn:nena-org:dtc:aqstcp:status:RedundantSession")
    × (unreadable_message ≡ codes "urn:nena-org:dtc:aqs:notif:advisory:appl-x:UnreadableMessage")
