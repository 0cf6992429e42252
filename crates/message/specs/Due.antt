-- Document 01, "The restricted XML": when each refusal is due at a place, said by the bytes before it and the bytes at it. Assumes nothing.
use Rattle.std.specs.Prelude.{ℕ, ◌+◌, ◌-◌, ◌<◌, ◌≡◌, true, List, take}
use Rattle.message.specs.Class.{class_of, is_start, is_name, is_space}
use Rattle.message.specs.Reading.{is, has, ends, blanks}
use Rattle.message.specs.Words.{char, codes}
use Rattle.message.specs.Readable.{MarkupMayBegin, Spelled, Open, TagStands, PartStands}
use Rattle.message.specs.Nine.{NineAt}

-- the message begins with `<?xml` and white space
abbrev pub Declares : List ℕ → Type 0
Declares s = Spelled (codes "<?xml") s 0 × (has (is_space class_of) s 5 ≡ true)

-- one of the three openings, whole
pub data Opening (s : List ℕ) (p : ℕ) : Type 0 where
  doctype : Spelled (codes "<!DOCTYPE") s p → Opening s p
  cdata : Spelled (codes "<![CDATA[") s p → Opening s p
  instruction : Spelled (codes "<?") s p → (p ≡ 0 → Declares s → ⊥) → Opening s p

-- which refusal is due, and where
pub data Due (s : List ℕ) : ℕ → ℕ → Type 0 where
  -- the first byte that leaves no readable continuation; or the length, of a message that only ends too soon
  nine : (p : ℕ) → NineAt s p → Due s 9 p
  -- the `<` of an element, before a byte that begins a name, where 32 elements are open
  level : (p : ℕ) → Open 32 (take p s) → has (is (char "<")) s p ≡ true → has (is_start class_of) s (p + 1) ≡ true → Due s 10 p
  -- a byte that begins a name, behind a start tag's name, 16 attributes and white space
  attribute : (at to : ℕ) → MarkupMayBegin (take at s) → TagStands s at 16 to → has (is_space class_of) s to ≡ true
      → has (is_start class_of) s (blanks class_of s to) ≡ true → Due s 11 (blanks class_of s to)
  -- a whole opening, where markup may begin
  opening : (p : ℕ) → MarkupMayBegin (take p s) → Opening s p → Due s 12 p
  -- a part of a name, in a start tag, an attribute or an end tag, with more than 64 bytes of names from its first on
  long : (at p : ℕ) → MarkupMayBegin (take at s) → PartStands s at p → 64 < ends (is_name class_of) s p - p → Due s 14 p
