-- Document 01, "The restricted XML": what its places of refusal are said in. A message is readable if it is read whole with some limits, so with those behind
-- 8, 10, 11 and 14 out of the way, and with 13 left aside. All that follows speaks of continuations of the bytes before a place. Assumes nothing.
use Rattle.std.specs.Prelude.{ℕ, zero, suc, ◌+◌, ◌≡◌, true, ◌||◌, List, [], ◌∷◌, ◌++◌, length, eqb}
use Rattle.message.specs.Class.{class_of, is_name, is_space}
use Rattle.message.specs.Reading.{is, has, ends, blanks}
use Rattle.message.specs.Reading.Reading.{whole}
use Rattle.message.specs.Names.{Named, name_at}
use Rattle.message.specs.Words.{char, codes}
use Rattle.message.specs.Limits.{Limits}
use Rattle.message.specs.Elements.{part, Element, Quoted, quoted_at, document_at}

abbrev pub Readable : List ℕ → Type 0
Readable s = (l : Limits) × (root : Element) × (document_at class_of s l 0 ≡ whole root)

-- some continuation of these bytes is readable
abbrev pub Continues : List ℕ → Type 0
Continues w = (u : List ℕ) × Readable (w ++ u)

abbrev pub a_comment : List ℕ
a_comment = codes "<!-- -->"

-- markup may begin behind these bytes: a whole comment may stand there
abbrev pub MarkupMayBegin : List ℕ → Type 0
MarkupMayBegin w = Continues (w ++ a_comment)

-- the word stands at the place
abbrev pub Spelled : List ℕ → List ℕ → ℕ → Type 0
Spelled w s p = part s p (p + length w) ≡ w

-- ---- open elements

-- end tags, one behind the other
abbrev pub end_tags : List (List ℕ) → List ℕ
end_tags [] = []
end_tags (name ∷ names) = codes "</" ++ (name ++ (codes ">" ++ end_tags names))

-- made of bytes of names, and colons
abbrev pub NameLike : List ℕ → Type 0
NameLike [] = Unit {0}
NameLike (x ∷ name) = ((is_name class_of x || eqb x (char ":")) ≡ true) × NameLike name

abbrev pub EachNameLike : List (List ℕ) → Type 0
EachNameLike [] = Unit {0}
EachNameLike (name ∷ names) = NameLike name × EachNameLike names

-- n elements are open behind these bytes, where markup may begin: n end tags make a message of it
pub record Open (n : ℕ) (w : List ℕ) : Type 0 where
  pub markup : MarkupMayBegin w
  pub names : List (List ℕ)
  pub many : length names ≡ n
  pub named : EachNameLike names
  pub closed : Readable (w ++ end_tags names)

-- ---- start tags

-- a name, of parts of any length, stands at the place
abbrev pub NameStands : List ℕ → ℕ → Named → Type 0
NameStands s at name = (most : ℕ) × (name_at class_of most s at ≡ whole name)

-- white space, and then an attribute with its value, stand from one place up to another
pub record AttributeStands (s : List ℕ) (from to : ℕ) : Type 0 where
  pub space : has (is_space class_of) s from ≡ true
  pub name : Named
  pub named : NameStands s (blanks class_of s from) name
  pub value : Quoted
  pub valued : quoted_at class_of s name.end ≡ whole value
  pub ends : value.to + 1 ≡ to

-- so many of them stand there
abbrev pub AttributesStand : List ℕ → ℕ → ℕ → ℕ → Type 0
AttributesStand s zero from to = from ≡ to
AttributesStand s (suc k) from to = (last : ℕ) × AttributesStand s k from last × AttributeStands s last to

-- a start tag from its `<` on, with its name and k attributes, stands before the place
pub record TagStands (s : List ℕ) (at k to : ℕ) : Type 0 where
  pub opens : has (is (char "<")) s at ≡ true
  pub name : Named
  pub named : NameStands s (at + 1) name
  pub attributes : AttributesStand s k name.end to

-- ---- parts of names

-- the first part of a name begins at the place p, in markup that begins at another: behind the `<` of a start tag, the `</` of an end tag, or the white space
-- before an attribute
pub data FirstPart (s : List ℕ) (at p : ℕ) : Type 0 where
  of_start : has (is (char "<")) s at ≡ true → p ≡ at + 1 → FirstPart s at p
  of_end : has (is (char "<")) s at ≡ true → has (is (char "/")) s (at + 1) ≡ true → p ≡ at + 2 → FirstPart s at p
  of_attribute : (k to : ℕ) → TagStands s at k to → has (is_space class_of) s to ≡ true → p ≡ blanks class_of s to → FirstPart s at p

-- the first or the second, which begins behind a colon
pub data PartStands (s : List ℕ) (at p : ℕ) : Type 0 where
  first : FirstPart s at p → PartStands s at p
  second : (q : ℕ) → FirstPart s at q → has (is (char ":")) s (ends (is_name class_of) s q) ≡ true → p ≡ ends (is_name class_of) s q + 1 → PartStands s at p
