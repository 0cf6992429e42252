-- Promise 5, the seven: 13 exactly for what is none of them, the values that each needs, and where they stand.
-- (proofs/Seven, proofs/Delimited, proofs/Children, proofs/NamesStand) Assumes nothing.
use Rattle.message.specs.declared.Status.{Status}
use Rattle.message.specs.declared.Advice.{Advice}
use Rattle.std.specs.Prelude.{ℕ, ◌+◌, ◌-◌, ◌≤◌, ◌<◌, ◌≡◌, true, false, List, length, Option, None}
use Rattle.message.specs.Class.{class_of}
use Rattle.message.specs.Reading.{is, is_quote, byte_at, has, blanks, equals_at}
use Rattle.message.specs.Reading.Reading.{whole, refused}
use Rattle.message.specs.Limits.{Limits}
use Rattle.message.specs.Elements.{part, Tag, Elements, Element, Start, Quoted, free_at, start_at, end_tag_at, document_at}
use Rattle.message.specs.Elements.Elements.{none, more}
use Rattle.message.specs.Messages.{number_value, status_value, type_advice, message_of}
use Rattle.message.specs.Messages.Found.{found}
use Rattle.message.specs.Names.{Named}
use Rattle.message.specs.Readable.{NameStands, AttributeStands}
use Rattle.message.specs.Words as words
use Rattle.message.specs.Words.{char, codes}
use Rattle.message.specs.declared.Kind.TheVariants as kinds
use Rattle.message.specs.declared.Value.{Value}
use Rattle.message.specs.declared.Status.TheVariants as statuses
use Rattle.message.specs.declared.Advice.TheVariants as advices
use Rattle.message.specs.declared.Message.{Message}

module _ (s : List ℕ) where
  -- ---- what an element carries

  -- it has this name, after any colon
  abbrev pub Called : List ℕ → Tag → Type 0
  Called w tag = part s tag.name.local tag.name.end ≡ w

  -- of the attributes from a place on, the first that has this whole name, and its value
  pub data Carries (w : List ℕ) : ℕ → Quoted → Type 0 where
    this : {at to : ℕ} (a : AttributeStands s at to) → part s (blanks class_of s at) a.name.end ≡ w → Carries w at a.value
    later : {at to : ℕ} {v : Quoted} (a : AttributeStands s at to) → (part s (blanks class_of s at) a.name.end ≡ w → ⊥) → Carries w to v → Carries w at v

  abbrev pub HasAttribute : List ℕ → Tag → Quoted → Type 0
  HasAttribute w tag v = Carries w tag.name.end v

  -- of elements beside each other, the first that has this name
  pub data First (w : List ℕ) : Elements → Element → Type 0 where
    this : {tag : Tag} {inner others : Elements} → Called w tag → First w (more tag inner others) (record { tag = tag; inside = inner })
    later : {tag : Tag} {inner others : Elements} {e : Element} → (Called w tag → ⊥) → First w others e → First w (more tag inner others) e

  -- the only child element, which has this name
  abbrev pub OnlyChild : List ℕ → Element → Element → Type 0
  OnlyChild w root child = (root.inside ≡ more child.tag child.inside none) × Called w child.tag

  -- ---- what is shown of a value: whether it is there, its place and length in the message, and what it means (promise 6)

  pub record NumberThere (w : List ℕ) (tag : Tag) (v : Value (Option ℕ)) : Type 0 where
    pub value : Quoted
    pub has : HasAttribute w tag value
    pub there : v.there ≡ true
    pub place : v.place ≡ value.from
    pub bytes : v.length ≡ value.to - value.from
    pub means : v.meaning ≡ (number_value class_of s (found value.from value.to)).meaning

  pub record NoNumber (v : Value (Option ℕ)) : Type 0 where
    pub there : v.there ≡ false
    pub place : v.place ≡ 0
    pub bytes : v.length ≡ 0
    pub means : v.meaning ≡ None

  -- there if the attribute is
  pub data PerhapsNumber (w : List ℕ) (tag : Tag) (v : Value (Option ℕ)) : Type 0 where
    present : NumberThere w tag v → PerhapsNumber w tag v
    missing : ((q : Quoted) → HasAttribute w tag q → ⊥) → NoNumber v → PerhapsNumber w tag v

  pub record StatusThere (w : List ℕ) (tag : Tag) (v : Value Status) : Type 0 where
    pub value : Quoted
    pub has : HasAttribute w tag value
    pub there : v.there ≡ true
    pub place : v.place ≡ value.from
    pub bytes : v.length ≡ value.to - value.from
    pub means : v.meaning ≡ (status_value class_of s (found value.from value.to)).meaning

  pub record NoStatus (v : Value Status) : Type 0 where
    pub there : v.there ≡ false
    pub place : v.place ≡ 0
    pub bytes : v.length ≡ 0
    pub means : v.meaning ≡ statuses.Other

  pub record TypeThere (type : Element) (v : Value Advice) : Type 0 where
    pub there : v.there ≡ true
    pub place : v.place ≡ type.tag.from
    pub bytes : v.length ≡ type.tag.to - type.tag.from
    pub means : v.meaning ≡ type_advice class_of s type.inside type.tag.from type.tag.to

  pub record NoType (v : Value Advice) : Type 0 where
    pub there : v.there ≡ false
    pub place : v.place ≡ 0
    pub bytes : v.length ≡ 0
    pub means : v.meaning ≡ advices.Other

  -- ---- the seven, each with what it needs and holds: nothing else is there

  pub data OneOfSeven (root : Element) (m : Message) : Type 0 where
    open_request :
        m.kind ≡ kinds.SessionOpenRequest → Called words.session_open_request root.tag
        → NoStatus m.status → NoNumber m.id → NoNumber m.in_response_to → NoNumber m.in_relation_to → NoType m.advisory_type
        → OneOfSeven root m
    open_response :
        m.kind ≡ kinds.SessionOpenResponse → Called words.session_open_response root.tag
        → StatusThere words.status root.tag m.status
        → NoNumber m.id → NoNumber m.in_response_to → NoNumber m.in_relation_to → NoType m.advisory_type
        → OneOfSeven root m
    session_ok :
        m.kind ≡ kinds.SessionOk → Called words.session_ok root.tag
        → NumberThere words.identity root.tag m.id
        → NoStatus m.status → NoNumber m.in_response_to → NoNumber m.in_relation_to → NoType m.advisory_type
        → OneOfSeven root m
    ok :
        m.kind ≡ kinds.Ok → Called words.ok root.tag
        → NumberThere words.in_response_to root.tag m.in_response_to
        → NoStatus m.status → NoNumber m.id → NoNumber m.in_relation_to → NoType m.advisory_type
        → OneOfSeven root m
    advisory :
        (child type : Element) → m.kind ≡ kinds.Advisory → Called words.advisory root.tag → OnlyChild words.advisory root child
        → PerhapsNumber words.in_relation_to child.tag m.in_relation_to
        → First words.advisory_type child.inside type → TypeThere type m.advisory_type
        → NoStatus m.status → NoNumber m.id → NoNumber m.in_response_to
        → OneOfSeven root m
    request :
        (child : Element) → m.kind ≡ kinds.Request → Called words.request root.tag → OnlyChild words.query_request root child
        → NumberThere words.identity child.tag m.id
        → NoStatus m.status → NoNumber m.in_response_to → NoNumber m.in_relation_to → NoType m.advisory_type
        → OneOfSeven root m
    response :
        (child : Element) → m.kind ≡ kinds.Response → Called words.response root.tag → OnlyChild words.query_response root child
        → PerhapsNumber words.in_response_to child.tag m.in_response_to
        → NoStatus m.status → NoNumber m.id → NoNumber m.in_relation_to → NoType m.advisory_type
        → OneOfSeven root m

-- A message that is read is one of the seven, with its needed values.
abbrev pub ReadIsOne : Type 0
ReadIsOne =
    (s : List ℕ) (l : Limits) (m : Message) → message_of class_of l s ≡ whole m
    → (root : Element) × (document_at class_of s l 0 ≡ whole root) × OneOfSeven s root m

-- 13 stands at 0, for a message without another refusal that is none of the seven.
abbrev pub ThirteenIsNone : Type 0
ThirteenIsNone =
    (s : List ℕ) (l : Limits) (p : ℕ) → message_of class_of l s ≡ refused 13 p
    → (p ≡ 0) × ((root : Element) × (document_at class_of s l 0 ≡ whole root) × ((m : Message) → OneOfSeven s root m → ⊥))

-- And such a message gets no other answer.
abbrev pub NoneIsThirteen : Type 0
NoneIsThirteen =
    (s : List ℕ) (l : Limits) (root : Element) → document_at class_of s l 0 ≡ whole root → ((m : Message) → OneOfSeven s root m → ⊥)
    → message_of class_of l s ≡ refused 13 0

-- ---- where values stand

-- between two quotation marks, the second being the first such mark behind the first
pub record Quotes (s : List ℕ) (from to : ℕ) : Type 0 where
  pub some : 0 < from
  pub order : from ≤ to
  pub within : to < length s
  pub mark : is_quote (byte_at s (from - 1)) ≡ true
  pub closed : byte_at s to ≡ byte_at s (from - 1)
  pub inside : (i : ℕ) → from ≤ i → i < to → byte_at s i ≡ byte_at s (from - 1) → ⊥

-- An attribute's place and length delimit its value, behind its name and an equals sign.
pub record Delimits (s : List ℕ) {at to : ℕ} (a : AttributeStands s at to) : Type 0 where
  pub quotes : Quotes s a.value.from a.value.to
  pub equals : equals_at class_of s a.name.end ≡ whole (a.value.from - 1)
  pub last : to ≡ a.value.to + 1

abbrev pub AttributesDelimited : Type 0
AttributesDelimited = (s : List ℕ) (at to : ℕ) (a : AttributeStands s at to) → Delimits s a

-- from the `>` of the start tag to the `</` of an end tag with the same name, or an empty-element tag, with 0 and 0
pub data Between (s : List ℕ) (tag : Tag) : Type 0 where
  tags :
      0 < tag.from → tag.from ≤ tag.to → tag.to + 1 < length s → byte_at s (tag.from - 1) ≡ char ">" → byte_at s tag.to ≡ char "<" → byte_at s (tag.to + 1) ≡ char "/"
      → part s (tag.to + 2) (tag.to + 2 + (tag.name.end - tag.begin)) ≡ part s tag.begin tag.name.end
      → Between s tag
  empty : tag.from ≡ 0 → tag.to ≡ 0 → byte_at s (tag.end - 1) ≡ char ">" → byte_at s (tag.end - 2) ≡ char "/" → Between s tag

-- An element's place and length delimit its value, in every message that is read.
abbrev pub TypeDelimited : Type 0
TypeDelimited =
    (s : List ℕ) (l : Limits) (root child type : Element) → document_at class_of s l 0 ≡ whole root
    → OnlyChild s words.advisory root child → First s words.advisory_type child.inside type → Between s type.tag

-- ---- the elements of a message

-- From one place up to an end tag at another stand text and comments, and these elements in their order: each begins where the text before it stops, and what
-- follows it begins behind it.
pub data Holds (s : List ℕ) : ℕ → Elements → ℕ → Type 0 where
  last : {at to : ℕ} → free_at class_of s (length s) at ≡ whole to → has (is (char "/")) s (to + 1) ≡ true → Holds s at none to
  next : {at stop to : ℕ} {tag : Tag} {inner others : Elements} → free_at class_of s (length s) at ≡ whole stop → tag.begin ≡ stop + 1
      → Holds s tag.end others to → Holds s at (more tag inner others) to

-- an empty-element tag, or a start tag, such content, and the end tag
pub data Inside (s : List ℕ) (l : Limits) (tag : Tag) : Elements → Type 0 where
  nothing : (start : Start) → start_at class_of s l (tag.begin - 1) ≡ whole start → start.empty ≡ true → start.from ≡ tag.end → Inside s l tag none
  content : {inner : Elements} (start : Start) → start_at class_of s l (tag.begin - 1) ≡ whole start → start.empty ≡ false → start.from ≡ tag.from
      → Holds s tag.from inner tag.to → end_tag_at class_of s l tag.begin tag.name (tag.to + 2) ≡ whole tag.end → Inside s l tag inner

abbrev pub EachInside : List ℕ → Limits → Elements → Type 0
EachInside s l none = Unit {0}
EachInside s l (more tag inner others) = Inside s l tag inner × EachInside s l inner × EachInside s l others

-- None is left out, and none is listed that does not stand there.
abbrev pub ElementsStand : Type 0
ElementsStand = (s : List ℕ) (l : Limits) (root : Element) → document_at class_of s l 0 ≡ whole root → EachInside s l (more root.tag root.inside none)

-- ---- names

-- the part of a name that elements are called by: behind its one colon, or all of it
pub data Local (s : List ℕ) (at : ℕ) (name : Named) : Type 0 where
  undivided : name.local ≡ at → ((i : ℕ) → at ≤ i → i < name.end → byte_at s i ≡ char ":" → ⊥) → Local s at name
  divided : at < name.local → name.local < name.end → byte_at s (name.local - 1) ≡ char ":"
      → ((i : ℕ) → at ≤ i → i < name.end → byte_at s i ≡ char ":" → i ≡ name.local - 1) → Local s at name

abbrev pub LocalNames : Type 0
LocalNames = (s : List ℕ) (at : ℕ) (name : Named) → NameStands s at name → Local s at name

-- The names that document 01 and Table 5 of 000 give.
abbrev pub NamesAre : Type 0
NamesAre =
    (words.session_open_request ≡ codes "SessionOpenRequest")
    × (words.session_open_response ≡ codes "SessionOpenResponse")
    × (words.session_ok ≡ codes "SessionOk")
    × (words.ok ≡ codes "Ok")
    × (words.advisory ≡ codes "Advisory")
    × (words.request ≡ codes "Request")
    × (words.response ≡ codes "Response")
    × (words.query_request ≡ codes "QueryRequest")
    × (words.query_response ≡ codes "QueryResponse")
    × (words.advisory_type ≡ codes "AdvisoryType")
    × (words.status ≡ codes "status")
    × (words.identity ≡ codes "ID")
    × (words.in_response_to ≡ codes "inResponseTo")
    × (words.in_relation_to ≡ codes "inRelationTo")
