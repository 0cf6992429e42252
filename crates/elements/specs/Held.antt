-- What the code's own ways rest on: the names of attributes read so far, held as places, a start tag's name that is read again in the end tag, and what
-- it looks for first at a place. Assumes nothing.
use Rattle.std.specs.Prelude.{ℕ, ◌+◌, ◌-◌, ◌<◌, ◌≤◌, ◌≡◌, Bool, true, not, cond, ◌&&◌, List, [], ◌∷◌, length, map, reverse, ltb, Result, Ok, Err}
use Rattle.std.specs.List.{list_any}
use Rattle.laws.specs.Bytes.{same_bytes}
use Rattle.message.specs.Class.{is_name}
use Rattle.message.specs.Reading.{Reading, ◌>>=◌, is, has, ends, reason_number}
use Rattle.message.specs.Reading.Reading.{whole, refused}
use Rattle.message.specs.Elements as elements
use Rattle.message.specs.Names.{Named}
use Rattle.message.specs.Limits.{link_limits}
use Rattle.message.specs.Words.{char, advisory_type}
use Rattle.message.specs.Elements.{part, end_tag_at}
use Rattle.message.specs.declared.Refusal.{Refusal}
use Rattle.scan.specs.declared.Name.{Name}
use Rattle.elements.specs.Seen.{nothing_inside}
use Rattle.elements.specs.declared.content.Start.{Start}
use Rattle.elements.specs.declared.Inside.{Inside}
use Rattle.elements.specs.declared.Seen.{Seen}
use Rattle.elements.specs.declared.attributes.Span.{Span}

-- names that stand there, the last first
unfoldable pub names_of : List ℕ → List Span → List (List ℕ)
names_of s held = reverse (map (λ n. part s n.from n.to) held)

-- whether one of the names that stand there is the word
unfoldable pub one_is : List ℕ → List ℕ → List Span → Bool
one_is s word held = list_any (λ n. same_bytes (part s n.from n.to) word) held

abbrev pub span_said : Result Span Refusal → Reading elements.Quoted
span_said (Ok n) = whole (record { from = n.from; to = n.to })
span_said (Err r) = refused (reason_number r.reason) r.place

-- the first place from `at` on where the word is not repeated, or the place behind it
unfoldable pub same_up_to : List ℕ → List ℕ → ℕ → ℕ
same_up_to [] s at = at
same_up_to (x ∷ word) s at = cond (has (is x) s at) (same_up_to word s (at + 1)) at

-- a name as the definitions have it
abbrev pub named : Name → Named
named name = record { local = name.local; end = name.end }

-- a name that has been read stands from b on: one part, or two with a colon between them, each of at most 64 bytes
pub record NameStands (class : ℕ → ℕ) (s : List ℕ) (b : ℕ) (name : Named) : Type 0 where
  pub within : name.end ≤ length s
  pub last : (name.local < name.end) × (name.end ≡ ends (is_name class) s name.local)
  pub first : (name.local ≡ b → ⊥) → (b < name.local - 1) × (name.local - 1 ≡ ends (is_name class) s b)
  pub ordered : b ≤ name.local
  pub short : name.end - name.local ≤ 64
  pub joined : (name.local ≡ b → ⊥) → (name.local - 1 - b ≤ 64) × (has (is 58) s (name.local - 1) ≡ true)

-- ---- what most often stands at a place

-- a tag begins there, and neither a comment nor anything else that `<!` or `<?` opens
abbrev pub tag_at : List ℕ → ℕ → Bool
tag_at s at = has (is (char "<")) s at && (not (has (is (char "!")) s (at + 1)) && not (has (is (char "?")) s (at + 1)))

-- the `>` that ends a tag, which is no name byte and no white space
abbrev pub tag_ends_at : (ℕ → ℕ) → List ℕ → ℕ → Bool
tag_ends_at class s at = has (is (char ">")) s at && ltb (class (char ">")) 3

-- ---- a start tag that has been read

-- the start tag as the definitions have it
abbrev pub started : Start → elements.Start
started start = record { begin = start.begin; name = named start.name; from = start.from; empty = start.empty }

abbrev pub started_said : Result Start Refusal → Reading elements.Start
started_said (Ok start) = whole (started start)
started_said (Err r) = refused (reason_number r.reason) r.place

-- the mark of one whose name stands from b on
abbrev pub type_mark : List ℕ → ℕ → Name → ℕ
type_mark s b name = cond (same_bytes (part s name.local name.end) advisory_type) b 0

-- the element of an empty-element tag, and one whose `</` stands at `stop` behind what is inside
abbrev pub empty_seen : List ℕ → Start → Seen
empty_seen s start =
    record { begin = start.begin; from = 0; to = 0; end = start.from; mark = type_mark s start.begin start.name; inside = nothing_inside }

unfoldable pub closing : (ℕ → ℕ) → List ℕ → Start → ℕ → Inside → Reading Seen
closing class s start stop i = do
  e ← end_tag_at class s link_limits start.begin (named start.name) (stop + 2)
  whole (record { begin = start.begin; from = start.from; to = stop; end = e; mark = type_mark s start.begin start.name; inside = i })
