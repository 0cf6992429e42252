-- What is read again of the root, its child and its AdvisoryType, by what is held on to of them, and what the code says of a kind and of a value that was
-- looked for. Assumes nothing.
use Rattle.std.specs.Prelude.{ℕ, suc, ◌-◌, ◌≡◌, cond, List, length, eqb, Option, None, Some, Result, Ok, Err}
use Rattle.message.specs.Reading.{Reading, said, reason_number}
use Rattle.message.specs.Reading.Reading.{whole, refused}
use Rattle.message.specs.Limits.{link_limits}
use Rattle.message.specs.Elements.{Element, element_at, part}
use Rattle.message.specs.Messages.{no_message, Found, found, type_value, message_of_kind, kind_of}
use Rattle.message.specs.Values.{content_meaning, advice_of}
use Rattle.elements.specs.declared.Inside.{Inside}
use Rattle.elements.specs.declared.Seen.{Seen}
use Rattle.message.specs.declared.Kind.{Kind}
use Rattle.message.specs.declared.Advice.{Advice}
use Rattle.message.specs.declared.Advice.TheVariants as advices
use Rattle.message.specs.declared.Value.{Value}
use Rattle.message.specs.declared.Message.{Message}
use Rattle.message.specs.declared.Refusal.{Refusal}
use Rattle.elements.specs.declared.attributes.Span.{Span}
use Rattle.laws.specs.Bytes.{same_bytes}
use Rattle.message.specs.Names.{Named, name_at}
use Rattle.elements.specs.Seen.{seen_of}

abbrev pub kind_said : Option Kind → Reading Kind
kind_said (Some k) = whole k
kind_said None = no_message

-- of a value that is needed
abbrev pub needed_said : Result Span Refusal → Reading Found
needed_said (Ok v) = whole (found v.from v.to)
needed_said (Err r) = refused (reason_number r.reason) r.place

-- ---- names that are read again

-- the place behind the name that begins at the place, where the part after any colon is w
abbrev pub name_called : (ℕ → ℕ) → List ℕ → List ℕ → ℕ → Reading ℕ
name_called class s w at = go (name_at class 64 s at)
  where
    go : Reading Named → Reading ℕ
    go (whole n) = cond (same_bytes (part s n.local n.end) w) (whole n.end) no_message
    go (refused number place) = no_message

abbrev pub only_called : (ℕ → ℕ) → List ℕ → List ℕ → Inside → Reading ℕ
only_called class s w i = cond (eqb i.children 1) (name_called class s w i.first) no_message

abbrev pub name_end : (ℕ → ℕ) → List ℕ → ℕ → ℕ
name_end class s at = go (name_at class 64 s at)
  where
    go : Reading Named → ℕ
    go (whole n) = n.end
    go (refused number place) = 0

abbrev pub kind_named : (ℕ → ℕ) → List ℕ → ℕ → Reading Kind
kind_named class s at = go (name_at class 64 s at)
  where
    go : Reading Named → Reading Kind
    go (whole n) = kind_of (part s n.local n.end)
    go (refused number place) = no_message

-- ---- what they tell

-- the answer is the message of the kind k, for whichever root it is that e holds on to
abbrev pub Tells : (ℕ → ℕ) → List ℕ → Seen → Kind → Result Message Refusal → Type 0
Tells class s e k r =
    (root : Element) → element_at class s link_limits 32 (e.begin - 1) ≡ whole root → e ≡ seen_of s root → said r ≡ message_of_kind class link_limits s root k

-- what the content of an AdvisoryType means, by what is held on to of it
abbrev pub advice_seen : (ℕ → ℕ) → List ℕ → Seen → Advice
advice_seen class s e = cond (eqb e.inside.children 0) (advice_of (content_meaning class s (suc (length s)) e.to e.from)) advices.Other

-- the value is that of the type, for whichever AdvisoryType it is whose name begins at b
abbrev pub TellsType : (ℕ → ℕ) → List ℕ → ℕ → Value Advice → Type 0
TellsType class s b r = (e : Element) → element_at class s link_limits 30 (b - 1) ≡ whole e → r ≡ type_value class s e
