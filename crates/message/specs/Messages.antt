-- Document 01, "The seven messages": the kind of a message, the values that it carries, and refusal 13. Assumes nothing.
use Rattle.message.specs.declared.Status.{Status}
use Rattle.std.specs.Prelude.{ℕ, zero, suc, ◌+◌, ◌-◌, Bool, true, false, cond, List, length, Option, None}
use Rattle.laws.specs.Bytes.{same_bytes}
use Rattle.message.specs.Reading.{Reading, ◌>>=◌, blanks}
use Rattle.message.specs.Reading.Reading.{whole, refused}
use Rattle.message.specs.Names.{name_at}
use Rattle.message.specs.Limits.{Limits}
use Rattle.message.specs.Elements.{part, Tag, Elements, Element, Quoted, quoted_at, document_at}
use Rattle.message.specs.Elements.Elements.{none, more}
use Rattle.message.specs.Values.{attribute_meaning, content_meaning, number_of, status_of, advice_of}
use Rattle.message.specs.Words as words
use Rattle.message.specs.declared.Kind.{Kind}
use Rattle.message.specs.declared.Kind.TheVariants as kinds
use Rattle.message.specs.declared.Value.{Value}
use Rattle.message.specs.declared.Status.TheVariants as statuses
use Rattle.message.specs.declared.Advice.{Advice}
use Rattle.message.specs.declared.Advice.TheVariants as advices
use Rattle.message.specs.declared.Message.{Message}

-- well formed, but no message of the seven
abbrev pub no_message : {A : Type 0} → Reading A
no_message = refused 13 0

-- ---- the kinds and their numbers

abbrev pub kind_number : Kind → ℕ
kind_number kinds.SessionOpenRequest = 1
kind_number kinds.SessionOpenResponse = 2
kind_number kinds.SessionOk = 3
kind_number kinds.Ok = 4
kind_number kinds.Advisory = 5
kind_number kinds.Request = 6
kind_number kinds.Response = 7

-- the kind that a name, the part after any colon, stands for
unfoldable pub kind_of : List ℕ → Reading Kind
kind_of name =
    cond (same_bytes name words.session_open_request) (whole kinds.SessionOpenRequest)
    (cond (same_bytes name words.session_open_response) (whole kinds.SessionOpenResponse)
    (cond (same_bytes name words.session_ok) (whole kinds.SessionOk)
    (cond (same_bytes name words.ok) (whole kinds.Ok)
    (cond (same_bytes name words.advisory) (whole kinds.Advisory)
    (cond (same_bytes name words.request) (whole kinds.Request)
    (cond (same_bytes name words.response) (whole kinds.Response) no_message))))))

-- ---- values, which are there or not

pub data Found : Type 0 where
  missing : Found
  found : ℕ → ℕ → Found

abbrev pub needed : Found → Reading Found
needed missing = no_message
needed (found from to) = whole (found from to)

-- a reading that was refused found nothing
abbrev pub found_in : Reading Quoted → Found
found_in (whole v) = found v.from v.to
found_in (refused number place) = missing

-- a value that its kind does not have, or that is not there
abbrev pub no_number : Value (Option ℕ)
no_number = record { there = false; place = 0; length = 0; meaning = None }

abbrev pub no_status : Value Status
no_status = record { there = false; place = 0; length = 0; meaning = statuses.Other }

abbrev pub no_type : Value Advice
no_type = record { there = false; place = 0; length = 0; meaning = advices.Other }

-- the message of a kind, with its values in the order in which include/ali_link.h counts them
abbrev pub message : Kind → Value Status → Value (Option ℕ) → Value (Option ℕ) → Value (Option ℕ) → Value Advice → Message
message k status identity in_response_to in_relation_to type =
    record { kind = k; status = status; id = identity; in_response_to = in_response_to; in_relation_to = in_relation_to; advisory_type = type }

-- ---- elements by their names

module _ (s : List ℕ) where
  -- elements are called by the name after any colon
  abbrev pub called : List ℕ → Tag → Bool
  called w tag = same_bytes (part s tag.name.local tag.name.end) w

  -- the only child element, which is called w
  abbrev pub only_child : List ℕ → Elements → Reading Element
  only_child w none = no_message
  only_child w (more t inner none) = cond (called w t) (whole (record { tag = t; inside = inner })) no_message
  only_child w (more t inner (more t' inner' others)) = no_message

  -- the first child element that is called w
  abbrev pub first_called : List ℕ → Elements → Reading Element
  first_called w none = no_message
  first_called w (more t inner others) = cond (called w t) (whole (record { tag = t; inside = inner })) (first_called w others)

module _ (class : ℕ → ℕ) (s : List ℕ) where
  -- ---- values with what they mean

  abbrev pub number_value : Found → Value (Option ℕ)
  number_value missing = no_number
  number_value (found from to) =
      record { there = true; place = from; length = to - from; meaning = number_of (attribute_meaning class s (suc (length s)) to from) }

  abbrev pub status_value : Found → Value Status
  status_value missing = no_status
  status_value (found from to) =
      record { there = true; place = from; length = to - from; meaning = status_of (attribute_meaning class s (suc (length s)) to from) }

  -- an element inside makes it other
  abbrev pub type_advice : Elements → ℕ → ℕ → Advice
  type_advice none from to = advice_of (content_meaning class s (suc (length s)) to from)
  type_advice (more t inner others) from to = advices.Other

  abbrev pub type_value : Element → Value Advice
  type_value e =
      record { there = true; place = e.tag.from; length = e.tag.to - e.tag.from; meaning = type_advice e.inside e.tag.from e.tag.to }

module _ (class : ℕ → ℕ) (l : Limits) (s : List ℕ) where
  -- ---- the attributes of a start tag

  -- Looks through the attributes that stand from `at` on in a start tag for the first that is called w; names are compared whole.
  unfoldable pub attribute_called : ℕ → List ℕ → ℕ → Reading Quoted
  attribute_called zero w at = refused 9 at
  attribute_called (suc fuel) w at = do
    name ← name_at class l.part s (blanks class s at)
    value ← quoted_at class s name.end
    let others = attribute_called fuel w (value.to + 1) in
        cond (same_bytes (part s (blanks class s at) name.end) w) (whole value) others

  abbrev pub attribute_of : List ℕ → Tag → Found
  attribute_of w tag = found_in (attribute_called (length s) w tag.name.end)

  -- ---- the seven

  abbrev pub message_of_kind : Element → Kind → Reading Message
  message_of_kind root kinds.SessionOpenRequest = whole (message kinds.SessionOpenRequest no_status no_number no_number no_number no_type)
  message_of_kind root kinds.SessionOpenResponse = do
    value ← needed (attribute_of words.status root.tag)
    whole (message kinds.SessionOpenResponse (status_value class s value) no_number no_number no_number no_type)
  message_of_kind root kinds.SessionOk = do
    value ← needed (attribute_of words.identity root.tag)
    whole (message kinds.SessionOk no_status (number_value class s value) no_number no_number no_type)
  message_of_kind root kinds.Ok = do
    value ← needed (attribute_of words.in_response_to root.tag)
    whole (message kinds.Ok no_status no_number (number_value class s value) no_number no_type)
  message_of_kind root kinds.Advisory = do
    child ← only_child s words.advisory root.inside
    type ← first_called s words.advisory_type child.inside
    whole (message kinds.Advisory no_status no_number no_number (number_value class s (attribute_of words.in_relation_to child.tag)) (type_value class s type))
  message_of_kind root kinds.Request = do
    child ← only_child s words.query_request root.inside
    value ← needed (attribute_of words.identity child.tag)
    whole (message kinds.Request no_status (number_value class s value) no_number no_number no_type)
  message_of_kind root kinds.Response = do
    child ← only_child s words.query_response root.inside
    whole (message kinds.Response no_status no_number (number_value class s (attribute_of words.in_response_to child.tag)) no_number no_type)

  -- a message that is read from the place on: 13 comes after all else
  unfoldable pub message_at : ℕ → Reading Message
  message_at at = do
    root ← document_at class s l at
    kind ← kind_of (part s root.tag.name.local root.tag.name.end)
    message_of_kind root kind

  -- a whole message
  abbrev pub message_of : Reading Message
  message_of = message_at 0
