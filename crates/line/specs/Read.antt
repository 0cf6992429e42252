-- What `ali_read` returns and leaves, for the message s and the answer list a. Assumes nothing.
use Rattle.std.specs.Prelude.{ℕ, Bool, cond, List, [], ◌∷◌, ◌++◌, replicate, Option}
use Rattle.message.specs.Class.{class_of}
use Rattle.message.specs.Reading.{Reading}
use Rattle.message.specs.Reading.Reading.{whole, refused}
use Rattle.message.specs.Limits.{link_limits}
use Rattle.message.specs.Messages.{message_of, kind_number}
use Rattle.message.specs.Values.{number_flag, number_named, status_number, advice_number}
use Rattle.message.specs.declared.Value.{Value}
use Rattle.message.specs.declared.Status.{Status}
use Rattle.message.specs.declared.Advice.{Advice}
use Rattle.message.specs.declared.Message.{Message}
use Rattle.line.specs.Lists.{too_short, written}

-- 3, or 0: the refusals of the reader are answers
unfoldable pub read_return : List ℕ → ℕ
read_return a = cond (too_short a) 3 0

-- ---- the 28 numbers of an answer, each at its place

-- a value's five: there or not, its place in the message, its length, what it means, and the number that it names
abbrev pub value_numbers : Bool → ℕ → ℕ → ℕ → ℕ → List ℕ
value_numbers there place bytes meaning named = cond there 1 0 ∷ place ∷ bytes ∷ meaning ∷ named ∷ []

unfoldable pub number_numbers : Value (Option ℕ) → List ℕ
number_numbers v = value_numbers v.there v.place v.length (number_flag v.meaning) (number_named v.meaning)

unfoldable pub status_numbers : Value Status → List ℕ
status_numbers v = value_numbers v.there v.place v.length (status_number v.meaning) 0

unfoldable pub type_numbers : Value Advice → List ℕ
type_numbers v = value_numbers v.there v.place v.length (advice_number v.meaning) 0

-- a message that was read: refusal 0, place 0, the kind, and the five values
unfoldable pub message_numbers : Message → List ℕ
unfolding number_numbers status_numbers type_numbers
message_numbers m =
    (0 ∷ 0 ∷ kind_number m.kind ∷ [])
    ++ status_numbers m.status
    ++ number_numbers m.id
    ++ number_numbers m.in_response_to
    ++ number_numbers m.in_relation_to
    ++ type_numbers m.advisory_type

-- a refusal: its number and its place
unfoldable pub refusal_numbers : ℕ → ℕ → List ℕ
refusal_numbers number place = number ∷ place ∷ replicate 26 0

unfoldable pub read_numbers : Reading Message → List ℕ
unfolding message_numbers refusal_numbers
read_numbers (whole m) = message_numbers m
read_numbers (refused number place) = refusal_numbers number place

unfoldable pub read_list : List ℕ → List ℕ → List ℕ
unfolding read_numbers
read_list s a = cond (too_short a) a (written (read_numbers (message_of class_of link_limits s)) a)
