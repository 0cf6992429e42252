-- Promise: what is handed in of the bytes of a message, and what that is to a push: so that demand 3's "an Ok with its number" is said of bytes. (proofs/Heard)
-- Assumes nothing.
use Rattle.std.specs.Prelude.{◌≡◌, true, false, List, [], ◌∷◌, ℕ, Option, Some}
use Rattle.message.specs.Class.{class_of}
use Rattle.message.specs.Limits.{link_limits}
use Rattle.message.specs.Reading.Reading.{whole, refused}
use Rattle.message.specs.Messages.{message_of}
use Rattle.message.specs.declared.Kind.{Kind}
use Rattle.message.specs.declared.Kind.TheVariants as kinds
use Rattle.message.specs.declared.Value.{Value}
use Rattle.message.specs.declared.Message.{Message}
use Rattle.conduct.specs.declared.Call.TheVariants as calls
use Rattle.conduct.specs.History.{Bearing, says_unreadable, call_bearing}
use Rattle.conduct.specs.History.Bearing.{acknowledged, unreadable_message, advised}
use Rattle.session.specs.Answers.{call_of_bytes}

-- What the reader says of the bytes is handed in as it is, a message or a refusal.
abbrev pub HandedInAsRead : Type 0
HandedInAsRead =
    (bytes : List ℕ)
    → ((m : Message) → message_of class_of link_limits bytes ≡ whole m → call_of_bytes bytes ≡ calls.Heard m)
    × ((number place : ℕ) → message_of class_of link_limits bytes ≡ refused number place → call_of_bytes bytes ≡ calls.Unreadable number)

-- what the bytes are to the push n, when they are read and handed in
abbrev pub bearing_of : ℕ → List ℕ → List Bearing
bearing_of n bytes = call_bearing n (call_of_bytes bytes)

-- the bytes are read as a message of the kind, and the value in question is there and names n
pub record Naming (bytes : List ℕ) (kind : Kind) (value : Message → Value (Option ℕ)) (n : ℕ) : Type 0 where
  pub message : Message
  pub is_read : message_of class_of link_limits bytes ≡ whole message
  pub is_kind : message.kind ≡ kind
  pub is_there : (value message).there ≡ true
  pub names_it : (value message).meaning ≡ Some n

abbrev pub OkNaming : List ℕ → ℕ → Type 0
OkNaming bytes n = Naming bytes kinds.Ok (λ m. m.in_response_to) n

abbrev pub AdvisoryNaming : List ℕ → ℕ → Type 0
AdvisoryNaming bytes n = Naming bytes kinds.Advisory (λ m. m.in_relation_to) n

-- An Ok with its number is bytes that are read as an Ok whose inResponseTo names it.
abbrev pub OkByItsBytes : Type 0
OkByItsBytes =
    (bytes : List ℕ) (n : ℕ)
    → (bearing_of n bytes ≡ acknowledged ∷ [] → OkNaming bytes n) × (OkNaming bytes n → bearing_of n bytes ≡ acknowledged ∷ [])

-- An UnreadableMessage Advisory with its number, and another Advisory with it.
abbrev pub UnreadableByItsBytes : Type 0
UnreadableByItsBytes =
    (bytes : List ℕ) (n : ℕ)
    → (bearing_of n bytes ≡ unreadable_message ∷ [] → (a : AdvisoryNaming bytes n) × (says_unreadable a.message ≡ true))
    × ((a : AdvisoryNaming bytes n) → says_unreadable a.message ≡ true → bearing_of n bytes ≡ unreadable_message ∷ [])

abbrev pub AdvisedByItsBytes : Type 0
AdvisedByItsBytes =
    (bytes : List ℕ) (n : ℕ)
    → (bearing_of n bytes ≡ advised ∷ [] → (a : AdvisoryNaming bytes n) × (says_unreadable a.message ≡ false))
    × ((a : AdvisoryNaming bytes n) → says_unreadable a.message ≡ false → bearing_of n bytes ≡ advised ∷ [])
