-- What a call of `ali_read` comes to, for the proofs: a message's numbers written part by part, a list that is too short, and an answer.
-- Assumes nothing.
use mathlib.Core.Path.{◌≡◌}
use mathlib.Core.Bool.{true, false}
use mathlib.Core.List.{List, [], ◌∷◌, ◌++◌}
use Prim.Native.Nat.{ℕ}
use Rattle.message.specs.Class.{class_of}
use Rattle.message.specs.Reading.{Reading}
use Rattle.message.specs.Limits.{link_limits}
use Rattle.message.specs.Messages.{message_of, kind_number}
use Rattle.message.specs.declared.Message.{Message}
use Rattle.line.specs.Lists.{too_short, written, placed}
use Rattle.message.specs.Values.{status_number, advice_number}
use Rattle.line.specs.Read.{value_numbers, number_numbers, status_numbers, type_numbers, message_numbers, read_numbers, read_return, read_list}
use Rattle.line.proofs.Written.{written_on}

module _ (m : Message) (a : List ℕ) where
  -- the numbers up to and with the kind, the status, ID, inResponseTo and inRelationTo
  abbrev to_kind : List ℕ
  to_kind = 0 ∷ 0 ∷ kind_number m.kind ∷ []

  abbrev to_status : List ℕ
  to_status = to_kind ++ status_numbers m.status

  abbrev to_id : List ℕ
  to_id = to_status ++ number_numbers m.id

  abbrev to_response : List ℕ
  to_response = to_id ++ number_numbers m.in_response_to

  abbrev to_relation : List ℕ
  to_relation = to_response ++ number_numbers m.in_relation_to

  pub message_written : (kind status advice : ℕ) {b c d e f g : List ℕ}
      → kind ≡ kind_number m.kind
      → status ≡ status_number m.status.meaning
      → advice ≡ advice_number m.advisory_type.meaning
      → b ≡ placed 0 (0 ∷ 0 ∷ kind ∷ []) a
      → c ≡ placed 3 (value_numbers m.status.there m.status.place m.status.length status 0) b
      → d ≡ placed 8 (number_numbers m.id) c
      → e ≡ placed 13 (number_numbers m.in_response_to) d
      → f ≡ placed 18 (number_numbers m.in_relation_to) e
      → g ≡ placed 23 (value_numbers m.advisory_type.there m.advisory_type.place m.advisory_type.length advice 0) f
      → g ≡ written (message_numbers m) a
  unfolding message_numbers status_numbers number_numbers type_numbers
  message_written kind status advice kind_is status_is advice_is head first id response relation last =
      written_on to_relation (type_numbers m.advisory_type) a
      (written_on to_response (number_numbers m.in_relation_to) a
      (written_on to_id (number_numbers m.in_response_to) a
      (written_on to_status (number_numbers m.id) a
      (written_on to_kind (status_numbers m.status) a (rw kind_is at head) (rw status_is at first))
      id)
      response)
      relation)
      (rw advice_is at last)

module _ (s a : List ℕ) where
  pub read_short : too_short a ≡ true → (3 ≡ read_return a) × (a ≡ read_list s a)
  unfolding read_return read_list
  read_short t = (rw t, rw t)

  pub read_answered : (r : Reading Message) {b : List ℕ} → too_short a ≡ false → r ≡ message_of class_of link_limits s → b ≡ written (read_numbers r) a
      → (0 ≡ read_return a) × (b ≡ read_list s a)
  unfolding read_return read_list
  read_answered r t is wrote = (rw t, rw (t, ← is) wrote)
