-- What the list holds after a call that is not refused: the theorems, each with the file of proofs/ that shows it. (Those on refused calls stand in
-- `Refusals`.) Assumes nothing.
use Rattle.std.specs.Prelude.{ℕ, ◌≤◌, ◌≡◌, true, false, List, [], ◌∷◌, length, take, drop, replicate, None, Some}
use Rattle.framing.specs.Cutting.{Answer, link_limit, item_number, item_length, answer_of}
use Rattle.message.specs.Class.{class_of}
use Rattle.message.specs.Reading.{Reading}
use Rattle.message.specs.Reading.Reading.{whole, refused}
use Rattle.message.specs.Limits.{link_limits}
use Rattle.message.specs.Messages.{message_of, message, no_number, no_status, no_type}
use Rattle.message.specs.declared.Kind.TheVariants as kinds
use Rattle.message.specs.declared.Status.TheVariants as statuses
use Rattle.message.specs.declared.Advice.TheVariants as advices
use Rattle.message.specs.declared.Message.{Message}
use Rattle.line.specs.Gather.{gather_refusal, gather_list}
use Rattle.line.specs.Read.{number_numbers, status_numbers, type_numbers, read_numbers, read_list}

-- `ali_gather` writes its five numbers to the first places, in the order of INTERFACES; the later places are as they were. (GatherNumbers)
abbrev pub five_then : Answer → List ℕ → List ℕ
five_then r later = r.taken ∷ item_number r.item ∷ item_length r.item ∷ r.gathered ∷ r.matched ∷ later

abbrev pub GatherNumbersWritten : Type 0
GatherNumbersWritten =
    (b s p : List ℕ) (g m : ℕ) (a : List ℕ) → gather_refusal b s g m a ≡ 0 → gather_list b s p g m a ≡ five_then (answer_of link_limit b s p g m) (drop 5 a)

-- `ali_read` has 28 numbers to write, whatever was read. (ReadNumbers)
abbrev pub NumbersAre28 : Type 0
NumbersAre28 = (r : Reading Message) → length (read_numbers r) ≡ 28

-- They are the first 28 places of the list; the later ones are as they were, whatever list is lent. (ReadNumbers)
abbrev pub NumbersWritten : Type 0
NumbersWritten = (s a : List ℕ) → 40 ≤ length a → take 28 (read_list s a) ≡ read_numbers (message_of class_of link_limits s)

abbrev pub PlacesBehindUnchanged : Type 0
PlacesBehindUnchanged = (s a : List ℕ) → drop 28 (read_list s a) ≡ drop 28 a

-- Behind a refusal's number and place all is 0. (ReadNumbers)
abbrev pub RefusalAlone : Type 0
RefusalAlone = (number place : ℕ) → read_numbers (refused number place) ≡ number ∷ place ∷ replicate 26 0

-- A value that is not there is five zeros. (ReadPlaces)
abbrev pub AbsentAlone : Type 0
AbsentAlone = (status_numbers no_status ≡ replicate 5 0) × (number_numbers no_number ≡ replicate 5 0) × (type_numbers no_type ≡ replicate 5 0)

-- The order of the 28. No message has all five values: here each has its own numbers, so that none of the 28 can stand at another's place. (ReadPlaces)
abbrev pub EachAtItsPlace : Type 0
EachAtItsPlace =
    read_numbers
    (whole
    (message kinds.Response (record { there = true; place = 31; length = 41; meaning = statuses.RedundantSession })
    (record { there = true; place = 32; length = 42; meaning = Some 52 }) (record { there = false; place = 33; length = 43; meaning = Some 53 })
    (record { there = true; place = 34; length = 44; meaning = None }) (record { there = true; place = 35; length = 45; meaning = advices.UnreadableMessage })))
    ≡ 0 ∷ 0 ∷ 7
    ∷ 1 ∷ 31 ∷ 41 ∷ 2 ∷ 0
    ∷ 1 ∷ 32 ∷ 42 ∷ 1 ∷ 52
    ∷ 0 ∷ 33 ∷ 43 ∷ 1 ∷ 53
    ∷ 1 ∷ 34 ∷ 44 ∷ 0 ∷ 0
    ∷ 1 ∷ 35 ∷ 45 ∷ 1 ∷ 0 ∷ []
