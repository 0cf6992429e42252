-- Promise 2, limits refuse nothing else: a raised limit changes only what was its own refusal, and with all out of the way only 9, 12 and 13 are left.
-- (proofs/Raising) Assumes nothing.
use Rattle.std.specs.Prelude.{ℕ, ◌≤◌, ◌<◌, ◌≡◌, ◌⊎◌, List, length}
use Rattle.message.specs.Class.{class_of}
use Rattle.message.specs.Reading.Reading.{refused}
use Rattle.message.specs.Limits.{Limits}
use Rattle.message.specs.Messages.{message_of}

-- l' allows at least what l allows
pub record AtMost (l l' : Limits) : Type 0 where
  pub bytes : l.bytes ≤ l'.bytes
  pub levels : l.levels ≤ l'.levels
  pub attributes : l.attributes ≤ l'.attributes
  pub part : l.part ≤ l'.part

-- the refusals behind the limits in which l' allows more
pub data Raised (l l' : Limits) : ℕ → Type 0 where
  bytes : l.bytes < l'.bytes → Raised l l' 8
  levels : l.levels < l'.levels → Raised l l' 10
  attributes : l.attributes < l'.attributes → Raised l l' 11
  part : l.part < l'.part → Raised l l' 14

abbrev pub RaisedChangesItsOwn : Type 0
RaisedChangesItsOwn =
    (s : List ℕ) (l l' : Limits) → AtMost l l'
    → (message_of class_of l s ≡ message_of class_of l' s) ⊎ ((n : ℕ) × (p : ℕ) × Raised l l' n × (message_of class_of l s ≡ refused n p))

-- no limit is below the message's length
pub record OutOfTheWay (s : List ℕ) (l : Limits) : Type 0 where
  pub bytes : length s ≤ l.bytes
  pub levels : length s ≤ l.levels
  pub attributes : length s ≤ l.attributes
  pub part : length s ≤ l.part

abbrev pub OnlyTheRest : Type 0
OnlyTheRest =
    (s : List ℕ) (l : Limits) → OutOfTheWay s l
    → (n p : ℕ) → message_of class_of l s ≡ refused n p → (n ≡ 9) ⊎ ((n ≡ 12) ⊎ (n ≡ 13))
