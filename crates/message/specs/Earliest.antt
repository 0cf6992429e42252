-- Promise 4, the earliest place wins: the answer is the first refusal that is due; at one place 9 goes first, then 11, then 14; 8 before all else, 13 after all
-- else. (proofs/Earliest) Assumes nothing.
use Rattle.std.specs.Prelude.{ℕ, ◌<◌, ◌≤◌, ◌≡◌, ◌⊎◌, cond, List, length, eqb}
use Rattle.message.specs.Class.{class_of}
use Rattle.message.specs.Reading.{Reading}
use Rattle.message.specs.Reading.Reading.{whole, refused}
use Rattle.message.specs.Limits.{link_limits}
use Rattle.message.specs.Messages.{message_of}
use Rattle.message.specs.Due.{Due}
use Rattle.message.specs.declared.Message.{Message}

-- the order of refusals at one place; 10 and 12 stand where no other does
abbrev pub rank : ℕ → ℕ
rank n = cond (eqb n 9) 0 (cond (eqb n 11) 1 (cond (eqb n 14) 2 (cond (eqb n 10) 3 4)))

-- it is due, and nothing is due before it
pub record FirstDue (s : List ℕ) (n p : ℕ) : Type 0 where
  pub due : Due s n p
  pub least : (n' p' : ℕ) → Due s n' p' → (p < p') ⊎ ((p ≡ p') × (rank n ≤ rank n'))

abbrev pub NoneDue : List ℕ → Type 0
NoneDue s = (n p : ℕ) → Due s n p → ⊥

-- the link's answer to a message
abbrev pub answer : List ℕ → Reading Message
answer s = message_of class_of link_limits s

pub record Answered (s : List ℕ) : Type 0 where
  -- 8 comes before all else
  pub too_long : 65520 < length s → answer s ≡ refused 8 0
  -- what is first due is the answer, and what is refused is first due, or 13
  pub due_first : length s ≤ 65520 → (n p : ℕ) → FirstDue s n p → answer s ≡ refused n p
  pub refused_first : length s ≤ 65520 → (n p : ℕ) → answer s ≡ refused n p → ((n ≡ 13) × (p ≡ 0) × NoneDue s) ⊎ FirstDue s n p
  -- none is due exactly if the message is read or is 13
  pub none_due : length s ≤ 65520 → NoneDue s → ((m : Message) × (answer s ≡ whole m)) ⊎ (answer s ≡ refused 13 0)
  pub read_free : (m : Message) → answer s ≡ whole m → (length s ≤ 65520) × NoneDue s

abbrev pub EarliestWins : Type 0
EarliestWins = (s : List ℕ) → Answered s
