-- Promise on the refusals of the calls from C: when a call is refused, and that it writes nothing then. (proofs/GatherRefusals, ReadRefusals) Assumes nothing.
use Rattle.std.specs.Prelude.{ℕ, ◌≤◌, ◌<◌, ◌≡◌, ◌↔◌, List, length}
use Rattle.framing.specs.Refusals.{Due}
use Rattle.line.specs.Gather.{gather_refusal, gather_store, gather_list}
use Rattle.line.specs.Read.{read_return, read_list}

-- `ali_gather`: 3 before all else, and then what the framing refuses
pub data DueForC (b s : List ℕ) (g m : ℕ) (a : List ℕ) : ℕ → Type 0 where
  list : length a < 40 → DueForC b s g m a 3
  framing : {number : ℕ} → 40 ≤ length a → Due 65520 (length b) (length s) g m number → DueForC b s g m a number

-- it returns the number that is due, and no other
abbrev pub GatherRefusedExactly : Type 0
GatherRefusedExactly = (b s : List ℕ) (g m : ℕ) (a : List ℕ) (number : ℕ) → (gather_refusal b s g m a ≡ number) ↔ DueForC b s g m a number

abbrev pub GatherRefusedWritesNothing : Type 0
GatherRefusedWritesNothing =
    (b s p : List ℕ) (g m : ℕ) (a : List ℕ) → (gather_refusal b s g m a ≡ 0 → ⊥)
    → (gather_store b s p g m a ≡ s) × (gather_list b s p g m a ≡ a)

-- `ali_read`: 3 alone
pub data DueForRead (a : List ℕ) : ℕ → Type 0 where
  short : length a < 40 → DueForRead a 3
  enough : 40 ≤ length a → DueForRead a 0

abbrev pub ReadRefusedExactly : Type 0
ReadRefusedExactly = (a : List ℕ) (number : ℕ) → (read_return a ≡ number) ↔ DueForRead a number

abbrev pub ReadRefusedWritesNothing : Type 0
ReadRefusedWritesNothing = (s a : List ℕ) → (read_return a ≡ 0 → ⊥) → read_list s a ≡ a
