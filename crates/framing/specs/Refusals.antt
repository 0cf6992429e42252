-- Promise on refusals, over every limit: when a call is refused, in the words of document 01's "Numbers of refusal" and with no test computed,
-- and that a refused call changes nothing. (proofs/Refusals, Unchanged) Assumes nothing.
use Rattle.std.specs.Prelude.{ℕ, ◌+◌, ◌≤◌, ◌<◌, ◌⊎◌, ◌↔◌, ◌≡◌, List}
use Rattle.framing.specs.declared.Item.TheVariants.{NotYet}
use Rattle.framing.specs.Cutting.{refusal_of, answer_of, store_after}

-- nothing is refused
pub record Accepted (limit k n g m : ℕ) : Type 0 where
  pub some : 1 ≤ k
  pub few : k ≤ 16
  pub roomy : limit + 16 ≤ n
  pub below : m < k
  pub within : m ≤ g

-- The refusal that is due for a boundary of k bytes, a store of n places and the held numbers g and m; 0 is none. With the link's
-- limit of 65,520 bytes a store needs 65,536 places.
pub data Due (limit k n g m : ℕ) : ℕ → Type 0 where
  boundary : (k < 1) ⊎ (16 < k) → Due limit k n g m 1
  store : 1 ≤ k → k ≤ 16 → n < limit + 16 → Due limit k n g m 2
  held : 1 ≤ k → k ≤ 16 → limit + 16 ≤ n → (k ≤ m) ⊎ (g < m) → Due limit k n g m 26
  nothing : Accepted limit k n g m → Due limit k n g m 0

-- a call is given the number that is due, and no other
abbrev pub RefusedExactly : Type 0
RefusedExactly = (limit k n g m number : ℕ) → (refusal_of limit k n g m ≡ number) ↔ Due limit k n g m number

-- a call that takes nothing, completes nothing, hands back the numbers that it was given and leaves the store as it was
pub record Unchanged (limit : ℕ) (b s p : List ℕ) (g m : ℕ) : Type 0 where
  pub taken : (answer_of limit b s p g m).taken ≡ 0
  pub item : (answer_of limit b s p g m).item ≡ NotYet
  pub gathered : (answer_of limit b s p g m).gathered ≡ g
  pub matched : (answer_of limit b s p g m).matched ≡ m
  pub store : store_after limit b s p g m ≡ s

abbrev pub RefusedCallChangesNothing : Type 0
RefusedCallChangesNothing =
    (limit : ℕ) (b s p : List ℕ) (g m : ℕ) → ((answer_of limit b s p g m).refusal ≡ 0 → ⊥) → Unchanged limit b s p g m
