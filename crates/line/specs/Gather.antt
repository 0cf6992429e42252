-- What `ali_gather` returns and leaves, for the boundary b, the store s, the piece p, the held numbers g and m, and the answer list a.
-- Assumes nothing.
use Rattle.std.specs.Prelude.{ℕ, cond, List, [], ◌∷◌, length, eqb}
use Rattle.framing.specs.Cutting.{Answer, link_limit, refusal_of, item_number, item_length, answer_of, store_after}
use Rattle.line.specs.Lists.{too_short, written}

-- the refusals in their order: 3, then the framing's own
unfoldable pub gather_refusal : List ℕ → List ℕ → ℕ → ℕ → List ℕ → ℕ
gather_refusal b s g m a = cond (too_short a) 3 (refusal_of link_limit (length b) (length s) g m)

unfoldable pub gather_store : List ℕ → List ℕ → List ℕ → ℕ → ℕ → List ℕ → List ℕ
gather_store b s p g m a = cond (too_short a) s (store_after link_limit b s p g m)

-- an answer's numbers, each at its place
abbrev pub answer_numbers : Answer → List ℕ
answer_numbers r = r.taken ∷ item_number r.item ∷ item_length r.item ∷ r.gathered ∷ r.matched ∷ []

unfoldable pub gather_list : List ℕ → List ℕ → List ℕ → ℕ → ℕ → List ℕ → List ℕ
unfolding gather_refusal
gather_list b s p g m a = cond (eqb (gather_refusal b s g m a) 0) (written (answer_numbers (answer_of link_limit b s p g m)) a) a
