-- Two cases of a call of `ali_gather`, for its proof: a list that is too short, and a call that the framing answers.
-- Assumes nothing.
use mathlib.Core.Path.{◌≡◌, sym, ap, ◌∙◌}
use mathlib.Core.Bool.{true, false}
use mathlib.Core.List.{List}
use Prim.Native.Nat.{ℕ}
use lib.ListN.{length}
use borrow.Author.Tests.{eq-eqb}
use Rattle.framing.specs.Cutting.{Answer, link_limit, refusal_of, answer_of, store_after}
use Rattle.framing.proofs.Unchanged.{answer_refusal}
use Rattle.line.specs.Lists.{too_short, written}
use Rattle.line.specs.Gather.{gather_refusal, gather_store, answer_numbers, gather_list}

module _ (b s p : List ℕ) (g m : ℕ) (a : List ℕ) where
  pub list_short : too_short a ≡ true → (3 ≡ gather_refusal b s g m a) × ((s ≡ gather_store b s p g m a) × (a ≡ gather_list b s p g m a))
  unfolding gather_refusal gather_store gather_list
  list_short t = (rw t, (rw t, rw t))

  -- past the list's length the framing decides: r is its answer and s' the store that it leaves
  module _ (t : too_short a ≡ false) (r : Answer) (is : r ≡ answer_of link_limit b s p g m) (s' : List ℕ) (left : s' ≡ store_after link_limit b s p g m) where
    refusal_is : r.refusal ≡ refusal_of link_limit (length b) (length s) g m
    refusal_is = ap (λ (x : Answer). x.refusal) is ∙ answer_refusal link_limit b s p g m

    pub call_answered : r.refusal ≡ 0
        → (0 ≡ gather_refusal b s g m a) × ((s' ≡ gather_store b s p g m a) × (written (answer_numbers r) a ≡ gather_list b s p g m a))
    unfolding gather_refusal gather_store gather_list
    call_answered none =
        (rw t (sym none ∙ refusal_is), (rw t left, rw (t, ← refusal_is, eq-eqb r.refusal 0 none, ← is)))
