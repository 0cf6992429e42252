-- THEOREMS on the refusals of `ali_gather`. `gather_refused_writes_nothing`: a refused call leaves the store and the answer list as they were.
-- `gather_refused_exactly`: a number of refusal, or 0, is returned exactly when it is due. Assumes nothing.
use mathlib.Core.Path.{◌≡◌, refl, sym, ◌∙◌, subst}
use mathlib.Core.Bool.{Bool, true, false, cond}
use Prim.Native.Nat.{ℕ}
use lib.ListN.{length}
use borrow.Author.Tests.{ltb-true, ltb-false, lt-ltb, le-ltb, ne_eqb}
use Rattle.framing.specs.Cutting.{link_limit, refusal_of}
use Rattle.framing.proofs.Refusals.{is_due, due_is}
use Rattle.framing.proofs.Unchanged.{answer_refusal, refused_call_changes_nothing}
use Rattle.line.specs.Lists.{too_short}
use Rattle.line.specs.Gather.{gather_refusal, gather_store, gather_list}
use Rattle.line.specs.Refusals.{DueForC, list, framing, GatherRefusedExactly, GatherRefusedWritesNothing}

pub gather_refused_writes_nothing : GatherRefusedWritesNothing
unfolding gather_refusal gather_store gather_list
gather_refused_writes_nothing b s p g m a refused = (go (too_short a) refl, rw (ne_eqb (gather_refusal b s g m a) 0 refused))
  where
    go : (t : Bool) → too_short a ≡ t → gather_store b s p g m a ≡ s
    go true e = rw e
    go false e =
        rw e
        (refused_call_changes_nothing link_limit b s p g m
        (λ none. refused (rw e (sym (answer_refusal link_limit b s p g m) ∙ none)))).store

pub gather_refused_exactly : GatherRefusedExactly
unfolding gather_refusal
gather_refused_exactly b s g m a number = (λ is. subst (DueForC b s g m a) is (due (too_short a) refl), given number)
  where
    due : (t : Bool) → too_short a ≡ t → DueForC b s g m a (cond t 3 (refusal_of link_limit (length b) (length s) g m))
    due true e = list (ltb-true (length a) 40 e)
    due false e = framing (ltb-false (length a) 40 e) (is_due link_limit (length b) (length s) g m)

    given : (number : ℕ) → DueForC b s g m a number → cond (too_short a) 3 (refusal_of link_limit (length b) (length s) g m) ≡ number
    given _ (list short) = rw (lt-ltb (length a) 40 short)
    given _ (framing {number = number} long is) = rw (le-ltb (length a) 40 long) (due_is link_limit (length b) (length s) g m number is)
