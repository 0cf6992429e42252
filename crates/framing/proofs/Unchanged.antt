-- THEOREM `refused_call_changes_nothing`: a refused call takes no byte, hands back the numbers that it was given, and leaves the store as it was.
-- Assumes nothing.
use mathlib.Core.Path.{◌≡◌, refl, sym, ◌∙◌}
use mathlib.Core.Bool.{Bool, true, false, cond}
use mathlib.Core.List.{List}
use Prim.Native.Nat.{ℕ}
use lib.ListN.{length}
use lib.Dec.{eqb}
use borrow.Author.Tests.{eqb-true, ne_eqb}
use Rattle.framing.specs.Cutting.{refusal_of, refused_with, answered, cut_of, answer_of, store_after}
use Rattle.framing.specs.Refusals.{RefusedCallChangesNothing}
use Rattle.framing.proofs.Call.{answered_keeps}

-- the answer's refusal is the call's
pub answer_refusal : (limit : ℕ) (b s p : List ℕ) (g m : ℕ) → (answer_of limit b s p g m).refusal ≡ refusal_of limit (length b) (length s) g m
unfolding answer_of
answer_refusal limit b s p g m = go (eqb number 0) refl
  where
    number : ℕ
    number = refusal_of limit (length b) (length s) g m

    go : (t : Bool) → eqb number 0 ≡ t → (cond t (answered limit (length b) g (cut_of b p m)) (refused_with number g m)).refusal ≡ number
    go true e = (answered_keeps limit (length b) g (cut_of b p m)).0 ∙ sym (eqb-true number 0 e)
    go false e = refl

pub refused_call_changes_nothing : RefusedCallChangesNothing
unfolding answer_of store_after
refused_call_changes_nothing limit b s p g m refused =
    let off : eqb (refusal_of limit (length b) (length s) g m) 0 ≡ false = ne_eqb _ 0 (λ none. refused (answer_refusal limit b s p g m ∙ none)) in
    record { taken = rw off; item = rw off; gathered = rw off; matched = rw off; store = rw off }
