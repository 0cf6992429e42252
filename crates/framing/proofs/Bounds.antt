-- LAWS for the callers of a call, whatever numbers it is given. `answer_short`: a message has at most as many bytes as the limit allows.
-- `taken_within`: no more bytes are taken than the piece has. Assumes nothing.
use mathlib.Core.Path.{◌≡◌, refl}
use mathlib.Core.Bool.{Bool, true, false}
use mathlib.Core.List.{List, ◌++◌}
use Prim.Native.Nat.{ℕ, ◌-◌, ◌≤◌, zero-le}
use native.Mathlib.Nat.{le_refl}
use native.Mathlib.Omega.{arith}
use lib.ListN.{length, take, length-append, length-take}
use lib.Dec.{leb, eqb}
use borrow.Author.Tests.{leb-true}
use Rattle.std.proofs.lemmas.Bool.{cond_both}
use Rattle.framing.specs.declared.Item.{Item}
use Rattle.std.specs.Prelude.{Option, None, Some}
use Rattle.framing.specs.declared.Cut.{Cut}
use Rattle.framing.proofs.Call.{answered_keeps}
use Rattle.framing.specs.Cutting.{Answer, refusal_of, item_end, cut_over, cut_of, item_of, item_length, answered, answer_of}

item_short : (limit k n : ℕ) → item_length (item_of limit k n) ≤ limit
unfolding item_of
item_short limit k n =
    cond_both (eqb n k) _ _ (λ (i : Item). item_length i ≤ limit) (λ _. zero-le)
    (λ _. cond_both (leb (n - k) limit) _ _ (λ (i : Item). item_length i ≤ limit) (λ e. leb-true _ _ e) (λ _. zero-le))

cut_within : (b p : List ℕ) (m : ℕ) → (cut_of b p m).taken ≤ length p
unfolding cut_of cut_over
cut_within b p m = go (leb (item_end b (take m b ++ p)) (length (take m b ++ p))) refl
  where
    go : (t : Bool) → leb (item_end b (take m b ++ p)) (length (take m b ++ p)) ≡ t → (cut_of b p m).taken ≤ length p
    go true e =
        let w = take m b ++ p in
        rw e (omega (arith, leb-true (item_end b w) (length w) e, length-append (take m b) p, length-take m b))
    go false e = rw e (le_refl (length p))

answered_short : (limit k g : ℕ) (c : Cut) → item_length (answered limit k g c).item ≤ limit
unfolding answered
answered_short limit k g c = go c.matched refl
  where
    go : (t : Option ℕ) → c.matched ≡ t → item_length (answered limit k g c).item ≤ limit
    go None e = rw e (item_short limit k _)
    go (Some j) e = rw e zero-le

module _ (limit : ℕ) (b s p : List ℕ) (g m : ℕ) where
  pub answer_short : item_length (answer_of limit b s p g m).item ≤ limit
  unfolding answer_of
  answer_short =
      cond_both (eqb (refusal_of limit (length b) (length s) g m) 0) _ _ (λ (a : Answer). item_length a.item ≤ limit)
      (λ _. answered_short limit (length b) g (cut_of b p m)) (λ _. zero-le)

  pub taken_within : (answer_of limit b s p g m).taken ≤ length p
  unfolding answer_of
  taken_within =
      cond_both (eqb (refusal_of limit (length b) (length s) g m) 0) _ _ (λ (a : Answer). a.taken ≤ length p)
      (λ _. rw (answered_keeps limit (length b) g (cut_of b p m)).1 (cut_within b p m))
      (λ _. zero-le)
