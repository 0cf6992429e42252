-- THEOREM `refused_exactly`: a number of refusal, or 0, is given exactly when it is due. Assumes nothing.
use mathlib.Core.Path.{◌≡◌, refl, subst}
use mathlib.Core.Logic.{inl, inr}
use mathlib.Core.Bool.{Bool, true, false, cond, ◌||◌}
use Prim.Native.Nat.{ℕ, ◌+◌}
use native.Mathlib.Omega.{arith}
use lib.Dec.{ltb, leb}
use borrow.Author.Tests.{ltb-true, ltb-false, leb-true, leb-false, lt-ltb, le-ltb, le-leb, lt-leb}
use Rattle.framing.specs.Cutting.{most_boundary, refusal_of}
use Rattle.framing.specs.Refusals.{Accepted, Due, boundary, store, held, nothing, RefusedExactly}

module _ (limit k n g m : ℕ) where
  -- what is given is due
  pub is_due : Due limit k n g m (refusal_of limit k n g m)
  unfolding refusal_of
  is_due = go (ltb k 1) refl (ltb most_boundary k) refl (ltb n (limit + most_boundary)) refl (leb k m) refl (ltb g m) refl
    where
      go : (t : Bool) → ltb k 1 ≡ t → (u : Bool) → ltb most_boundary k ≡ u → (v : Bool) → ltb n (limit + most_boundary) ≡ v → (w : Bool) → leb k m ≡ w
          → (x : Bool) → ltb g m ≡ x → Due limit k n g m (cond (t || u) 1 (cond v 2 (cond (w || x) 26 0)))
      go true none u _ v _ w _ x _ = boundary (inl (ltb-true _ _ none))
      go false _ true many v _ w _ x _ = boundary (inr (ltb-true _ _ many))
      go false some false few true short w _ x _ = store (ltb-false _ _ some) (ltb-false _ _ few) (ltb-true _ _ short)
      go false some false few false roomy true high x _ =
          held (ltb-false _ _ some) (ltb-false _ _ few) (ltb-false _ _ roomy) (inl (leb-true _ _ high))
      go false some false few false roomy false _ true above =
          held (ltb-false _ _ some) (ltb-false _ _ few) (ltb-false _ _ roomy) (inr (ltb-true _ _ above))
      go false some false few false roomy false below false within =
          nothing
          (record {
            some = ltb-false _ _ some;
            few = ltb-false _ _ few;
            roomy = ltb-false _ _ roomy;
            below = leb-false _ _ below;
            within = ltb-false _ _ within;
          })

  -- nothing else is due
  pub due_is : (number : ℕ) → Due limit k n g m number → refusal_of limit k n g m ≡ number
  unfolding refusal_of
  due_is _ (boundary (inl none)) = rw (lt-ltb k 1 none)
  due_is _ (boundary (inr many)) = go (ltb k 1)
    where
      go : (t : Bool) → ◌≡◌ {A = ℕ} (cond (t || ltb most_boundary k) 1 (cond (ltb n (limit + most_boundary)) 2 (cond (leb k m || ltb g m) 26 0))) 1
      go true = refl
      go false = rw (lt-ltb most_boundary k many)
  due_is _ (store some few short) = rw (le-ltb k 1 some, le-ltb most_boundary k few, lt-ltb n (limit + most_boundary) short)
  due_is _ (held some few roomy (inl high)) =
      rw (le-ltb k 1 some, le-ltb most_boundary k few, le-ltb n (limit + most_boundary) roomy, le-leb k m high)
  due_is _ (held some few roomy (inr above)) = rw (le-ltb k 1 some, le-ltb most_boundary k few, le-ltb n (limit + most_boundary) roomy) (go (leb k m))
    where
      go : (t : Bool) → ◌≡◌ {A = ℕ} (cond (t || ltb g m) 26 0) 26
      go true = refl
      go false = rw (lt-ltb g m above)
  due_is _ (nothing a) =
      rw (
        le-ltb k 1 a.some,
        le-ltb most_boundary k a.few,
        le-ltb n (limit + most_boundary) a.roomy,
        lt-leb k m a.below,
        le-ltb g m a.within,
      )

pub refused_exactly : RefusedExactly
refused_exactly limit k n g m number = (λ is. subst (Due limit k n g m) is (is_due limit k n g m), due_is limit k n g m number)

-- a call that is not refused is lent what it needs, and holds numbers that fit
pub accepted : (limit k n g m : ℕ) → refusal_of limit k n g m ≡ 0 → Accepted limit k n g m
accepted limit k n g m none = fits 0 ((refused_exactly limit k n g m 0).0 none) refl
  where
    fits : (number : ℕ) → Due limit k n g m number → number ≡ 0 → Accepted limit k n g m
    fits _ (boundary _) e = absurd (omega arith)
    fits _ (store _ _ _) e = absurd (omega arith)
    fits _ (held _ _ _ _) e = absurd (omega arith)
    fits _ (nothing a) e = a
