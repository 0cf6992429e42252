-- One call: what holds of every cut of a piece, and which case of the answer and of the store a call is that is not refused. Assumes nothing.
use mathlib.Core.Path.{◌≡◌, refl, sym}
use mathlib.Core.Bool.{Bool, true, false, cond}
use mathlib.Core.List.{List, ◌++◌}
use Prim.Native.Nat.{ℕ, suc, ◌+◌, ◌-◌, ◌≤◌, ◌<◌}
use native.Mathlib.Omega.{arith}
use lib.ListN.{length, take, length-append, length-take}
use lib.Seq.{paste}
use lib.Dec.{leb}
use borrow.Author.Tests.{leb-true, eq-eqb}
use Rattle.laws.specs.Bytes.{ends_with}
use Rattle.std.specs.Prelude.{Option, None, Some, IfSome}
use Rattle.std.proofs.lemmas.Option.{none-some}
use Rattle.laws.proofs.Search.{least_passes}
use Rattle.laws.proofs.Tails.{ends_shorter, ends_of_test}
use Rattle.framing.specs.declared.Cut.{Cut}
use Rattle.framing.specs.Cutting.{item_end, longest_match, cut_over, cut_of, refusal_of, answered, answer_of, kept, store_after}
use Rattle.framing.proofs.Matcher.{longest_ends, longest_below}

-- No more is taken than there is, an item is no shorter than the boundary, and where none ends less than a boundary is matched, and no more
-- than what was matched and taken.
pub record Fit (b p : List ℕ) (m : ℕ) (c : Cut) : Type 0 where
  pub taken : c.taken ≤ length p
  pub whole : c.matched ≡ None → length b ≤ m + c.taken
  pub held : IfSome c.matched (λ j. (j < length b) × (j ≤ m + c.taken))

pub cut_fits : (b p : List ℕ) (m : ℕ) → m < length b → Fit b p m (cut_of b p m)
unfolding cut_of cut_over item_end
cut_fits b p m held = go (leb (item_end b w) (length w)) refl
  where
    w : List ℕ
    w = take m b ++ p

    size : length w ≡ m + length p
    size = omega (arith, length-append (take m b) p, length-take m b)

    go : (t : Bool) → leb (item_end b w) (length w) ≡ t
        → Fit b p m
        (cond t
        (record { taken = item_end b w - m; matched = None })
        (record { taken = length p; matched = Some (longest_match (length b) b w) }))
    go true e =
        let inside = leb-true (item_end b w) (length w) e in
        let ends = least_passes (λ e. ends_with b (take e w)) (suc (length w)) (omega arith) in
        let long = ends_shorter b (take (item_end b w) w) (ends_of_test b (take (item_end b w) w) ends) in
        record { taken = omega (arith, size); whole = λ d. omega (arith, length-take (item_end b w) w); held = tt }
    go false e =
        let low = longest_below (length b) b w (omega arith) in
        record {
          taken = omega arith;
          whole = λ d. absurd (none-some _ (sym d));
          held = (low, omega (arith, size, ends_shorter _ w (longest_ends (length b) b w), length-take (longest_match (length b) b w) b));
        }

-- an answer to a cut is no refusal, and takes what the cut does
pub answered_keeps : (limit k g : ℕ) (c : Cut) → ((answered limit k g c).refusal ≡ 0) × ((answered limit k g c).taken ≡ c.taken)
unfolding answered
answered_keeps limit k g c = go c.matched refl
  where
    go : (t : Option ℕ) → c.matched ≡ t → ((answered limit k g c).refusal ≡ 0) × ((answered limit k g c).taken ≡ c.taken)
    go None e = (rw e, rw e)
    go (Some j) e = (rw e, rw e)

module _ (limit : ℕ) (b s p : List ℕ) (g m number : ℕ) (is : number ≡ refusal_of limit (length b) (length s) g m) where
  pub when_taken : number ≡ 0
      → (answered limit (length b) g (cut_of b p m) ≡ answer_of limit b s p g m)
      × (paste s g p (kept limit (length b) g (cut_of b p m).taken) ≡ store_after limit b s p g m)
  unfolding answer_of store_after
  when_taken none = (rw (← is, eq-eqb number 0 none), rw (← is, eq-eqb number 0 none))
