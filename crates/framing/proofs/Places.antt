-- THEOREM `every_place_right`: after any call that is not refused each place of the store holds its byte of the piece, or what it held before.
-- Assumes nothing.
use mathlib.Core.Path.{◌≡◌, refl, sym, ap, ◌∙◌}
use mathlib.Core.Bool.{Bool, true, false}
use mathlib.Core.List.{List}
use Prim.Native.Nat.{ℕ, ◌+◌, ◌-◌, ◌≤◌, ◌<◌}
use native.Mathlib.Omega.{arith}
use lib.ListN.{length, get_or}
use lib.Seq.{paste, paste-zero, length-paste}
use lib.Dec.{leb}
use borrow.Author.Tests.{leb-true, leb-false}
use Rattle.laws.proofs.Copies.{laid_before, laid_there, laid_behind}
use Rattle.framing.specs.Cutting.{Answer, refusal_of, cut_of, answer_of, kept, store_after}
use Rattle.framing.specs.Refusals.{Accepted}
use Rattle.framing.specs.Promises.{PlaceRight, EveryPlaceRight}
use Rattle.framing.proofs.Refusals.{accepted}
use Rattle.framing.proofs.Call.{Fit, cut_fits, when_taken, answered_keeps}

module _ (limit : ℕ) (b s p : List ℕ) (g m : ℕ) (taken : refusal_of limit (length b) (length s) g m ≡ 0) where
  ok : Accepted limit (length b) (length s) g m
  ok = accepted limit (length b) (length s) g m taken

  abbrev t : ℕ
  t = (cut_of b p m).taken

  abbrev n : ℕ
  n = kept limit (length b) g t

  fit : Fit b p m (cut_of b p m)
  fit = cut_fits b p m ok.below

  taken_is : (answer_of limit b s p g m).taken ≡ t
  taken_is = ap (λ (a : Answer). a.taken) (sym (when_taken limit b s p g m 0 (sym taken) refl).0) ∙ (answered_keeps limit (length b) g (cut_of b p m)).1

  store_is : store_after limit b s p g m ≡ paste s g p n
  store_is = sym (when_taken limit b s p g m 0 (sym taken) refl).1

  -- where the count stands past limit + k nothing is stored
  module _ (past : limit + length b ≤ g) where
    as_it_was : store_after limit b s p g m ≡ s
    as_it_was =
        let nothing : n ≡ 0 = omega arith in
        store_is ∙ rw nothing (sym (paste-zero s g p))

    place_past : (i : ℕ) → PlaceRight limit b s p g m i
    place_past i =
        record {
          written = λ from to below. absurd (omega arith);
          before = λ h. rw as_it_was;
          behind = λ h. rw as_it_was;
          beyond = λ h. rw as_it_was;
        }

  -- else the bytes kept fit the store
  module _ (below : g < limit + length b) where
    room : g + n ≤ length s
    room = omega (arith, ok.few, ok.roomy)

    enough : n ≤ length p
    enough = omega (arith, fit.taken)

    later : (i : ℕ) → g + n ≤ i → get_or (paste s g p n) i 0 ≡ get_or s i 0
    later i behind =
        let split : i ≡ g + n + (i - (g + n)) = omega arith in
        rw split (laid_behind s g p n 0 room enough (i - (g + n)))

    place_below : (i : ℕ) → PlaceRight limit b s p g m i
    place_below i =
        record {
          written =
              λ from to under.
              let split : i ≡ g + (i - g) = omega arith in
              rw store_is
              (ap (λ (j : ℕ). get_or (paste s g p n) j 0) split ∙ laid_there s g p n 0 room enough (i - g) (omega (arith, taken_is)));
          before = λ h. rw store_is (laid_before s g p n 0 room enough i h);
          behind = λ h. rw store_is (later i (omega (arith, taken_is)));
          beyond = λ h. rw store_is (later i (omega arith));
        }

pub every_place_right : EveryPlaceRight
every_place_right limit b s p g m taken = go (leb (limit + length b) g) refl
  where
    go : (r : Bool) → leb (limit + length b) g ≡ r → (length (store_after limit b s p g m) ≡ length s) × ((i : ℕ) → PlaceRight limit b s p g m i)
    go true e =
        let past = leb-true (limit + length b) g e in
        (ap length (as_it_was limit b s p g m taken past), place_past limit b s p g m taken past)
    go false e =
        let below = leb-false (limit + length b) g e in
        (rw (store_is limit b s p g m taken) (length-paste s g p _ (room limit b s p g m taken below) (enough limit b s p g m taken below)), place_below limit b s p g m taken below)
