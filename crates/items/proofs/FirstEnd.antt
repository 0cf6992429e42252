-- The first LF of the input. `first_lf` is the search for it; `end_of_start` shows that the
-- first 17 bytes decide. Assumes nothing.
use mathlib.Core.Path.{◌≡◌, refl, sym, ap}
use Rattle.std.specs.Prelude.{Some, None}
use Rattle.std.specs.Option.{unwrap_or}
use Rattle.std.specs.List.{position, position_or_len}
use mathlib.Core.Bool.{Bool, true, false, cond, not, ◌||◌}
use mathlib.Core.List.{List, [], ◌∷◌}
use Prim.Native.Nat.{ℕ, zero, suc, ◌+◌, ◌≤◌, ◌<◌}
use Prim.Native.Nat.compare
use native.Mathlib.Numerals.{one-add}
use native.Mathlib.Omega.{arith}
use lib.ListN.{length, take, get_or, get_or-eq_default}
use lib.Seq.{get_or-take}
use lib.Dec.{eqb, ltb}
use borrow.Author.Tests.{lt-ltb, ltb-true, ltb-false}
use Rattle.std.proofs.lemmas.Bool.{both_ways}
use Rattle.laws.proofs.Search.{least_none, least_same, least_passes}
use Rattle.laws.specs.Search.{least}
use Rattle.items.specs.Listing.{boundary_end, refused_end}
use Rattle.items.specs.Whole.{EndOfStart}

-- the place of the first LF among the first n bytes, and n where there is none
pub first_lf : (input : List ℕ) (n : ℕ) → unwrap_or (position (λ b. eqb b 10) (take n input)) n ≡ least (λ i. eqb (get_or input i 0) 10) n
unfolding least
first_lf input zero = refl
first_lf [] (suc n) = sym (least_none (λ i. eqb (get_or [] i 0) 10) (suc n) (λ j few. refl))
first_lf (x ∷ input) (suc n) = go (eqb x 10) (first_lf input n)
  where
    before : ℕ
    before = position_or_len (λ b. eqb b 10) (take n input)

    found : ℕ
    found = least (λ i. eqb (get_or input i 0) 10) n

    next : (t : Bool) → unwrap_or (cond t (Some before) None) n ≡ found → unwrap_or (cond t (Some (suc before)) None) (suc n) ≡ suc found
    next true is = ap suc is
    next false is = ap suc is

    go : (t : Bool) → unwrap_or (position (λ b. eqb b 10) (take n input)) n ≡ found
        → unwrap_or (cond (ltb (cond (not t) (1 + before) 0) (suc (length (take n input)))) (Some (cond (not t) (1 + before) 0)) None) (suc n)
        ≡ cond t zero (suc found)
    go true is = rw (lt-ltb 0 (suc (length (take n input))) (omega arith))
    go false is = rw (one-add before, compare.suc-suc) (next (ltb before (length (take n input))) is)

pub end_of_start : EndOfStart
unfolding boundary_end
end_of_start input =
    least_same (λ k. eqb (get_or (take 17 input) k 0) 10) (λ k. eqb (get_or input k 0) 10) 17
    (λ j few. ap (λ (x : ℕ). eqb x 10) (get_or-take 17 input j 0 few))

-- a boundary that is not refused has 1 to 16 bytes
pub accepted_end : (input : List ℕ) → refused_end (boundary_end input) ≡ false → (1 ≤ boundary_end input) × (boundary_end input ≤ 16)
accepted_end input not-refused = go (ltb (boundary_end input) 1) refl (ltb 16 (boundary_end input)) refl not-refused
  where
    go : (t : Bool) → ltb (boundary_end input) 1 ≡ t → (u : Bool) → ltb 16 (boundary_end input) ≡ u → (t || u) ≡ false
        → (1 ≤ boundary_end input) × (boundary_end input ≤ 16)
    go true e u f g = absurd (both_ways _ g refl)
    go false e true f g = absurd (both_ways _ g refl)
    go false e false f g = (ltb-false (boundary_end input) 1 e, ltb-false 16 (boundary_end input) f)

-- and stands in the input with its LF
pub end_found : (input : List ℕ) → (1 ≤ boundary_end input) × (boundary_end input ≤ 16) → boundary_end input < length input
unfolding boundary_end
end_found input fits = go (ltb (boundary_end input) (length input)) refl
  where
    there : eqb (get_or input (boundary_end input) 0) 10 ≡ true
    there = least_passes (λ k. eqb (get_or input k 0) 10) 17 (omega (arith, fits.1))

    go : (t : Bool) → ltb (boundary_end input) (length input) ≡ t → boundary_end input < length input
    go true e = ltb-true (boundary_end input) (length input) e
    go false e =
        let nothing = get_or-eq_default input 0 {n = boundary_end input} (ltb-false (boundary_end input) (length input) e) in
        absurd (both_ways _ (ap (λ (x : ℕ). eqb x 10) nothing) there)
