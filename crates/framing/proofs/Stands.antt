-- Where the boundary stands: blocks that may be passed over, and the first place as the code finds it. Assumes nothing.
use mathlib.Core.Path.{◌≡◌, refl}
use mathlib.Core.Bool.{Bool, true, false, ◌&&◌, ◌||◌}
use mathlib.Core.List.{List}
use Prim.Native.Nat.{ℕ, zero, suc, ◌+◌, ◌-◌, ◌/◌, ◌≤◌, ◌<◌}
use native.Mathlib.Nat.{zero-add, add-zero}
use native.Mathlib.Numerals.{add-one}
use native.Mathlib.Omega.{arith}
use lib.ListN.{length, get_or}
use lib.Dec.{ltb}
use borrow.Author.Tests.{eq-eqb, ltb-true, ltb-false}
use Rattle.std.proofs.lemmas.Bool.{both_ways, false_from_ne_true, or_parts}
use Rattle.laws.specs.Search.{least}
use Rattle.laws.proofs.Search.{least_is, least_none, least_below, least_passes, least_within}
use Rattle.laws.proofs.Same.{each_same}
use Rattle.framing.specs.Standing.{stands_at, first_from, pair_at, some_below, block_places, pair_in, may_stand}

-- ---- blocks

pub none_below : (test : ℕ → Bool) (n : ℕ) → some_below test n ≡ false → (d : ℕ) → d < n → test d ≡ false
unfolding some_below
none_below test zero off d below = absurd (omega arith)
none_below test (suc n) off d below =
    let both = or_parts (some_below test n) (test n) off in
    go both.1 (ltb d n) refl (λ less. none_below test n both.0 d less)
  where
    go : test n ≡ false → (t : Bool) → ltb d n ≡ t → (d < n → test d ≡ false) → test d ≡ false
    go last true l ih = ih (ltb-true d n l)
    go last false l ih =
        let here : d ≡ n = omega (arith, ltb-false d n l) in
        rw here last

-- one number more
pub some_more : (test : ℕ → Bool) (n : ℕ) (t : Bool) → t ≡ some_below test n → (t || test n) ≡ some_below test (n + 1)
unfolding some_below
some_more test n t is = rw (add-one, is)

-- where the boundary stands, every pair of its bytes does
pub pair_stands : (b : List ℕ) (j : ℕ) (p : List ℕ) (i : ℕ) → j < length b → pair_at b j p i ≡ false → stands_at b p i ≡ false
pair_stands b j p i inside off =
    false_from_ne_true _
    (λ h.
    let first : get_or p i 0 ≡ get_or b 0 0 = rw (add-zero i) at (each_same b 0 p i (length b) h 0 (omega arith)) in
    let other : get_or p (i + j) 0 ≡ get_or b j 0 = rw zero-add at (each_same b 0 p i (length b) h j inside) in
    both_ways _ off (rw (eq-eqb (get_or p i 0) (get_or b 0 0) first, eq-eqb (get_or p (i + j) 0) (get_or b j 0) other)))

-- ---- the first place

-- b stands in p at no place from i on and below e
abbrev pub NoneFrom : List ℕ → List ℕ → ℕ → ℕ → Type 0
NoneFrom b p i e = (x : ℕ) → i ≤ x → x < e → stands_at b p x ≡ false

-- r is the first place from i on and below e, or e
pub record First (b p : List ℕ) (i e r : ℕ) : Type 0 where
  pub low : i ≤ r
  pub high : r ≤ e
  pub none : NoneFrom b p i r
  pub there : r < e → stands_at b p r ≡ true

module _ (b p : List ℕ) where
  -- a block in which a pair of the boundary's bytes does not stand
  no_pair : (j i : ℕ) → j < length b → pair_in b j p i ≡ false → NoneFrom b p i (i + block_places)
  no_pair j i inside off x low high =
      let here : i + (x - i) ≡ x = omega arith in
      rw here at (pair_stands b j p (i + (x - i)) inside (none_below (λ d. pair_at b j p (i + d)) block_places off (x - i) (omega arith)))

  pub block_free : (i : ℕ) → 0 < length b → may_stand b p i ≡ false → NoneFrom b p i (i + block_places)
  block_free i some off = go (pair_in b (length b - 1) p i) refl off
    where
      go : (t : Bool) → pair_in b (length b - 1) p i ≡ t → (t && pair_in b (length b / 2) p i) ≡ false → NoneFrom b p i (i + block_places)
      go true e off = no_pair (length b / 2) i (omega arith) off
      go false e off = no_pair (length b - 1) i (omega arith) e

  -- stretches, of which the second begins before the first ends
  pub none_on : (i j k e : ℕ) → k ≤ j → NoneFrom b p i j → NoneFrom b p k e → NoneFrom b p i e
  none_on i j k e over before behind x low high = go (ltb x j) refl
    where
      go : (t : Bool) → ltb x j ≡ t → stands_at b p x ≡ false
      go true l = before x low (ltb-true x j l)
      go false l = behind x (omega (arith, ltb-false x j l)) high

  pub first_is : (i e r : ℕ) → First b p i e r → r ≡ first_from b p i e
  unfolding first_from
  first_is i e r first = go (ltb r e) refl
    where
      reach : i + (r - i) ≡ r
      reach = omega (arith, first.low)

      off : (d : ℕ) → d < r - i → stands_at b p (i + d) ≡ false
      off d below = first.none (i + d) (omega arith) (omega arith)

      go : (t : Bool) → ltb r e ≡ t → r ≡ i + least (λ d. stands_at b p (i + d)) (e - i)
      go true l =
          let on : stands_at b p (i + (r - i)) ≡ true = rw reach (first.there (ltb-true r e l)) in
          let found = least_is (λ d. stands_at b p (i + d)) (e - i) (r - i) (omega (arith, ltb-true r e l, first.low)) on off in
          omega (arith, found, reach)
      go false l =
          let end : r - i ≡ e - i = omega (arith, ltb-false r e l, first.high) in
          let nowhere = least_none (λ d. stands_at b p (i + d)) (e - i) (rw end at off) in
          omega (arith, nowhere, end, reach)

  pub first_nowhere : (i e r : ℕ) → First b p i e r → e ≤ r → NoneFrom b p i e
  first_nowhere i e r first out =
      let end : r ≡ e = omega (arith, first.high) in
      rw end at first.none

  pub first_has : (i e : ℕ) → i ≤ e → First b p i e (first_from b p i e)
  unfolding first_from
  first_has i e order =
      record {
        low = omega arith;
        high = omega (arith, least_within (λ d. stands_at b p (i + d)) (e - i));
        none =
            λ x low high.
            let here : i + (x - i) ≡ x = omega arith in
            rw here at (least_below (λ d. stands_at b p (i + d)) (e - i) (x - i) (omega arith));
        there = λ below. least_passes (λ d. stands_at b p (i + d)) (e - i) (omega arith);
      }
