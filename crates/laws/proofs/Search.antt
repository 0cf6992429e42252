-- The first and the last number that pass a test: what is found is determined by its properties, and has them. Assumes nothing.
use mathlib.Core.Path.{◌≡◌, refl, sym, ap}
use mathlib.Core.Bool.{Bool, true, false, cond}
use Prim.Native.Nat.{ℕ, zero, suc, ◌+◌, ◌≤◌, ◌<◌, suc-le-suc, zero-le}
use native.Mathlib.Nat.{le_of_suc-le-suc, zero-add, suc-add}
use native.Mathlib.Omega.{arith}
use lib.Dec.{ltb}
use borrow.Author.Tests.{ltb-true, ltb-false}
use Rattle.std.proofs.lemmas.Bool.{both_ways}
use Rattle.laws.specs.Search.{least, greatest}

pub least_is : (test : ℕ → Bool) (n r : ℕ) → r < n → test r ≡ true → ((j : ℕ) → j < r → test j ≡ false) → least test n ≡ r
unfolding least
least_is test zero r h p q = absurd (omega arith)
least_is test (suc n) zero h p q = rw p
least_is test (suc n) (suc r) h p q =
    rw (q zero (suc-le-suc zero-le)) (ap suc (least_is (λ e. test (suc e)) n r (le_of_suc-le-suc h) p (λ j a. q (suc j) (suc-le-suc a))))

pub least_none : (test : ℕ → Bool) (n : ℕ) → ((j : ℕ) → j < n → test j ≡ false) → least test n ≡ n
unfolding least
least_none test zero q = refl
least_none test (suc n) q = rw (q zero (suc-le-suc zero-le)) (ap suc (least_none (λ e. test (suc e)) n (λ j a. q (suc j) (suc-le-suc a))))

pub least_same : (f g : ℕ → Bool) (n : ℕ) → ((j : ℕ) → j < n → f j ≡ g j) → least f n ≡ least g n
unfolding least
least_same f g zero h = refl
least_same f g (suc n) h =
    rw (h zero (suc-le-suc zero-le), least_same (λ e. f (suc e)) (λ e. g (suc e)) n (λ j a. h (suc j) (suc-le-suc a)))

-- numbers that do not pass may be passed over
pub least_skip : (f : ℕ → Bool) (a n : ℕ) → ((j : ℕ) → j < a → f j ≡ false) → least f (a + n) ≡ a + least (λ i. f (a + i)) n
unfolding least
least_skip f zero n h = simp zero-add
least_skip f (suc a) n h = simp suc-add (rw (h zero (suc-le-suc zero-le)) (ap suc (least_skip (λ e. f (suc e)) a n (λ j l. h (suc j) (suc-le-suc l)))))

-- what is found is no more than the bound
pub least_within : (test : ℕ → Bool) (n : ℕ) → least test n ≤ n
unfolding least
least_within test zero = zero-le
least_within test (suc n) = go (test zero) (least_within (λ e. test (suc e)) n)
  where
    go : (t : Bool) → least (λ e. test (suc e)) n ≤ n → cond t zero (suc (least (λ e. test (suc e)) n)) ≤ suc n
    go true ih = zero-le
    go false ih = suc-le-suc ih

-- nothing below what is found passes
pub least_below : (test : ℕ → Bool) (n j : ℕ) → j < least test n → test j ≡ false
unfolding least
least_below test zero j h = absurd (omega arith)
least_below test (suc n) j h = go (test zero) refl j h (least_below (λ e. test (suc e)) n)
  where
    go : (t : Bool) → test zero ≡ t → (j : ℕ) → j < cond t zero (suc (least (λ e. test (suc e)) n))
        → ((i : ℕ) → i < least (λ e. test (suc e)) n → test (suc i) ≡ false) → test j ≡ false
    go true e j h ih = absurd (omega arith)
    go false e zero h ih = e
    go false e (suc j) h ih = ih j (le_of_suc-le-suc h)

-- what is found below n passes
pub least_passes : (test : ℕ → Bool) (n : ℕ) → least test n < n → test (least test n) ≡ true
unfolding least
least_passes test zero h = absurd (omega arith)
least_passes test (suc n) h = go (test zero) refl h (least_passes (λ e. test (suc e)) n)
  where
    go : (t : Bool) → test zero ≡ t → cond t zero (suc (least (λ e. test (suc e)) n)) < suc n
        → (least (λ e. test (suc e)) n < n → test (suc (least (λ e. test (suc e)) n)) ≡ true)
        → test (cond t zero (suc (least (λ e. test (suc e)) n))) ≡ true
    go true e h ih = e
    go false e h ih = ih (le_of_suc-le-suc h)

pub greatest_is : (test : ℕ → Bool) (n r : ℕ) → r < n → test r ≡ true → ((j : ℕ) → r < j → j < n → test j ≡ false) → greatest test n ≡ r
unfolding greatest
greatest_is test zero r h p q = absurd (omega arith)
greatest_is test (suc n) r h p q = go (ltb r n) refl (λ below. greatest_is test n r below p (λ j a b. q j a (omega arith)))
  where
    go : (t : Bool) → ltb r n ≡ t → (r < n → greatest test n ≡ r) → cond (test n) n (greatest test n) ≡ r
    go true e ih = let below = ltb-true r n e in rw (q n below (omega arith)) (ih below)
    go false e ih =
        let same : r ≡ n = omega (arith, ltb-false r n e) in
        let passes : test n ≡ true = rw same at p in
        rw passes (sym same)

pub greatest_same : (p q : ℕ → Bool) (n : ℕ) → ((j : ℕ) → j < n → p j ≡ q j) → greatest p n ≡ greatest q n
unfolding greatest
greatest_same p q zero h = refl
greatest_same p q (suc n) h = rw (h n (omega arith), greatest_same p q n (λ j a. h j (omega arith)))

pub greatest_passes : (test : ℕ → Bool) (n : ℕ) → test zero ≡ true → test (greatest test n) ≡ true
unfolding greatest
greatest_passes test zero h = h
greatest_passes test (suc n) h = go (test n) refl (greatest_passes test n h)
  where
    go : (t : Bool) → test n ≡ t → test (greatest test n) ≡ true → test (cond t n (greatest test n)) ≡ true
    go true e ih = e
    go false e ih = ih

pub greatest_below : (test : ℕ → Bool) (n : ℕ) → zero < n → greatest test n < n
unfolding greatest
greatest_below test zero h = h
greatest_below test (suc zero) h = go (test zero)
  where
    go : (t : Bool) → cond t zero zero < suc zero
    go true = h
    go false = h
greatest_below test (suc (suc n)) h = go (test (suc n)) (greatest_below test (suc n) (suc-le-suc zero-le))
  where
    go : (t : Bool) → greatest test (suc n) < suc n → cond t (suc n) (greatest test (suc n)) < suc (suc n)
    go true ih = omega arith
    go false ih = omega arith

-- nothing above it passes
pub greatest_above : (test : ℕ → Bool) (n j : ℕ) → j < n → test j ≡ true → j ≤ greatest test n
unfolding greatest
greatest_above test zero j h p = absurd (omega arith)
greatest_above test (suc n) j h p = go (test n) refl (λ below. greatest_above test n j below p)
  where
    go : (t : Bool) → test n ≡ t → (j < n → j ≤ greatest test n) → j ≤ cond t n (greatest test n)
    go true e ih = omega arith
    go false e ih = ih (other (ltb j n) refl)
      where
        other : (t : Bool) → ltb j n ≡ t → j < n
        other true l = ltb-true j n l
        other false l =
            let same : j ≡ n = omega (arith, ltb-false j n l) in
            absurd (both_ways _ e (rw same at p))

-- where the greatest below n + 1 is not n, it is the greatest below n
pub greatest_less : (test : ℕ → Bool) (n r : ℕ) → r ≡ greatest test (suc n) → (r ≡ n → ⊥) → (test n ≡ false) × (greatest test n ≡ r)
unfolding greatest
greatest_less test n r e other = go (test n) refl e
  where
    go : (t : Bool) → test n ≡ t → r ≡ cond t n (greatest test n) → (test n ≡ false) × (greatest test n ≡ r)
    go true p q = absurd (other q)
    go false p q = (p, sym q)
