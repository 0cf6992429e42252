-- LAWS on a number that is written in decimal: `places_of_power` counts its digits, and `digits_step` is a turn of the loop that writes them.
-- Assumes nothing.
use mathlib.Core.Path.{◌≡◌, refl, sym, ap, ◌∙◌}
use mathlib.Core.List.{List, [], ◌∷◌, ◌++◌}
use Prim.Native.Nat.{ℕ, zero, suc, ◌+◌, ◌-◌, ◌*◌, ◌/◌, ◌%◌, ◌^◌, ◌≤◌, ◌<◌}
use native.Mathlib.Nat.{pow-suc, pow-le-pow_right, le_of_suc-le-suc, not-suc-le-zero}
use native.Mathlib.Numerals.{add-one, sub-one}
use native.Mathlib.Omega.{arith}
use lib.ListN.{length, take, drop, set, drop_of_length-le}
use lib.Seq.{length-take-le, append_snoc}
use lib.Dec.{ltb}
use Rattle.std.proofs.lemmas.List.{append-nil}
use borrow.Author.Tests.{lt-ltb, le-ltb}
use Rattle.laws.specs.Search.{least}
use Rattle.laws.proofs.Search.{least_is}
use Rattle.texts.specs.Fields.{places, last_digits, decimal}

-- ---- how many digits hold n

-- a power of ten is above its exponent
below_power : (k : ℕ) → k < 10 ^ k
below_power zero = omega arith
below_power (suc k) = let less = below_power k in rw (pow-suc 10 k) (omega arith)

-- one more than the power of ten that n reaches
pub places_of_power : (n power : ℕ) → 10 ^ power ≤ n → n < 10 * 10 ^ power → power + 1 ≡ places n
unfolding places
places_of_power n power reached below =
    let inside : power < n = omega (arith, below_power power) in
    let enough : n < 10 ^ suc power = rw (pow-suc 10 power) (omega arith) in
    add-one power
    ∙ ap suc
    (sym
    (least_is (λ j. ltb n (10 ^ suc j)) n power inside (lt-ltb _ _ enough)
    (λ j before. le-ltb n (10 ^ suc j) (omega (arith, pow-le-pow_right {n = 10} (omega arith) {i = suc j} {j = power} (omega arith))))))

pub places_of_zero : (n : ℕ) → n ≡ 0 → 1 ≡ places n
unfolding places least
places_of_zero n is = rw is

-- ---- a turn that writes a digit

-- after a store at j, the list from j on begins with what was stored
drop-set : (t : List ℕ) (j d : ℕ) → j < length t → drop j (set t j d) ≡ d ∷ drop (suc j) t
drop-set [] j d h = absurd (not-suc-le-zero h)
drop-set (x ∷ xs) zero d h = refl
drop-set (x ∷ xs) (suc j) d h = drop-set xs j d (le_of_suc-le-suc h)

-- at first none is written, and in the end none is left
pub digits_none : (n : ℕ) (out : List ℕ) → last_digits (length out) n ++ drop (length out) out ≡ last_digits (length out) n
digits_none n out = rw (drop_of_length-le out {i = length out} (omega arith)) (append-nil (last_digits (length out) n))

pub digits_all : (i rest : ℕ) (out : List ℕ) → i ≤ 0 → out ≡ last_digits i rest ++ drop i out
digits_all zero rest out none = refl
digits_all (suc i) rest out none = absurd (not-suc-le-zero none)

-- the last of the digits that are still to write comes to the front of those that are written
pub digits_step : (i rest d : ℕ) (out : List ℕ) → 0 < i → i ≤ length out → d ≡ 48 + rest % 10
    → last_digits (i - 1) (rest / 10) ++ drop (i - 1) (set out (i - 1) d) ≡ last_digits i rest ++ drop i out
digits_step zero rest d out some room is = absurd (not-suc-le-zero some)
digits_step (suc j) rest d out some room is =
    let todo = last_digits j (rest / 10) in
    let done = drop (suc j) out in
    ap (λ (m : ℕ). last_digits m (rest / 10) ++ drop m (set out m d)) (sub-one (suc j))
    ∙ ap (λ (l : List ℕ). todo ++ l) (drop-set out j d room)
    ∙ ap (λ (x : ℕ). todo ++ x ∷ done) is
    ∙ sym (append_snoc todo (48 + rest % 10) done)

-- in so many bytes of the room that is made for them, they are the number
pub digits_written : (n count : ℕ) (room w : List ℕ) → count ≡ places n → count ≤ length room → w ≡ last_digits (length (take count room)) n
    → w ≡ decimal n
unfolding decimal
digits_written n count room w counted within written =
    written ∙ ap (λ (k : ℕ). last_digits k n) (length-take-le count room within ∙ counted)
