-- LAWS on fields and on numbers in decimal: `put_room` says what is written of a field that has room, `Holds` what a line holds that is written
-- field by field, and `decimal_within_20` bounds the digits of a number below 2^64. Assumes nothing.
use mathlib.Core.Path.{◌≡◌, refl, sym, ap, ◌∙◌}
use mathlib.Core.Bool.{Bool, true, false}
use mathlib.Core.List.{List, [], ◌∷◌, ◌++◌}
use Prim.Native.Nat.{ℕ, zero, suc, ◌+◌, ◌/◌, ◌%◌, ◌^◌, ◌≤◌, ◌<◌}
use native.Mathlib.Omega.{arith}
use lib.ListN.{length, take, set, length-append}
use lib.Seq.{paste, length-paste, take-paste, take-length}
use lib.Dec.{ltb, leb}
use borrow.Author.Tests.{lt-ltb, le-leb, leb-true, leb-false}
use borrow.Rule.Slice.PartMut.{put_mid}
use Rattle.std.proofs.lemmas.List.{append_assoc, take_more_set}
use Rattle.std.proofs.lemmas.Slice.{put_mid-paste}
use Rattle.std.proofs.lemmas.Bool.{both_ways}
use Rattle.laws.specs.Search.{least}
use Rattle.laws.proofs.Search.{least_below}
use Rattle.texts.specs.Fields.{field, places, last_digits, decimal, put_in}

-- ---- a field behind a line

module _ (most : ℕ) (line w : List ℕ) where
  pub put_room : length line + length w ≤ most → put_in most line w ≡ line ++ w
  put_room room = rw (le-leb (length line + length w) most room)

-- a text that is copied to a line's bytes, and the byte that is set behind it
pub put_behind : (bytes copied text : List ℕ) (at k behind : ℕ) → copied ≡ text → k ≡ length text → at + length text < length bytes
    → take (at + length text + 1) (set (put_mid at k bytes copied) (at + length text) behind) ≡ take at bytes ++ field text behind
put_behind bytes copied text at k behind is long room =
    let n = length text in
    let all : ℕ = length (paste bytes at text n) in
    let same : put_mid at k bytes copied ≡ paste bytes at text n = put_mid-paste at k bytes copied text n is (sym long) refl in
    rw same
    (take_more_set (paste bytes at text n) (at + n) behind (omega (arith, length-paste bytes at text n (omega arith) (omega arith)))
    ∙ ap (λ (l : List ℕ). l ++ (behind ∷ [])) (take-paste bytes at text n (omega arith) (omega arith) ∙ ap (λ (l : List ℕ). take at bytes ++ l) (take-length text))
    ∙ append_assoc (take at bytes) text (behind ∷ []))

-- ---- numbers in decimal

-- so many digits hold a number that is below the power
places_within : (n k : ℕ) → n < 10 ^ suc k → places n ≤ suc k
unfolding places
places_within n k small = go (leb found k) refl
  where
    test : ℕ → Bool
    test j = ltb n (10 ^ suc j)

    found : ℕ
    found = least test n

    go : (t : Bool) → leb found k ≡ t → suc found ≤ suc k
    go true e = omega (arith, leb-true found k e)
    go false e = absurd (both_ways _ (least_below test n k (leb-false found k e)) (lt-ltb n (10 ^ suc k) small))

digits_long : (k n : ℕ) → length (last_digits k n) ≡ k
digits_long zero n = refl
digits_long (suc k) n = let rest = digits_long k (n / 10) in omega (arith, length-append (last_digits k (n / 10)) ((48 + n % 10) ∷ []))

module _ (n : ℕ) where
  decimal_long : length (decimal n) ≡ places n
  unfolding decimal
  decimal_long = digits_long (places n) n

  pub decimal_within_20 : n < 18446744073709551616 → length (decimal n) ≤ 20
  decimal_within_20 small = omega (arith, decimal_long, places_within n 19 (omega arith))

-- ---- a line that is written field by field

-- what a line holds, and a bound on how many bytes that are
pub record Holds (line bytes : List ℕ) (most : ℕ) : Type 0 where
  pub is : line ≡ bytes
  pub short : length bytes ≤ most

pub holds_nothing : {line : List ℕ} → line ≡ [] → Holds line [] 0
holds_nothing is = record { is = is; short = omega arith }

pub holds_itself : (line : List ℕ) → Holds line line (length line)
holds_itself line = record { is = refl; short = omega arith }

module _ (room : ℕ) {line bytes : List ℕ} {most : ℕ} (before : Holds line bytes most) (behind : ℕ) {after : List ℕ} where
  -- a text of at most k bytes
  pub holds_text : (k : ℕ) (text : List ℕ) → after ≡ put_in room line (field text behind) → length text ≤ k → most + (k + 1) ≤ room
      → Holds after (bytes ++ field text behind) (most + (k + 1))
  holds_text k text put short fits =
      let long = length-append text (behind ∷ []) in
      record {
        is = put ∙ rw before.is (put_room room bytes (field text behind) (omega (arith, long, before.short)));
        short = omega (arith, length-append bytes (field text behind), long, before.short);
      }

  -- a number of 64 bits
  pub holds_number : (n : ℕ) → n < 18446744073709551616 → after ≡ put_in room line (field (decimal n) behind) → most + 21 ≤ room
      → Holds after (bytes ++ field (decimal n) behind) (most + 21)
  holds_number n small put fits = holds_text 20 (decimal n) put (decimal_within_20 n small) fits
