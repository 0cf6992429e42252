-- How a piece is cut where the boundary is looked for whole: `cut_found` and `cut_nowhere` by the first place at which it stands, where nothing is held; `seam_ended`
-- and `seam_nowhere` where a match is held, by the piece's first bytes alone. Assumes nothing.
use mathlib.Core.Path.{◌≡◌, refl, sym, ap, ◌∙◌}
use mathlib.Core.Bool.{Bool, true, false, cond, not}
use mathlib.Core.List.{List, ◌++◌}
use Prim.Native.Nat.{ℕ, suc, ◌+◌, ◌-◌, ◌≤◌, ◌<◌}
use native.Mathlib.Nat.{sub-zero, zero-add}
use native.Mathlib.Omega.{arith}
use lib.ListN.{length, take, drop, length-append, length-take, length-drop}
use lib.Seq.{take_all, take-add, take-take, take-length, drop_at}
use lib.Dec.{leb, ltb}
use borrow.Author.Tests.{le-leb, lt-leb, leb-true, leb-false, ltb-true, ltb-false}
use Rattle.laws.specs.Search.{least}
use Rattle.laws.specs.Bytes.{same_bytes, same_at, ends_with}
use Rattle.laws.proofs.Search.{least_is, least_none, least_same, least_skip, least_below, least_passes, greatest_same}
use Rattle.laws.proofs.Tails.{too_long_lem}
use Rattle.std.specs.Prelude.{None, Some, is_some}
use Rattle.framing.specs.declared.Cut.{Cut}
use Rattle.framing.specs.Cutting.{longest_match, item_end, cut_over, cut_of}
use Rattle.framing.specs.Standing.{stands_at}
use Rattle.framing.proofs.Matcher.{length_held, front}
use Rattle.framing.proofs.GoesOn.{tail_alone, cut_into, cut_at}
use Rattle.framing.proofs.Stands.{First}

-- the first j bytes of b are a tail of p where they stand at its end
pub tail_stands : (b p : List ℕ) (j : ℕ) → j ≤ length b → j ≤ length p → same_at j b 0 p (length p - j) ≡ ends_with (take j b) p
unfolding same_at ends_with
tail_stands b p j few within =
    let size : length (take j b) ≡ j = simp length-take (omega arith) in
    let rest : take j (drop (length p - j) p) ≡ drop (length p - j) p = take_all j (drop (length p - j) p) (simp length-drop (omega arith)) in
    rw (size, rest)

-- ---- nothing held

module _ (b p : List ℕ) (some : 0 < length b) (room : length b ≤ length p) where
  stands_ends : (d : ℕ) → d + length b ≤ length p → ends_with b (take (d + length b) p) ≡ stands_at b p d
  unfolding ends_with same_at
  stands_ends d within =
      let size : length (take (d + length b) p) - length b ≡ d = simp length-take (omega arith) in
      let before : length (take d p) ≡ d = simp length-take (omega arith) in
      let rest : drop d (take (d + length b) p) ≡ take (length b) (drop d p) =
      ap (drop d) (take-add d (length b) p) ∙ drop_at (take d p) (take (length b) (drop d p)) d before in
      ap (λ (n : ℕ). same_bytes (drop n (take (d + length b) p)) b) size ∙ ap (λ (l : List ℕ). same_bytes l b) rest
      ∙ ap (same_bytes (take (length b) (drop d p))) (sym (take-length b))

  module _ (r : ℕ) (first : First b p 0 (length p - length b + 1) r) where
    none_before : (e : ℕ) → e ≤ length p → e < r + length b → ends_with b (take e p) ≡ false
    none_before e within before = go (ltb e (length b)) refl
      where
        go : (t : Bool) → ltb e (length b) ≡ t → ends_with b (take e p) ≡ false
        go true l = too_long_lem b (take e p) (simp length-take (omega (arith, ltb-true e (length b) l)))
        go false l =
            let low = ltb-false e (length b) l in
            let here : e ≡ e - length b + length b = omega arith in
            rw here (stands_ends (e - length b) (omega arith) ∙ first.none (e - length b) (omega arith) (omega arith))

    pub cut_found : r < length p - length b + 1 → ◌≡◌ {A = Cut} (record { taken = r + length b; matched = None }) (cut_of b p 0)
    unfolding cut_of cut_over item_end
    cut_found below =
        let end : item_end b p ≡ r + length b =
        least_is (λ e. ends_with b (take e p)) (suc (length p)) (r + length b) (omega arith) (stands_ends r (omega arith) ∙ first.there below)
        (λ e before. none_before e (omega arith) before) in
        rw (end, le-leb (r + length b) (length p) (omega arith), sub-zero)

    pub cut_nowhere : length p - length b + 1 ≤ r → ◌≡◌ {A = Cut} (record { taken = length p; matched = Some (longest_match (length b) b p) }) (cut_of b p 0)
    unfolding cut_of cut_over item_end
    cut_nowhere above =
        let end : item_end b p ≡ suc (length p) =
        least_none (λ e. ends_with b (take e p)) (suc (length p)) (λ e within. none_before e (omega arith) (omega arith)) in
        rw (end, lt-leb (suc (length p)) (length p) (omega arith))

-- ---- a match that is held

-- a cut ends an item exactly where the item's end lies within what is matched over
ended_is : (b p : List ℕ) (n : ℕ) (w : List ℕ) → not (is_some (cut_over b p n w).matched) ≡ leb (item_end b w) (length w)
unfolding cut_over
ended_is b p n w = go (leb (item_end b w) (length w))
  where
    go : (t : Bool) → not (is_some (cond {A = Cut} t (record { taken = item_end b w - n; matched = None }) (record { taken = length p; matched = Some (longest_match (length b) b w) })).matched) ≡ t
    go true = refl
    go false = refl

module _ (b p : List ℕ) (m : ℕ) (held : m < length b) (j : ℕ) (within : j ≤ length p) where
  -- what is matched over, as far as the piece's first j bytes go
  size_front : length (take m b ++ take j p) ≡ m + j
  size_front = omega (arith, length-append (take m b) (take j p), length_held b p m held, length-take j p)

  same_front : (e : ℕ) → e ≤ m + j → take e (take m b ++ take j p) ≡ take e (take m b ++ p)
  same_front e low = ap (take e) (sym (front b p m held j)) ∙ take-take e (m + j) (take m b ++ p) low

  size_whole : length (take m b ++ p) ≡ m + length p
  size_whole = omega (arith, length-append (take m b) p, length_held b p m held)

  -- an item that ends within them ends there in the whole piece
  pub seam_ended : is_some (cut_of b (take j p) m).matched ≡ false → cut_of b (take j p) m ≡ cut_of b p m
  unfolding cut_of cut_over item_end
  seam_ended ended =
      let v = take m b ++ take j p in
      let w = take m b ++ p in
      let is : leb (item_end b v) (length v) ≡ true = sym (ended_is b (take j p) m v) ∙ ap not ended in
      let inside = leb-true (item_end b v) (length v) is in
      let passes = least_passes (λ e. ends_with b (take e v)) (suc (length v)) (omega arith) in
      let end : item_end b w ≡ item_end b v =
      least_is (λ e. ends_with b (take e w)) (suc (length w)) (item_end b v) (omega (arith, size_front, size_whole))
      (ap (ends_with b) (sym (same_front (item_end b v) (omega (arith, size_front)))) ∙ passes)
      (λ i below. ap (ends_with b) (sym (same_front i (omega (arith, size_front)))) ∙ least_below (λ e. ends_with b (take e v)) (suc (length v)) i below) in
      rw (is, end, le-leb (item_end b v) (length w) (omega (arith, size_front, size_whole)))

  -- and where none does, none ends in the whole piece so early
  seam_free : is_some (cut_of b (take j p) m).matched ≡ true → (e : ℕ) → e ≤ m + j → ends_with b (take e (take m b ++ p)) ≡ false
  unfolding cut_of cut_over item_end
  seam_free free e low =
      let v = take m b ++ take j p in
      let is : leb (item_end b v) (length v) ≡ false = sym (ended_is b (take j p) m v) ∙ ap not free in
      ap (ends_with b) (sym (same_front e low))
      ∙ least_below (λ e. ends_with b (take e v)) (suc (length v)) e (omega (arith, size_front, leb-false (item_end b v) (length v) is))

-- a match that does not come to be the boundary within k - 1 bytes is forgotten after them
module _ (b p : List ℕ) (m : ℕ) (held : m < length b) (room : length b ≤ length p)
    (free : (e : ℕ) → e ≤ m + (length b - 1) → ends_with b (take e (take m b ++ p)) ≡ false) where
  into : ℕ
  into = least (λ i. ends_with b (take i p)) (suc (length p))

  alike_at : (i : ℕ) → i < suc (length p) → ends_with b (take (m + i) (take m b ++ p)) ≡ ends_with b (take i p)
  alike_at i within = go (ltb i (length b)) refl
    where
      go : (t : Bool) → ltb i (length b) ≡ t → ends_with b (take (m + i) (take m b ++ p)) ≡ ends_with b (take i p)
      go true l =
          let few = ltb-true i (length b) l in
          free (m + i) (omega arith) ∙ sym (too_long_lem b (take i p) (simp length-take (omega arith)))
      go false l =
          let many = ltb-false i (length b) l in
          ap (ends_with b) (front b p m held i) ∙ tail_alone b (take m b) (take i p) (simp length-take (omega arith))

  end_held : item_end b (take m b ++ p) ≡ m + into
  unfolding item_end into
  end_held =
      let size : suc (length (take m b ++ p)) ≡ m + suc (length p) = omega (arith, length-append (take m b) p, length_held b p m held) in
      rw size
      (least_skip (λ e. ends_with b (take e (take m b ++ p))) m (suc (length p)) (λ e below. free e (omega arith))
      ∙ ap (λ (n : ℕ). m + n)
      (least_same (λ i. ends_with b (take (m + i) (take m b ++ p))) (λ i. ends_with b (take i p)) (suc (length p)) alike_at))

  longest_alone : longest_match (length b) b p ≡ longest_match (length b) b (take m b ++ p)
  unfolding longest_match
  longest_alone =
      greatest_same (λ j. ends_with (take j b) p) (λ j. ends_with (take j b) (take m b ++ p)) (length b)
      (λ j below. sym (tail_alone (take j b) (take m b) p (simp length-take (omega arith))))

  seam_passed : cut_of b p 0 ≡ cut_of b p m
  unfolding cut_of cut_into item_end into
  seam_passed =
      cut_at b p p 0 into (sym (zero-add into)) (omega arith)
      ∙ ap (λ (n : ℕ). cond {A = Cut} (leb into (length p)) (record { taken = into; matched = None }) (record { taken = length p; matched = Some n })) longest_alone
      ∙ sym (cut_at b p (take m b ++ p) m into end_held (omega (arith, length-append (take m b) p, length_held b p m held)))

-- where no item ends within the piece's first k - 1 bytes, it is cut as with nothing held
pub seam_nowhere : (b p : List ℕ) (m : ℕ) → m < length b → length b ≤ length p → is_some (cut_of b (take (length b - 1) p) m).matched ≡ true → cut_of b p 0 ≡ cut_of b p m
seam_nowhere b p m held room free = seam_passed b p m held room (seam_free b p m held (length b - 1) (omega arith) free)
