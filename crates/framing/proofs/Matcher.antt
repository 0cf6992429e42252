-- The matcher. `one_more`: what is matched after one more byte is found from what was matched before it alone, as the boundary's own
-- first bytes have it. `Seen` is the state of the loop over a piece. Assumes nothing.
use mathlib.Core.Path.{◌≡◌, refl, sym, ap, ◌∙◌}
use mathlib.Core.Bool.{Bool, true, false}
use mathlib.Core.List.{List, [], ◌∷◌, ◌++◌, append_assoc, append-nil}
use Prim.Native.Nat.{ℕ, zero, suc, ◌+◌, ◌-◌, ◌≤◌, ◌<◌}
use native.Mathlib.Nat.{le_of_suc-le-suc}
use native.Mathlib.Numerals.{add-one}
use native.Mathlib.Omega.{arith}
use lib.ListN.{length, take, get_or, length-append, length-take}
use lib.Seq.{take-suc, take-append-add, take-length}
use lib.Dec.{leb}
use borrow.Author.Tests.{le-leb, lt-leb, leb-true, leb-false}
use Rattle.std.specs.Prelude.{None, Some}
use Rattle.framing.specs.Cutting.{longest_match, item_end, cut_over, cut_of}
use Rattle.framing.specs.declared.Cut.{Cut}
use Rattle.laws.proofs.Tests.{iff_same}
use Rattle.laws.proofs.Search.{least_is, least_none, greatest_is, greatest_same, greatest_passes, greatest_below, greatest_above, greatest_less}
use Rattle.laws.specs.Bytes.{Ends, ends_with}
use Rattle.laws.proofs.Tails.{ends_of_test, test_of_ends, too_long_lem, ends_self, ends_nil, ends_trans, ends_within, ends_snoc, ends_unsnoc}

-- the longest match is a tail, below the bound, and no shorter than any other
pub longest_ends : (n : ℕ) (b w : List ℕ) → Ends (take (longest_match n b w) b) w
unfolding longest_match
longest_ends n b w = ends_of_test _ w (greatest_passes (λ j. ends_with (take j b) w) n (test_of_ends [] w (ends_nil w)))

pub longest_below : (n : ℕ) (b w : List ℕ) → 0 < n → longest_match n b w < n
unfolding longest_match
longest_below n b w h = greatest_below (λ j. ends_with (take j b) w) n h

pub longest_most : (n : ℕ) (b w : List ℕ) (s : ℕ) → s < n → Ends (take s b) w → s ≤ longest_match n b w
unfolding longest_match
longest_most n b w s h e = greatest_above (λ j. ends_with (take j b) w) n s h (test_of_ends (take s b) w e)

-- below the boundary's length, the boundary's first s bytes end w exactly where they end the matched bytes
pub tail_of_held : (b w : List ℕ) → 0 < length b → (s : ℕ) → s < length b → Ends (take s b) w → Ends (take s b) (take (longest_match (length b) b w) b)
tail_of_held b w some s below e =
    let most = longest_most (length b) b w s below e in
    let shorter : length (take s b) ≤ length (take (longest_match (length b) b w) b) =
    simp length-take (omega (arith, longest_below (length b) b w some)) in
    ends_within (take s b) (take (longest_match (length b) b w) b) w e (longest_ends (length b) b w) shorter

pub tail_of_all : (b w : List ℕ) (s : ℕ) → Ends (take s b) (take (longest_match (length b) b w) b) → Ends (take s b) w
tail_of_all b w s e = ends_trans (take s b) (take (longest_match (length b) b w) b) w e (longest_ends (length b) b w)

-- so with c behind both, and up to the boundary's length
agree : (b w : List ℕ) (c : ℕ) → 0 < length b → (t : ℕ) → t < suc (length b)
    → ends_with (take t b) (take (longest_match (length b) b w) b ++ (c ∷ [])) ≡ ends_with (take t b) (w ++ (c ∷ []))
agree b w c some zero h = test_of_ends [] _ (ends_nil _) ∙ sym (test_of_ends [] _ (ends_nil _))
agree b w c some (suc s) h =
    rw (take-suc b s 0 (le_of_suc-le-suc h))
    (iff_same _ _
    (λ p.
    let e = ends_unsnoc (take s b) _ (get_or b s 0) c (ends_of_test _ _ p) in
    test_of_ends _ _ (rw e.1 (ends_snoc (take s b) w c (tail_of_all b w s e.0))))
    (λ p.
    let e = ends_unsnoc (take s b) w (get_or b s 0) c (ends_of_test _ _ p) in
    test_of_ends _ _ (rw e.1 (ends_snoc (take s b) _ c (tail_of_held b w some s (le_of_suc-le-suc h) e.0)))))

pub one_more : (b w : List ℕ) (c : ℕ) → 0 < length b
    → longest_match (suc (length b)) b (take (longest_match (length b) b w) b ++ (c ∷ [])) ≡ longest_match (suc (length b)) b (w ++ (c ∷ []))
unfolding longest_match
one_more b w c some =
    greatest_same (λ t. ends_with (take t b) (take (longest_match (length b) b w) b ++ (c ∷ []))) (λ t. ends_with (take t b) (w ++ (c ∷ []))) (suc (length b)) (agree b w c some)

-- the state of the loop over a piece p after i of its bytes, with j bytes matched, where m were matched before the piece
pub record Seen (b p : List ℕ) (m i j : ℕ) : Type 0 where
  pub here : i ≤ length p
  pub tail : longest_match (length b) b (take m b ++ take i p) ≡ j
  pub none : (e : ℕ) → e ≤ m + i → ends_with b (take e (take m b ++ p)) ≡ false

-- what is matched is below the boundary's length
pub seen_below : (b p : List ℕ) (m i j : ℕ) → m < length b → Seen b p m i j → j < length b
seen_below b p m i j held seen = rw (← seen.tail) (longest_below (length b) b (take m b ++ take i p) (omega arith))

module _ (b p : List ℕ) (m : ℕ) (held : m < length b) where
  pub length_held : length (take m b) ≡ m
  length_held = simp length-take (omega arith)

  -- the first m + i of what is matched over
  pub front : (i : ℕ) → take (m + i) (take m b ++ p) ≡ take m b ++ take i p
  front i = ap (λ (n : ℕ). take (n + i) (take m b ++ p)) (sym length_held) ∙ take-append-add (take m b) p i

  pub seen_first : Seen b p m 0 m
  unfolding longest_match
  seen_first =
      record {
        here = omega arith;
        tail =
            rw (append-nil (take m b))
            (greatest_is (λ j. ends_with (take j b) (take m b)) (length b) m held
            (test_of_ends (take m b) (take m b) (ends_self (take m b)))
            (λ j above below. too_long_lem (take j b) (take m b) (simp length-take (omega arith))));
        none = λ e h. too_long_lem b (take e (take m b ++ p)) (simp length-take (omega arith));
      }

  module _ (i j r : ℕ) (seen : Seen b p m i j) (more : i < length p)
      (step : r ≡ longest_match (suc (length b)) b (take j b ++ (get_or p i 0 ∷ []))) where
    -- what is matched over, one byte on
    ahead : take m b ++ take (suc i) p ≡ take m b ++ take i p ++ (get_or p i 0 ∷ [])
    ahead = rw (take-suc p i 0 more) (sym (append_assoc (take m b) (take i p) (get_or p i 0 ∷ [])))

    matched : r ≡ longest_match (suc (length b)) b (take m b ++ take (suc i) p)
    matched =
        rw ahead
        (step ∙ ap (λ (n : ℕ). longest_match (suc (length b)) b (take n b ++ (get_or p i 0 ∷ []))) (sym seen.tail)
        ∙ one_more b (take m b ++ take i p) (get_or p i 0) (omega arith))

    -- where nothing ended before, nothing ends up to one byte on if the boundary is not matched there
    none_yet : ends_with (take (length b) b) (take m b ++ take (suc i) p) ≡ false → (e : ℕ) → e ≤ m + (i + 1) → ends_with b (take e (take m b ++ p)) ≡ false
    none_yet off e h = go (leb e (m + i)) refl
      where
        go : (t : Bool) → leb e (m + i) ≡ t → ends_with b (take e (take m b ++ p)) ≡ false
        go true t = seen.none e (leb-true e (m + i) t)
        go false t =
            let same : e ≡ m + suc i = omega (arith, leb-false e (m + i) t) in
            rw (same, front (suc i)) (rw take-length at off)

    pub seen_next : (r ≡ length b → ⊥) → Seen b p m (i + 1) r
    unfolding longest_match
    seen_next other =
        let less = greatest_less (λ t. ends_with (take t b) (take m b ++ take (suc i) p)) (length b) r matched other in
        record { here = omega arith; tail = rw add-one less.1; none = none_yet less.0 }

    ended : r ≡ length b → ends_with b (take (m + suc i) (take m b ++ p)) ≡ true
    ended full =
        let all : Ends (take (length b) b) (take m b ++ take (suc i) p) =
        rw (sym matched ∙ full) at (longest_ends (suc (length b)) b (take m b ++ take (suc i) p)) in
        rw (front (suc i)) (test_of_ends b _ (rw take-length at all))

    pub seen_done : r ≡ length b → ◌≡◌ {A = Cut} (record { taken = i + 1; matched = None }) (cut_of b p m)
    unfolding cut_of cut_over item_end
    seen_done full =
        let room : m + suc i ≤ length (take m b ++ p) = omega (arith, length-append (take m b) p, length_held) in
        let end : item_end b (take m b ++ p) ≡ m + suc i =
        least_is (λ e. ends_with b (take e (take m b ++ p))) (suc (length (take m b ++ p))) (m + suc i) (omega arith) (ended full)
        (λ e h. seen.none e (omega arith)) in
        let count : m + suc i - m ≡ i + 1 = omega arith in
        rw (end, le-leb (m + suc i) (length (take m b ++ p)) room, count)

  pub seen_all : (i j : ℕ) → Seen b p m i j → length p ≤ i → ◌≡◌ {A = Cut} (record { taken = length p; matched = Some j }) (cut_of b p m)
  unfolding cut_of cut_over item_end
  seen_all i j seen out =
      let all : i ≡ length p = omega (arith, seen.here) in
      let whole : longest_match (length b) b (take m b ++ p) ≡ j = rw (all, take-length) at seen.tail in
      let size : length (take m b ++ p) ≡ m + i = omega (arith, length-append (take m b) p, length_held) in
      let end : item_end b (take m b ++ p) ≡ suc (length (take m b ++ p)) =
      least_none (λ e. ends_with b (take e (take m b ++ p))) (suc (length (take m b ++ p)))
      (λ e h. seen.none e (omega arith)) in
      rw (end, lt-leb (suc (length (take m b ++ p))) (length (take m b ++ p)) (omega arith), whole)
