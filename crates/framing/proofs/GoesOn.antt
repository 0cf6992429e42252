-- That the held match is enough. h is what was gathered, with no item complete in it, and the match held is the longest tail of h that begins
-- the boundary. Then matching on from it over a piece p cuts p as matching over all of h and then p does (`goes_on`). Assumes nothing.
use mathlib.Core.Path.{◌≡◌, refl, sym, ap, ◌∙◌}
use mathlib.Core.Bool.{Bool, true, false, cond}
use mathlib.Core.List.{List, [], ◌++◌, append_assoc, append-nil}
use Prim.Native.Nat.{ℕ, zero, suc, ◌+◌, ◌-◌, ◌≤◌, ◌<◌}
use native.Mathlib.Omega.{arith}
use lib.ListN.{length, take, drop, length-append, length-take, take-append-drop}
use lib.Seq.{take_at, drop_at, take-take, take-length, take-append-add, take-append-le}
use lib.Dec.{leb}
use borrow.Author.Tests.{le-leb, lt-leb, leb-true, leb-false}
use Rattle.laws.specs.Search.{least}
use Rattle.laws.specs.Bytes.{Ends, ends_with}
use Rattle.laws.proofs.Tests.{iff_same}
use Rattle.laws.proofs.Search.{least_same, least_skip, greatest_same}
use Rattle.laws.proofs.Tails.{ends_of_test, test_of_ends, too_long_lem, ends_trans, ends_within}
use Rattle.std.specs.Prelude.{None, Some}
use Rattle.framing.specs.declared.Cut.{Cut}
use Rattle.framing.specs.Cutting.{longest_match, item_end, cut_over, cut_of}
use Rattle.framing.proofs.Matcher.{longest_below, tail_of_held, tail_of_all}

-- a tail of `h ++ q` that is no shorter than q is a tail of h with all of q behind it
ends_cut : (u h q : List ℕ) → length q ≤ length u → Ends u (h ++ q) → Ends (take (length u - length q) u) h × (drop (length u - length q) u ≡ q)
ends_cut u h q long e =
    let d = length u - length q in
    let x = e.0 in
    let join : h ++ q ≡ (x ++ take d u) ++ drop d u = e.1 ∙ ap (λ (l : List ℕ). x ++ l) (sym (take-append-drop d u)) ∙ sym (append_assoc x (take d u) (drop d u)) in
    let size : length (x ++ take d u) ≡ length h =
    omega (arith, ap length e.1, length-append h q, length-append x u, length-append x (take d u), length-take d u) in (
      (x, sym (take_at h q (length h) refl) ∙ ap (take (length h)) join ∙ take_at (x ++ take d u) (drop d u) (length h) size),
      sym (sym (drop_at h q (length h) refl) ∙ ap (drop (length h)) join ∙ drop_at (x ++ take d u) (drop d u) (length h) size),
    )

-- and the other way round
ends_glue : (u h q : List ℕ) (d : ℕ) → Ends (take d u) h → drop d u ≡ q → Ends u (h ++ q)
ends_glue u h q d e rest =
    (e.0, ap (λ (l : List ℕ). l ++ q) e.1 ∙ append_assoc e.0 (take d u) q ∙ ap (λ (l : List ℕ). e.0 ++ (take d u ++ l)) (sym rest) ∙ ap (λ (l : List ℕ). e.0 ++ l) (take-append-drop d u))

-- whether u, which is no longer than q, is a tail of `h ++ q` does not depend on h
ends_short : (u h h' q : List ℕ) → length u ≤ length q → Ends u (h ++ q) → Ends u (h' ++ q)
ends_short u h h' q short e = ends_trans u q (h' ++ q) (ends_within u q (h ++ q) e (h, refl) short) (h', refl)

pub tail_alone : (u h q : List ℕ) → length u ≤ length q → ends_with u (h ++ q) ≡ ends_with u q
tail_alone u h q short =
    iff_same _ _
    (λ t. test_of_ends u q (ends_short u h [] q short (ends_of_test u (h ++ q) t)))
    (λ t. test_of_ends u (h ++ q) (ends_short u [] h q short (ends_of_test u q t)))

module _ (b h : List ℕ) (some : 0 < length b) where
  abbrev held : List ℕ
  held = take (longest_match (length b) b h) b

  -- the boundary's first t bytes end h and then q exactly where they end the matched bytes and then q
  alike : (t : ℕ) (q : List ℕ) → t ≤ length b → t - length q < length b → ends_with (take t b) (h ++ q) ≡ ends_with (take t b) (held ++ q)
  alike t q within proper = go (leb (length (take t b)) (length q)) refl
    where
      size : length (take t b) ≡ t
      size = simp length-take (omega arith)

      d : ℕ
      d = length (take t b) - length q

      front : take d (take t b) ≡ take d b
      front = take-take d t b (omega (arith, size))

      go : (r : Bool) → leb (length (take t b)) (length q) ≡ r → ends_with (take t b) (h ++ q) ≡ ends_with (take t b) (held ++ q)
      go true e =
          let short = leb-true _ _ e in
          tail_alone (take t b) h q short ∙ sym (tail_alone (take t b) held q short)
      go false e =
          let long : length q ≤ length (take t b) = omega (arith, leb-false (length (take t b)) (length q) e) in
          let less : d < length b = omega (arith, size) in
          iff_same _ _
          (λ p.
          let both = ends_cut (take t b) h q long (ends_of_test _ _ p) in
          test_of_ends _ _ (ends_glue (take t b) held q d (rw front (tail_of_held b h some d less (rw front at both.0))) both.1))
          (λ p.
          let both = ends_cut (take t b) held q long (ends_of_test _ _ p) in
          test_of_ends _ _ (ends_glue (take t b) h q d (rw front (tail_of_all b h d (rw front at both.0))) both.1))

-- how p is cut where the item ends L bytes into it, and what is matched over is w
unfoldable pub cut_into : List ℕ → List ℕ → List ℕ → ℕ → Bool → Cut
cut_into b p w L t = cond t (record { taken = L; matched = None }) (record { taken = length p; matched = Some (longest_match (length b) b w) })

-- of w the first n bytes are no part of the piece
pub cut_at : (b p w : List ℕ) (n L : ℕ) → item_end b w ≡ n + L → length w ≡ n + length p → cut_over b p n w ≡ cut_into b p w L (leb L (length p))
unfolding cut_over cut_into
cut_at b p w n L end size = go (leb L (length p)) refl
  where
    count : n + L - n ≡ L
    count = omega arith

    go : (t : Bool) → leb L (length p) ≡ t → cut_over b p n w ≡ cut_into b p w L t
    go true e = rw (end, size, le-leb (n + L) (n + length p) (omega (arith, leb-true L (length p) e)), count)
    go false e = rw (end, size, lt-leb (n + L) (n + length p) (omega (arith, leb-false L (length p) e)))

module _ (b h p : List ℕ) (some : 0 < length b) (none : (e : ℕ) → e ≤ length h → ends_with b (take e h) ≡ false) where
  abbrev m : ℕ
  m = longest_match (length b) b h

  m_below : m < length b
  m_below = longest_below (length b) b h some

  size_held : length (take m b) ≡ m
  size_held = let below = m_below in simp length-take (omega arith)

  -- i bytes into the piece the boundary ends the one exactly where it ends the other
  alike_at : (i : ℕ) → i < suc (length p) → ends_with b (take (m + i) (take m b ++ p)) ≡ ends_with b (take (length h + i) (h ++ p))
  alike_at zero within =
      too_long_lem b (take (m + zero) (take m b ++ p)) (let below = m_below in simp length-take (omega arith))
      ∙ sym (rw (take-append-add h p zero, append-nil h, ← take-length h) (none (length h) (omega arith)))
  alike_at (suc i) within =
      let one : length (take (suc i) p) ≡ suc i = simp length-take (omega arith) in
      ap (λ (n : ℕ). ends_with b (take (n + suc i) (take m b ++ p))) (sym size_held)
      ∙ ap (ends_with b) (take-append-add (take m b) p (suc i))
      ∙ sym (rw take-length at (alike b h some (length b) (take (suc i) p) (omega arith) (omega arith)))
      ∙ ap (ends_with b) (sym (take-append-add h p (suc i)))

  into : ℕ
  into = least (λ i. ends_with b (take (m + i) (take m b ++ p))) (suc (length p))

  end_held : item_end b (take m b ++ p) ≡ m + into
  unfolding item_end into
  end_held =
      let size : suc (length (take m b ++ p)) ≡ m + suc (length p) = omega (arith, length-append (take m b) p, size_held) in
      rw size
      (least_skip (λ e. ends_with b (take e (take m b ++ p))) m (suc (length p))
      (λ e below. too_long_lem b (take e (take m b ++ p)) (let low = m_below in simp length-take (omega arith))))

  end_all : item_end b (h ++ p) ≡ length h + into
  unfolding item_end into
  end_all =
      let size : suc (length (h ++ p)) ≡ length h + suc (length p) = omega (arith, length-append h p) in
      rw size
      (least_skip (λ e. ends_with b (take e (h ++ p))) (length h) (suc (length p))
      (λ e below. rw (take-append-le e h p (omega arith)) (none e (omega arith)))
      ∙ ap (λ (n : ℕ). length h + n)
      (sym (least_same (λ i. ends_with b (take (m + i) (take m b ++ p))) (λ i. ends_with b (take (length h + i) (h ++ p))) (suc (length p)) alike_at)))

  longest_alike : longest_match (length b) b (take m b ++ p) ≡ longest_match (length b) b (h ++ p)
  unfolding longest_match
  longest_alike =
      greatest_same (λ j. ends_with (take j b) (take m b ++ p)) (λ j. ends_with (take j b) (h ++ p)) (length b)
      (λ j below. sym (alike b h some j p (omega arith) (omega arith)))

  pub goes_on : cut_of b p (longest_match (length b) b h) ≡ cut_over b p (length h) (h ++ p)
  unfolding cut_of cut_into
  goes_on =
      cut_at b p (take m b ++ p) m into end_held (omega (arith, length-append (take m b) p, size_held))
      ∙ ap (λ (n : ℕ). cond (leb into (length p)) (record { taken = into; matched = None }) (record { taken = length p; matched = Some n })) longest_alike
      ∙ sym (cut_at b p (h ++ p) (length h) into end_all (length-append h p))
