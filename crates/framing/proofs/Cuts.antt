-- THEOREMS. `cut_once`: a stream is cut in one way only. `leftmost`: each part ends at the leftmost occurrence of the boundary. Beside them, occurrences of the boundary as the definitions test for them and as `Free` and
-- `Part` speak of them. Assumes nothing.
use mathlib.Core.Path.{◌≡◌, refl, sym, ap, ◌∙◌}
use mathlib.Core.Bool.{Bool, true, false}
use mathlib.Core.List.{List, [], ◌∷◌, ◌++◌, append_assoc, append-nil, cons-eq-cons}
use Prim.Native.Nat.{ℕ, ◌+◌, ◌≤◌, ◌<◌}
use native.Mathlib.Omega.{arith}
use lib.ListN.{length, take, drop, length-append, length-take, take-append-drop}
use lib.Seq.{take-take, take-append-le, take-append_seam, drop-append_seam}
use lib.Dec.{leb}
use borrow.Author.Tests.{leb-true, leb-false}
use Rattle.std.proofs.lemmas.Bool.{both_ways, false_from_ne_true}
use Rattle.laws.specs.Bytes.{Ends, ends_with}
use Rattle.laws.proofs.Tails.{ends_of_test, test_of_ends}
use Rattle.framing.specs.Stream.{joined, Free, Part}
use Rattle.framing.specs.Promises.{CutOnce, Leftmost}

-- b ends the first e bytes of w
occurs : (b w : List ℕ) (e : ℕ) → ends_with b (take e w) ≡ true → (x : List ℕ) × (w ≡ x ++ (b ++ drop e w))
occurs b w e h =
    let tail = ends_of_test b (take e w) h in
    (tail.0, sym (take-append-drop e w) ∙ ap (λ (l : List ℕ). l ++ drop e w) tail.1 ∙ append_assoc tail.0 b (drop e w))

-- where b occurs behind x, it ends the first bytes up to there
ends_there : (b w x y : List ℕ) → w ≡ x ++ (b ++ y) → take (length (x ++ b)) w ≡ x ++ b
ends_there b w x y e = ap (take (length (x ++ b))) (e ∙ sym (append_assoc x b y)) ∙ take-append_seam (x ++ b) y

pub free_none : (b w : List ℕ) → Free b w → (e : ℕ) → e ≤ length w → ends_with b (take e w) ≡ false
free_none b w free e within = false_from_ne_true _ (λ h. let there = occurs b w e h in free there.0 (drop e w) there.1)

pub none_free : (b w : List ℕ) → ((e : ℕ) → e ≤ length w → ends_with b (take e w) ≡ false) → Free b w
none_free b w none x y e =
    let size = length (x ++ b) in
    let within : size ≤ length w = omega (arith, ap length e, length-append x (b ++ y), length-append x b, length-append b y) in
    let ends : ends_with b (take size w) ≡ true = rw (ends_there b w x y e) (test_of_ends b (x ++ b) (x, refl)) in
    both_ways _ (none size within) ends

-- what is free of the boundary does not end with it
pub not_at_end : (b w : List ℕ) → Free b w → Ends b w → ⊥
not_at_end b w free tail = free tail.0 [] (tail.1 ∙ ap (λ (l : List ℕ). tail.0 ++ l) (sym (append-nil b)))

-- the first e bytes of w are a part, where the boundary ends them and no fewer
pub part_first : (b w : List ℕ) (e : ℕ) → e ≤ length w → ends_with b (take e w) ≡ true → ((i : ℕ) → i < e → ends_with b (take i w) ≡ false) → Part b (take e w)
part_first b w e within ends none = record { closed = ends_of_test b (take e w) ends; first = λ x y is. nothing_left x y is y refl }
  where
    size : length (take e w) ≡ e
    size = simp length-take (omega arith)

    nothing_left : (x y : List ℕ) → take e w ≡ x ++ (b ++ y) → (y' : List ℕ) → y ≡ y' → y ≡ []
    nothing_left x y is [] same = same
    nothing_left x y is (c ∷ y') same =
        let n = length (x ++ b) in
        let short : n < e =
        omega (
          arith,
          size,
          ap length is,
          length-append x (b ++ y),
          length-append x b,
          length-append b y,
          ap length same,
        ) in
        let there : take n w ≡ x ++ b = sym (take-take n e w (omega arith)) ∙ ends_there b (take e w) x y is in
        absurd (both_ways _ (none n short) (rw there (test_of_ends b (x ++ b) (x, refl))))

-- of two beginnings of one list the shorter begins the longer
begins_longer : (q r q' r' : List ℕ) → q ++ r ≡ q' ++ r' → length q ≤ length q' → q' ≡ q ++ drop (length q) q'
begins_longer q r q' r' same shorter =
    sym (take-append-drop (length q) q')
    ∙ ap (λ (l : List ℕ). l ++ drop (length q) q')
    (sym (take-append-le (length q) q' r' shorter) ∙ ap (take (length q)) (sym same) ∙ take-append_seam q r)

-- so a part that begins as another does is that part
part_within : (b q r q' r' : List ℕ) → Part b q → Part b q' → q ++ r ≡ q' ++ r' → length q ≤ length q' → q ≡ q'
part_within b q r q' r' part part' same shorter =
    let longer = begins_longer q r q' r' same shorter in
    let y = drop (length q) q' in
    let x = part.closed.0 in
    let none : y ≡ [] = part'.first x y (longer ∙ ap (λ (l : List ℕ). l ++ y) part.closed.1 ∙ append_assoc x b y) in
    sym (longer ∙ ap (λ (l : List ℕ). q ++ l) none ∙ append-nil q)

pub same_part : (b q r q' r' : List ℕ) → Part b q → Part b q' → q ++ r ≡ q' ++ r' → q ≡ q'
same_part b q r q' r' part part' same = go (leb (length q) (length q')) refl
  where
    go : (t : Bool) → leb (length q) (length q') ≡ t → q ≡ q'
    go true e = part_within b q r q' r' part part' same (leb-true _ _ e)
    go false e = sym (part_within b q' r' q r part' part (sym same) (omega (arith, leb-false (length q) (length q') e)))

-- what is free of the boundary begins with no part
no_part : (b q r w : List ℕ) → Part b q → Free b w → w ≡ q ++ r → ⊥
no_part b q r w part free e = free part.closed.0 r (e ∙ ap (λ (l : List ℕ). l ++ r) part.closed.1 ∙ append_assoc part.closed.0 b r)

pub cut_once : CutOnce
cut_once b stream [] [] w w' c c' = (refl, sym c.whole ∙ c'.whole)
cut_once b stream [] (q ∷ qs) w w' c c' =
    absurd (no_part b q (joined qs ++ w') w c'.each.0 c.left (sym c.whole ∙ c'.whole ∙ append_assoc q (joined qs) w'))
cut_once b stream (q ∷ qs) [] w w' c c' =
    absurd (no_part b q (joined qs ++ w) w' c.each.0 c'.left (sym c'.whole ∙ c.whole ∙ append_assoc q (joined qs) w))
cut_once b stream (q ∷ qs) (q' ∷ qs') w w' c c' =
    let here = c.whole ∙ append_assoc q (joined qs) w in
    let here' = c'.whole ∙ append_assoc q' (joined qs') w' in
    let same = same_part b q (joined qs ++ w) q' (joined qs' ++ w') c.each.0 c'.each.0 (sym here ∙ here') in
    let rest : joined qs ++ w ≡ joined qs' ++ w' =
    sym (drop-append_seam q (joined qs ++ w)) ∙ ap (drop (length q)) (sym here ∙ here')
    ∙ ap (λ (l : List ℕ). drop (length l) (q' ++ (joined qs' ++ w'))) same ∙ drop-append_seam q' (joined qs' ++ w') in
    let both =
    cut_once b (joined qs ++ w) qs qs' w w'
    (record { whole = refl; each = c.each.1; left = c.left })
    (record { whole = rest; each = c'.each.1; left = c'.left }) in
    (cons-eq-cons.1 (same, both.0), both.1)

-- an occurrence that ended before the part does would stand within it
pub leftmost : Leftmost
leftmost b stream q qs waiting c =
    (λ x y there. go x y there (leb (length q) (length (x ++ b))) refl, record { whole = refl; each = c.each.1; left = c.left })
  where
    go : (x y : List ℕ) → stream ≡ x ++ (b ++ y) → (t : Bool) → leb (length q) (length (x ++ b)) ≡ t → length q ≤ length x + length b
    go x y there true e = omega (arith, leb-true (length q) (length (x ++ b)) e, length-append x b)
    go x y there false e =
        let short = leb-false (length q) (length (x ++ b)) e in
        let same : x ++ b ++ y ≡ q ++ (joined qs ++ waiting) = append_assoc x b y ∙ sym there ∙ c.whole ∙ append_assoc q (joined qs) waiting in
        let z = drop (length (x ++ b)) q in
        let longer : q ≡ x ++ b ++ z = begins_longer (x ++ b) y q (joined qs ++ waiting) same (omega arith) in
        let none : z ≡ [] = c.each.0.first x z (longer ∙ append_assoc x b z) in
        absurd (omega (arith, ap length longer, length-append (x ++ b) z, ap length none))
