-- Tails of runs of bytes: `ends_with` is the test of `Ends`, and how tails of one run lie to each other. Assumes nothing.
use mathlib.Core.Path.{◌≡◌, refl, sym, ap, ◌∙◌}
use mathlib.Core.Bool.{Bool, true, false, ◌&&◌}
use mathlib.Core.List.{List, [], ◌∷◌, ◌++◌, append_assoc, append-nil}
use Prim.Native.Nat.{ℕ, ◌-◌, ◌≤◌, ◌<◌}
use native.Mathlib.Omega.{arith}
use lib.ListN.{length, take, drop, length-append, take-append-drop}
use lib.Seq.{drop_at, drop-append-le, drop-append_seam}
use lib.Dec.{eqb}
use borrow.Author.Tests.{eq-eqb, eqb-true}
use Rattle.std.proofs.lemmas.Bool.{false_from_ne_true}
use Rattle.std.proofs.lemmas.List.{same_from_push}
use Rattle.laws.specs.Bytes.{same_bytes, Ends, ends_with}

pub same_refl : (u : List ℕ) → same_bytes u u ≡ true
unfolding same_bytes
same_refl [] = refl
same_refl (x ∷ u) = rw (eq-eqb x x refl) (same_refl u)

pub same_eq : (u v : List ℕ) → same_bytes u v ≡ true → u ≡ v
unfolding same_bytes
same_eq [] [] h = refl
same_eq [] (y ∷ v) h = cc
same_eq (x ∷ u) [] h = cc
same_eq (x ∷ u) (y ∷ v) h = go (eqb x y) refl h (same_eq u v)
  where
    go : (t : Bool) → eqb x y ≡ t → (t && same_bytes u v) ≡ true → (same_bytes u v ≡ true → u ≡ v) → x ∷ u ≡ y ∷ v
    go true e h ih = let heads = eqb-true x y e in let rest = ih h in cc
    go false e h ih = cc

pub ends_of_test : (u w : List ℕ) → ends_with u w ≡ true → Ends u w
unfolding ends_with
ends_of_test u w h =
    let n = length w - length u in
    (take n w, sym (take-append-drop n w) ∙ ap (λ (l : List ℕ). take n w ++ l) (same_eq (drop n w) u h))

pub test_of_ends : (u w : List ℕ) → Ends u w → ends_with u w ≡ true
unfolding ends_with
test_of_ends u w h =
    let e = h.1 in
    let len : length h.0 ≡ length (h.0 ++ u) - length u = omega (arith, length-append h.0 u) in
    rw (e, drop_at h.0 u (length (h.0 ++ u) - length u) len) (same_refl u)

pub ends_shorter : (u w : List ℕ) → Ends u w → length u ≤ length w
ends_shorter u w h = omega (arith, ap length h.1, length-append h.0 u)

-- a list that is too long is no tail
pub too_long_lem : (u w : List ℕ) → length w < length u → ends_with u w ≡ false
too_long_lem u w h = false_from_ne_true (ends_with u w) (λ t. let s = ends_shorter u w (ends_of_test u w t) in omega arith)

pub ends_self : (w : List ℕ) → Ends w w
ends_self w = ([], refl)

pub ends_nil : (w : List ℕ) → Ends [] w
ends_nil w = (w, sym (append-nil w))

pub ends_trans : (u v w : List ℕ) → Ends u v → Ends v w → Ends u w
ends_trans u v w h k = (k.0 ++ h.0, k.1 ∙ ap (λ (l : List ℕ). k.0 ++ l) h.1 ∙ sym (append_assoc k.0 h.0 u))

-- of two tails of one list the shorter is a tail of the longer
pub ends_within : (u v w : List ℕ) → Ends u w → Ends v w → length u ≤ length v → Ends u v
ends_within u v w h k shorter =
    let x = h.0 in
    let y = k.0 in
    let room : length y ≤ length x = omega (arith, ap length h.1, ap length k.1, length-append x u, length-append y v) in
    (drop (length y) x, sym (drop-append_seam y v) ∙ ap (drop (length y)) (sym k.1 ∙ h.1) ∙ drop-append-le (length y) x u room)

pub ends_snoc : (u w : List ℕ) (c : ℕ) → Ends u w → Ends (u ++ (c ∷ [])) (w ++ (c ∷ []))
ends_snoc u w c h = (h.0, ap (λ (l : List ℕ). l ++ (c ∷ [])) h.1 ∙ append_assoc h.0 u (c ∷ []))

pub ends_unsnoc : (u w : List ℕ) (a c : ℕ) → Ends (u ++ (a ∷ [])) (w ++ (c ∷ [])) → Ends u w × (a ≡ c)
ends_unsnoc u w a c h =
    let both = same_from_push w (h.0 ++ u) c a (h.1 ∙ sym (append_assoc h.0 u (a ∷ []))) in
    ((h.0, both.0), sym both.1)
