-- Laws of a part of the message, and of runs of bytes of other lengths. Assumes nothing.
use Prim.Native.Nat.{ℕ, zero, suc, ◌+◌, ◌-◌, ◌<◌, ◌≤◌, min}
use mathlib.Core.Path.{◌≡◌, refl, sym, ◌∙◌, ap}
use mathlib.Core.Bool.{false}
use mathlib.Core.List.{List, [], ◌∷◌, ◌++◌}
use native.Mathlib.Nat.{min-le_left}
use native.Mathlib.Numerals.{add-one}
use native.Mathlib.Omega.{arith}
use lib.ListN.{length, get_or, take, drop_of_length-le, length-take, length-drop}
use lib.Seq.{slice-cons}
use lib.Dec.{eqb}
use Rattle.std.proofs.lemmas.Bool.{and_right}
use Rattle.laws.specs.Bytes.{same_bytes}
use Rattle.message.specs.Elements.{part}

-- ---- two runs of bytes

pub other_length : (u v : List ℕ) → (length u ≡ length v → ⊥) → false ≡ same_bytes u v
unfolding same_bytes
other_length [] [] h = absurd (h refl)
other_length [] (y ∷ v) h = refl
other_length (x ∷ u) [] h = refl
other_length (x ∷ u) (y ∷ v) h = sym (and_right (eqb x y) _ (sym (other_length u v (λ e. h (ap suc e)))))

-- ---- a part of the message

module _ (s : List ℕ) (b e : ℕ) where
  pub part_length : length (part s b e) ≡ min e (length s) - b
  part_length = length-drop b (take e s) ∙ ap (λ (n : ℕ). n - b) (length-take e s)

  pub part_none : e ≤ b → part s b e ≡ []
  part_none h = drop_of_length-le (take e s) {i = b} (omega (arith, length-take e s, min-le_left e (length s)))

  pub part_some : b < e → e ≤ length s → part s b e ≡ get_or s b 0 ∷ part s (b + 1) e
  part_some h l = rw add-one (slice-cons b e s 0 h l)

-- parted at a place within it
pub part_split : (s : List ℕ) (b m e : ℕ) → b ≤ m → m ≤ e → e ≤ length s → part s b e ≡ part s b m ++ part s m e
part_split s b m e p q l = go (m - b) b (omega arith)
  where
    go : (n b : ℕ) → b + n ≡ m → part s b e ≡ part s b m ++ part s m e
    go zero b h = let same : m ≡ b = omega arith in rw (same, part_none s b b (omega arith))
    go (suc n) b h =
        part_some s b e (omega arith) l
        ∙ ap (λ (r : List ℕ). get_or s b 0 ∷ r) (go n (b + 1) (omega arith))
        ∙ sym (ap (λ (r : List ℕ). r ++ part s m e) (part_some s b m (omega arith) (omega arith)))

module _ (s : List ℕ) where
  -- parted at a byte
  pub part_parted : (b m e : ℕ) → b ≤ m → m < e → e ≤ length s → part s b e ≡ part s b m ++ (get_or s m 0 ∷ part s (m + 1) e)
  part_parted b m e p h l = part_split s b m e p (omega arith) l ∙ ap (λ (u : List ℕ). part s b m ++ u) (part_some s m e h l)

  pub part_one : (b : ℕ) → b < length s → part s b (b + 1) ≡ get_or s b 0 ∷ []
  part_one b h =
      part_some s b (b + 1) (omega arith) (omega arith) ∙ ap (λ (u : List ℕ). get_or s b 0 ∷ u) (part_none s (b + 1) (b + 1) (omega arith))

  -- one byte more
  pub part_more : (b e : ℕ) → b ≤ e → e < length s → part s b (e + 1) ≡ part s b e ++ (get_or s e 0 ∷ [])
  part_more b e p h = part_split s b e (e + 1) p (omega arith) (omega arith) ∙ ap (λ (u : List ℕ). part s b e ++ u) (part_one e h)
