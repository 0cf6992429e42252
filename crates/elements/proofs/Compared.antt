-- A part of the message as the code lends it, and `==` of two runs of bytes. Assumes nothing.
use Prim.Native.Nat.{ℕ, ◌+◌, ◌-◌, min}
use mathlib.Core.Path.{◌≡◌, refl, sym, ◌∙◌, ap}
use mathlib.Core.Bool.{Bool, ◌&&◌}
use mathlib.Core.List.{List, [], ◌∷◌}
use native.Mathlib.Decide.{dec_lt}
use native.Mathlib.Nat.{min-eq_left, min-eq_right}
use native.Mathlib.Omega.{arith}
use lib.ListN.{length, take, drop}
use lib.Seq.{take_all}
use lib.Dec.{eqb}
use lib.Pointwise.{pointwise}
use Rattle.std.proofs.lemmas.List.{drop-take}
use Rattle.laws.specs.Bytes.{same_bytes}
use Rattle.message.specs.Elements.{part}
use Rattle.message.proofs.Parts.{part_none}

pub same_compared : (u v : List ℕ) → pointwise eqb u v ≡ same_bytes u v
unfolding same_bytes
same_compared [] [] = refl
same_compared [] (y ∷ v) = refl
same_compared (x ∷ u) [] = refl
same_compared (x ∷ u) (y ∷ v) = ap (λ (t : Bool). eqb x y && t) (same_compared u v)

module _ (s : List ℕ) (b e : ℕ) where
  -- one that would begin behind its end is empty
  part_from : (to : ℕ) → part s (min b to) to ≡ part s b to
  part_from to =
      elim (dec_lt b to) [
        | yes m ↦ ap (λ (n : ℕ). part s n to) (min-eq_left (omega arith))
        | no m ↦ ap (λ (n : ℕ). part s n to) (min-eq_right (omega arith)) ∙ part_none s to to (omega arith) ∙ sym (part_none s b to (omega arith))
      ]

  -- one that would end behind the message ends there
  part_within : part s b (min e (length s)) ≡ part s b e
  part_within =
      elim (dec_lt e (length s)) [
        | yes m ↦ ap (part s b) (min-eq_left (omega arith))
        | no m ↦
            ap (part s b) (min-eq_right (omega arith))
            ∙ ap (drop b) (take_all (length s) s (omega arith) ∙ sym (take_all e s (omega arith)))
      ]

  pub part_lent : {from to : ℕ} → to ≡ min e (length s) → from ≡ min b to → take (to - from) (drop from s) ≡ part s b e
  part_lent {from} {to} to-is from-is =
      let whole : from + (to - from) ≡ to = omega arith in
      sym (drop-take from (to - from) s)
      ∙ ap (λ (n : ℕ). drop from (take n s)) whole
      ∙ ap (λ (n : ℕ). part s n to) from-is
      ∙ part_from to
      ∙ ap (part s b) to-is
      ∙ part_within
