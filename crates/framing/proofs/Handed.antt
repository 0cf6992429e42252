-- A part whose first bytes stand at the start of the store is handed over as its own item: the count, though it stops growing, tells a message from
-- a longer item. Assumes nothing.
use mathlib.Core.Path.{◌≡◌, refl, sym, ap, ◌∙◌}
use mathlib.Core.Bool.{Bool, true, false, cond}
use mathlib.Core.List.{List}
use Prim.Native.Nat.{ℕ, ◌+◌, ◌-◌, ◌≤◌, min}
use native.Mathlib.Omega.{arith}
use lib.ListN.{length, take}
use lib.Seq.{take_all, take-take}
use lib.Dec.{leb, eqb}
use borrow.Author.Tests.{leb-true, leb-false, lt-leb, eq-eqb, ne_eqb, eqb-true}
use Rattle.framing.specs.Cutting.{item_of}
use Rattle.framing.specs.Stream.{empty, message, too_long, item_of_part, Handed, an_empty, a_message, one_too_long, Lent, Begins}

-- an item that the count tells from its length n and that stands at the start of the store is the item of its part q
module _ (limit : ℕ) (b q s : List ℕ) (lent : Lent limit b s) (long : length b ≤ length q) (begins : Begins limit b q s) where
  abbrev n : ℕ
  n = min (length q) 4294967295

  pub handed_part : Handed (item_of limit (length b) n) s (item_of_part limit b q)
  unfolding item_of item_of_part
  handed_part = go (eqb (length q) (length b)) refl (leb (length q - length b) limit) refl
    where
      whole : length q ≤ limit + length b → take (length q) s ≡ q
      whole short =
          let all : take (limit + length b) q ≡ q = take_all (limit + length b) q short in
          rw all at begins

      go : (t : Bool) → eqb (length q) (length b) ≡ t → (u : Bool) → leb (length q - length b) limit ≡ u
          → Handed (item_of limit (length b) n) s (cond t empty (cond u (message (take (length q - length b) q)) too_long))
      go true e u _ =
          let same : n ≡ length b = omega (arith, eqb-true (length q) (length b) e, lent.few) in
          rw (eq-eqb n (length b) same) an_empty
      go false e true f =
          let short = leb-true (length q - length b) limit f in
          let count : n ≡ length q = omega (arith, lent.few, lent.countable) in
          let body : take (length q - length b) s ≡ take (length q - length b) q =
          sym (take-take (length q - length b) (length q) s (omega arith)) ∙ ap (take (length q - length b)) (whole (omega arith)) in
          rw (count, e, f, ← body) a_message
      go false e false f =
          let over = leb-false (length q - length b) limit f in
          let other : n ≡ length b → ⊥ = λ same. omega (arith, lent.few, lent.countable) in
          rw (ne_eqb n (length b) other, lt-leb (n - length b) limit (omega (arith, lent.few, lent.countable))) one_too_long
