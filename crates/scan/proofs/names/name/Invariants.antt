-- `scan::names::name` meets its contract: from each place that the loop comes to, the part there, and what is still to come behind it, are the name. Assumes nothing.
use Prim.Native.Nat.{ℕ, ◌+◌, ◌-◌}
use mathlib.Core.Path.{◌≡◌, refl, sym}
use mathlib.Core.Bool.{cond}
use mathlib.Core.List.{List}
use lib.Dec.{eqb}
use borrow.Author.Tests.{eq-eqb, ne_eqb}
use Rattle.message.specs.Class.{class_in}
use Rattle.message.specs.Reading.{Reading, ◌>>=◌, is, has}
use Rattle.message.specs.Reading.Reading.{whole}
use Rattle.message.specs.Names.{Named, part_at, name_at}
use Rattle.message.proofs.Laws.{cond_true, cond_false}
use Rattle.message.proofs.Facts.{then_same}
use Rattle.scan.proofs.names.name.Given as goal

-- what comes behind the part that begins at `local` and ends at `end`: after the first part a colon calls for a second, after the second nothing more
module _ (class : ℕ → ℕ) (most : ℕ) (s : List ℕ) (at : ℕ) where
  abbrev pub onward : ℕ → ℕ → Reading Named
  onward local end =
      let second : Reading Named = part_at class most s (end + 1) >>= (λ last. whole (record { local = end + 1; end = last })) in
      cond (eqb local at) (cond (has (is 58) s end) second (whole (record { local = at; end = end }))) (whole (record { local = local; end = end }))

  abbrev pub from : ℕ → Reading Named
  from local = part_at class most s local >>= onward local

  pub first : from at ≡ name_at class most s at
  unfolding name_at
  first = then_same (onward at) _ (part_at class most s at) (λ end q. sym (cond_true (whole (record { local = at; end = end })) (eq-eqb at at refl)))

  pub second : (end : ℕ) → (end + 1 ≡ at → ⊥) → from (end + 1) ≡ (part_at class most s (end + 1) >>= (λ last. whole (record { local = end + 1; end = last })))
  second end other = then_same (onward (end + 1)) _ (part_at class most s (end + 1)) (λ last q. sym (cond_false _ (ne_eqb (end + 1) at other)))

abbrev pub invariant-loop-end : goal.invariant-loop-end
invariant-loop-end l = from (class_in l.table) l.most l.s l.at l.local ≡ name_at (class_in l.table) l.most l.s l.at

abbrev pub decreases-loop-end : goal.decreases-loop-end
decreases-loop-end l = l.at + 1 - l.local
