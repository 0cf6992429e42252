-- The table of classes gives each byte the class that document 01 gives it, and what is no byte has none. Assumes nothing.
use Prim.Native.Nat.{ℕ, zero, suc, ◌+◌, ◌<◌}
use mathlib.Core.Path.{◌≡◌, refl, ◌∙◌, ap, fun_ext}
use native.Mathlib.Omega.{arith}
use native.Mathlib.Nat.{zero-add, add-zero, add-suc, suc-add}
use native.Mathlib.Decide.{dec_lt}
use lib.ListN.{length, get_or, get_or-eq_default}
use Rattle.std.proofs.lemmas.Bool.Decides.{nat_tests}
use Rattle.message.specs.Class.{class_of, classes_from, class_table, class_in}

classes_length : (b n : ℕ) → length (classes_from b n) ≡ n
classes_length b zero = refl
classes_length b (suc n) = rw (classes_length (suc b) n)

-- the k-th of the classes from b on
classes_at : (b n k : ℕ) → k < n → get_or (classes_from b n) k 0 ≡ class_of (b + k)
classes_at b zero k h = absurd (omega arith)
classes_at b (suc n) zero h = rw add-zero
classes_at b (suc n) (suc k) h = classes_at (suc b) n k (omega arith) ∙ rw (add-suc, suc-add)

-- no class above the ASCII bytes
none_above : (x : ℕ) → 127 < x → 0 ≡ class_of x
unfolding class_of
none_above x h = grind (arith, nat_tests)

pub table_is : class_in class_table ≡ class_of
table_is = fun_ext go
  where
    go : (x : ℕ) → class_in class_table x ≡ class_of x
    go x =
        elim (dec_lt x 256) [
          | yes h ↦ classes_at 0 256 x h ∙ ap class_of (zero-add x)
          | no h ↦ get_or-eq_default class_table 0 {n = x} (omega (arith, classes_length 0 256)) ∙ none_above x (omega arith)
        ]
