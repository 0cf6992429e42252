-- Numbers among others: to be among numbers in a row is to be within their bounds, and a test that some numbers pass, each number
-- among them passes. Assumes nothing.
use mathlib.Core.Path.{◌≡◌}
use mathlib.Core.Bool.{Bool, true, ◌&&◌}
use mathlib.Core.List.{List, [], ◌∷◌}
use mathlib.Core.Logic.{⊎_elim}
use Prim.Native.Nat.{ℕ, zero, suc, ◌+◌}
use native.Mathlib.Omega.{arith}
use lib.Dec.{leb, eqb}
use borrow.Author.Tests.{eqb-true}
use Rattle.std.proofs.lemmas.Bool.{and_parts, or_cases}
use Rattle.std.proofs.lemmas.Bool.Decides.{nat_tests}
use Rattle.conduct.specs.Lists.{all, among}

-- numbers in a row
abbrev pub row : ℕ → ℕ → List ℕ
row zero a = a ∷ []
row (suc k) a = a ∷ row k (a + 1)

pub row_among : (k a r : ℕ) → among r (row k a) ≡ (leb a r && leb r (a + k))
row_among zero a r = grind (arith, nat_tests)
row_among (suc k) a r = rw (row_among k (a + 1) r) (grind (arith, nat_tests))

pub all_among : (test : ℕ → Bool) (xs : List ℕ) → all test xs ≡ true → (n : ℕ) → among n xs ≡ true → test n ≡ true
all_among test [] h n e = cc
all_among test (x ∷ xs) h n e =
    let b = and_parts (test x) (all test xs) h in
    ⊎_elim (λ q. rw (eqb-true n x q) b.0) (λ q. all_among test xs b.1 n q) (or_cases (eqb n x) (among n xs) e)
