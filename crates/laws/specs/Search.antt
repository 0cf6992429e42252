-- The first and the last number that pass a test. Assumes nothing.
use Rattle.std.specs.Prelude.{ℕ, zero, suc, Bool, cond}

-- the least number below n that passes the test, and n where none does
unfoldable pub least : (ℕ → Bool) → ℕ → ℕ
least test zero = zero
least test (suc n) = cond (test zero) zero (suc (least (λ i. test (suc i)) n))

-- the greatest number below n that passes the test, and 0 where none does
unfoldable pub greatest : (ℕ → Bool) → ℕ → ℕ
greatest test zero = zero
greatest test (suc n) = cond (test n) n (greatest test n)
