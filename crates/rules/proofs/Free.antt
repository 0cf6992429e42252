-- The law of the search for a free number: one that is held is passed over. Assumes nothing.
use mathlib.Core.Path.{◌≡◌}
use mathlib.Core.Bool.{true}
use mathlib.Core.List.{List}
use Prim.Native.Nat.{ℕ, suc, ◌+◌, ◌-◌, ◌<◌}
use native.Mathlib.Omega.{arith}
use lib.ListN.{length}
use Rattle.conduct.specs.Lists.{among}
use Rattle.conduct.specs.Numbers.{after, free_from}

pub passed_over : (numbers : List ℕ) (i number : ℕ) → i < length numbers → among number numbers ≡ true
    → free_from (length numbers - i) number numbers ≡ free_from (length numbers - (i + 1)) (after number) numbers
passed_over numbers i number here held =
    let one_more : length numbers - i ≡ suc (length numbers - (i + 1)) = omega arith in
    rw (one_more, held)
