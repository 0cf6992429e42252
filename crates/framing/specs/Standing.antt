-- Where the boundary stands whole in a piece: what the code looks for, many places at a time, instead of going through the piece byte by byte.
-- Only contracts of private functions cite it; proofs/Stands shows that a piece cut by it is cut as Cutting says. Assumes nothing.
use Rattle.std.specs.Prelude.{ℕ, zero, suc, ◌+◌, ◌-◌, ◌/◌, Bool, false, ◌&&◌, ◌||◌, List, length, get_or, eqb}
use Rattle.laws.specs.Search.{least}
use Rattle.laws.specs.Bytes.{same_at}

-- b stands in p at place i
abbrev pub stands_at : List ℕ → List ℕ → ℕ → Bool
stands_at b p i = same_at (length b) b 0 p i

-- the first of the places from i on and below e at which b stands in p, and e where it stands at none
unfoldable pub first_from : List ℕ → List ℕ → ℕ → ℕ → ℕ
first_from b p i e = i + least (λ d. stands_at b p (i + d)) (e - i)

-- two bytes of b, the first and that at place j, stand in p as they do where b stands at place i
abbrev pub pair_at : List ℕ → ℕ → List ℕ → ℕ → Bool
pair_at b j p i = eqb (get_or p i 0) (get_or b 0 0) && eqb (get_or p (i + j) 0) (get_or b j 0)

-- one of the first n numbers passes the test
unfoldable pub some_below : (ℕ → Bool) → ℕ → Bool
some_below test zero = false
some_below test (suc n) = some_below test n || test n

-- the places of a block
abbrev pub block_places : ℕ
block_places = 32

-- such a pair stands in p at one of the places of the block from place i on
abbrev pub pair_in : List ℕ → ℕ → List ℕ → ℕ → Bool
pair_in b j p i = some_below (λ d. pair_at b j p (i + d)) block_places

-- the block from place i on is worth a closer look: the first byte of b stands in it with the last one, and with the one in the middle
abbrev pub may_stand : List ℕ → List ℕ → ℕ → Bool
may_stand b p i = pair_in b (length b - 1) p i && pair_in b (length b / 2) p i
