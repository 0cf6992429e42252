-- Fields of a line, numbers in decimal, and a line that a field is written to. Assumes nothing.
use Rattle.std.specs.Prelude.{ℕ, zero, suc, ◌+◌, ◌/◌, ◌%◌, ◌^◌, cond, List, [], ◌∷◌, ◌++◌, ltb, leb, eqb, length, Option, None, Some}
use Rattle.laws.specs.Search.{least}

-- what stands behind a field: a space, or the LF of its line
abbrev pub space : ℕ
space = 32

abbrev pub line_end : ℕ
line_end = 10

-- a field and what stands behind it
abbrev pub field : List ℕ → ℕ → List ℕ
field text behind = text ++ (behind ∷ [])

-- the fewest digits, and no fewer than one, that hold n
unfoldable pub places : ℕ → ℕ
places n = suc (least (λ k. ltb n (10 ^ suc k)) n)

-- the last so many digits of n, the most significant first, with zeros in front where n has fewer
abbrev pub last_digits : ℕ → ℕ → List ℕ
last_digits zero n = []
last_digits (suc k) n = last_digits k (n / 10) ++ ((48 + n % 10) ∷ [])

-- a number in decimal, without leading zeros
unfoldable pub decimal : ℕ → List ℕ
unfolding places
decimal n = last_digits (places n) n

-- ---- a field w behind a line of at most so many bytes; where it has no room nothing is written

abbrev pub put_in : ℕ → List ℕ → List ℕ → List ℕ
put_in most line w = cond (leb (length line + length w) most) (line ++ w) line

-- ---- a text of so many bytes that begins with a zero names 0 if that is all

abbrev pub zero_alone : ℕ → Option ℕ
zero_alone length = cond (eqb length 1) (Some 0) None
