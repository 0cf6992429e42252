-- The list that C lends for an answer's numbers (document 01, "Numbers of refusal"). Assumes nothing.
use Rattle.std.specs.Prelude.{ℕ, ◌+◌, Bool, List, ◌++◌, length, take, drop, ltb}

-- refusal 3, before all else: the list has fewer than 40 places
abbrev pub too_short : List ℕ → Bool
too_short a = ltb (length a) 40

-- the numbers at the start of the list, and its later places as they were
abbrev pub written : List ℕ → List ℕ → List ℕ
written numbers a = numbers ++ drop (length numbers) a

-- the numbers from the place on, and the places before and behind them as they were
abbrev pub placed : ℕ → List ℕ → List ℕ → List ℕ
placed at numbers a = take at a ++ numbers ++ drop (at + length numbers) a
