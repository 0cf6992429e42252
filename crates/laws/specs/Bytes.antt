-- Runs of bytes, as lists of numbers: when two are the same, when they stand in others, and when one is a tail of another. Assumes nothing.
use Rattle.std.specs.Prelude.{ℕ, ◌-◌, ◌≡◌, Bool, true, false, ◌&&◌, List, [], ◌∷◌, ◌++◌, length, take, drop, eqb}

-- whether u and v are the same bytes
unfoldable pub same_bytes : List ℕ → List ℕ → Bool
same_bytes [] [] = true
same_bytes [] (y ∷ v) = false
same_bytes (x ∷ u) [] = false
same_bytes (x ∷ u) (y ∷ v) = eqb x y && same_bytes u v

-- the n bytes of p from place i on are the n bytes of b from place j on
unfoldable pub same_at : ℕ → List ℕ → ℕ → List ℕ → ℕ → Bool
same_at n b j p i = same_bytes (take n (drop i p)) (take n (drop j b))

-- u is a tail of w: w is some bytes and then u
abbrev pub Ends : List ℕ → List ℕ → Type 0
Ends u w = (x : List ℕ) × (w ≡ x ++ u)

-- its test. A u that is longer than w fails it, since all of w is then compared with u
unfoldable pub ends_with : List ℕ → List ℕ → Bool
ends_with u w = same_bytes (drop (length w - length u) w) u
