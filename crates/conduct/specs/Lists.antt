-- Words for lists that the definitions of a session use. Assumes nothing.
use Rattle.std.specs.Prelude.{Bool, true, false, cond, not, ◌&&◌, ◌||◌, List, [], ◌∷◌, ◌++◌, ℕ, eqb}

-- f of each element, one after the other
abbrev pub flat : {A B : Type 0} → (A → List B) → List A → List B
flat f [] = []
flat f (x ∷ xs) = f x ++ flat f xs

-- an element if it passes a test; of a list those that do, whether one does, and whether all do
abbrev pub only : {A : Type 0} → (A → Bool) → A → List A
only test x = cond (test x) (x ∷ []) []

abbrev pub those : {A : Type 0} → (A → Bool) → List A → List A
those test xs = flat (only test) xs

abbrev pub some : {A : Type 0} → (A → Bool) → List A → Bool
some test [] = false
some test (x ∷ xs) = test x || some test xs

abbrev pub all : {A : Type 0} → (A → Bool) → List A → Bool
all test [] = true
all test (x ∷ xs) = test x && all test xs

-- whether n is among the numbers
abbrev pub among : ℕ → List ℕ → Bool
among n xs = some (eqb n) xs

-- whether no number comes twice
abbrev pub distinct : List ℕ → Bool
distinct [] = true
distinct (x ∷ xs) = not (among x xs) && distinct xs
