-- Tests, as values of Bool: two that follow from each other are the same, and two that are not both passed. What else is known of tests is in
-- std's lemmas. Assumes nothing.
use mathlib.Core.Path.{◌≡◌, refl, sym}
use mathlib.Core.Bool.{Bool, true, false, not, ◌&&◌}

pub iff_same : (a b : Bool) → (a ≡ true → b ≡ true) → (b ≡ true → a ≡ true) → a ≡ b
iff_same true b f g = sym (f refl)
iff_same false true f g = g refl
iff_same false false f g = refl

pub not_both : (a : Bool) {b : Bool} → (a ≡ true → b ≡ false) → not (a && b) ≡ true
not_both true h = rw (h refl)
not_both false h = refl
