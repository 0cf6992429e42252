-- THEOREM `item_numbers`: the numbers by which C knows the items, and the length of a message. Assumes nothing.
use mathlib.Core.Path.{refl}
use Rattle.framing.specs.Promises.{ItemNumbers}

pub item_numbers : ItemNumbers
item_numbers = (refl, refl, (λ n. refl), refl, refl, refl, (λ n. refl), refl)
