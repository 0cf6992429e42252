-- `elements::tags::repeated` meets its contract: from the two places that the loop comes to, what is left of the word is repeated up to where all of it is.
-- Assumes nothing.
use mathlib.Core.Path.{◌≡◌}
use lib.ListN.{drop}
use Rattle.elements.specs.Held.{same_up_to}
use Rattle.elements.proofs.tags.repeated.Given as goal

abbrev pub invariant-loop-byte : goal.invariant-loop-byte
invariant-loop-byte l = same_up_to (drop l.byte-index l.word) l.s l.i ≡ same_up_to l.word l.s l.at
