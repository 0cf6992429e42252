-- `elements::tags::eight_stand` meets its contract. The invariant of its loop: `same` says whether the first i of the eight are. Assumes nothing.
use mathlib.Core.Path.{◌≡◌}
use Rattle.laws.specs.Bytes.{same_at}
use Rattle.elements.proofs.tags.eight_stand.Given as goal

abbrev pub invariant-loop-i : goal.invariant-loop-i
invariant-loop-i l = l.same ≡ same_at l.i l.s l.b l.s l.at
