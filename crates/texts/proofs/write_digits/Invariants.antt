-- The digits that are still to write, and then those that are written, are the digits of the number.
use Rattle.std.proofs.Common.{◌≡◌, ◌++◌, length, drop}
use Rattle.texts.specs.Fields.{last_digits}
use Rattle.texts.proofs.write_digits.Given as goal

abbrev pub invariant-loop-at : goal.invariant-loop-at
invariant-loop-at l = last_digits l.at l.rest ++ drop l.at l.out ≡ last_digits (length l.fn.out) l.number
