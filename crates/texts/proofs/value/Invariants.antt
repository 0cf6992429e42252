-- The digits that are left, behind the number so far, name what all do.
use Rattle.std.proofs.Common.{◌≡◌, drop}
use Rattle.message.specs.Values.{decimal_from}
use Rattle.texts.proofs.value.Given as goal

abbrev pub invariant-loop-digit : goal.invariant-loop-digit
invariant-loop-digit l = decimal_from l.number (drop l.digit-index l.digits) ≡ decimal_from 0 l.digits
