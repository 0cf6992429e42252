-- The digits that are put are the number in decimal (`Decimals`).
use Rattle.std.proofs.Common.{arith}
use Rattle.texts.proofs.Decimals.{digits_written}
use Rattle.texts.proofs.Line.put_number.Goals as goal

pub returns : goal.returns
returns g c =
    let digits = digits_written c.args.number _ _ _ c.digit_count.ensures.counted (omega arith) c.write_digits.ensures in
    grind arith
