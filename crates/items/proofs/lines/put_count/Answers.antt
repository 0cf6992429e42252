-- A number of 64 bits has 20 digits at most (`texts`, `Fields`).
use Rattle.std.proofs.Common.{arith}
use Rattle.texts.proofs.Fields.{decimal_within_20}
use Rattle.items.proofs.lines.put_count.Goals as goal

pub returns-in-Some-clause-within : goal.returns-in-Some-clause-within
returns-in-Some-clause-within c = rw c.in-Some.is (decimal_within_20 c.in-Some.count (omega arith))
