-- `session::writing::Written::new` meets its contract, by computation. Assumes nothing.
use mathlib.Core.Path.{refl}
use mathlib.Core.List.{[]}
use native.Mathlib.Omega.{arith}
use Rattle.session.specs.Rows.{table_of, rows_of, events_of, list_of}
use Rattle.session.proofs.Rows.{packed_of, listed_of}
use Rattle.session.proofs.writing.Written.new.Goals as goal

pub invariant_of-result : goal.invariant_of-result
unfolding table_of events_of
invariant_of-result c = (packed_of [] (omega arith), listed_of [] (omega arith))

pub returns : goal.returns
unfolding rows_of list_of
returns c = refl
