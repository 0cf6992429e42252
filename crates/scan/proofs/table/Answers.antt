-- `scan::table` meets its contract: antt computes the class of each of the 256 bytes, and compares. Assumes nothing.
use mathlib.Core.Path.{refl}
use Rattle.message.specs.Class.{class_of}
use Rattle.scan.proofs.table.Goals as goal

pub returns : goal.returns
unfolding class_of
returns c = refl
