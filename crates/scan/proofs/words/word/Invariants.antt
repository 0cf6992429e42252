-- `scan::words::word` meets its contract: from the two places that the loop comes to, what is left of the word gives what the whole word gave at the
-- start. Assumes nothing.
use mathlib.Core.Path.{◌≡◌}
use lib.ListN.{drop}
use Rattle.message.specs.Reading.{word_at}
use Rattle.scan.proofs.words.word.Given as goal

abbrev pub invariant-loop-b : goal.invariant-loop-b
invariant-loop-b l = word_at (drop l.b-index l.w) l.s l.end ≡ word_at l.w l.s l.at
