-- `framing::matching::scan` meets its contract. The invariant of its loop is `Seen`, and the laws of `Matcher` say what a turn, an item's end and the piece's end make of it.
-- Assumes nothing.
use Rattle.framing.proofs.Matcher.{Seen}
use Rattle.framing.proofs.matching.scan.Given as goal

abbrev pub invariant-loop-i : goal.invariant-loop-i
invariant-loop-i l = Seen l.boundary l.piece l.held l.i l.matched
