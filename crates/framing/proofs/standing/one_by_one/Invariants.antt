-- `framing::standing::one_by_one` meets its contract. The invariant of its loop: the boundary stands at none of the places from `from` on and below `at`. Assumes nothing.
use Rattle.framing.proofs.Stands.{NoneFrom}
use Rattle.framing.proofs.standing.one_by_one.Given as goal

abbrev pub invariant-loop-at : goal.invariant-loop-at
invariant-loop-at l = NoneFrom l.boundary l.piece l.from l.at
