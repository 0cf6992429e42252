-- `session::writing::Written::sweep` meets its contract. The invariant: what is written is what a sweep of the rows so far writes. Assumes nothing.
use Rattle.std.proofs.Common.{◌≡◌, take}
use Rattle.session.specs.Written.{swept_by}
use Rattle.session.proofs.writing.Written.sweep.Given as goal

abbrev pub invariant-loop-p : goal.invariant-loop-p
invariant-loop-p l = l.self ≡ swept_by l.terms l.sweep (take l.p-index l.rows) l.initial.self
