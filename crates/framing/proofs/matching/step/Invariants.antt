-- `framing::matching::step` meets its contract. The invariant of its loop: no more than the first bytes still to be tried end the matched bytes and then `byte`.
-- Assumes nothing.
use Prim.Native.Nat.{suc, ◌-◌}
use mathlib.Core.List.{[], ◌∷◌, ◌++◌}
use lib.ListN.{length, take}
use Rattle.framing.proofs.Borders.{NoneAbove}
use Rattle.framing.proofs.matching.step.Given as goal

abbrev pub invariant-loop-tried : goal.invariant-loop-tried
invariant-loop-tried l = NoneAbove (suc (length l.boundary)) l.boundary (take l.matched l.boundary ++ (l.byte ∷ [])) (l.tried - 1)
