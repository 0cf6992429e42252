-- What the session says before it goes is three events at most. Assumes nothing.
use mathlib.Core.List.{List}
use Prim.Native.Nat.{ℕ, ◌≤◌}
use native.Mathlib.Omega.{arith}
use lib.ListN.{length}
use Rattle.conduct.specs.Numbers.{all_numbered}
use Rattle.conduct.specs.Step.{parting_notes}
use Rattle.conduct.specs.declared.Parting.{Parting}
use Rattle.conduct.specs.declared.Parting.TheVariants.{Nothing, Disconnect, GoingOut, Alert}

pub few_partings : (held : List ℕ) (last : ℕ) (parting : Parting) → length (all_numbered held last (parting_notes parting)) ≤ 3
few_partings held last Nothing = omega arith
few_partings held last Disconnect = omega arith
few_partings held last GoingOut = omega arith
few_partings held last Alert = omega arith
