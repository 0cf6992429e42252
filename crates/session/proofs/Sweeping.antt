-- A sweep of the rows so far leaves room, in the table and among the events, for what becomes of the next. Assumes nothing.
use mathlib.Core.Path.{◌≡◌}
use mathlib.Core.List.{List, []}
use Prim.Native.Nat.{ℕ, ◌≤◌, ◌<◌}
use native.Mathlib.Omega.{arith}
use lib.ListN.{length, take, length-append, length-take}
use Rattle.conduct.specs.Lists.{flat}
use Rattle.conduct.specs.Pushes.{tells}
use Rattle.conduct.specs.declared.Push.{Push}
use Rattle.conduct.specs.declared.Sweep.{Sweep}
use Rattle.conduct.specs.declared.Terms.{Terms}
use Rattle.conduct.proofs.Kept.{kept_few}
use Rattle.conduct.proofs.Few.{told_few}
use Rattle.session.specs.Written.{Draft, swept_by}

module _ (terms : Terms) (sweep : Sweep) (rows : List Push) (d : Draft) (i : ℕ) (before : Draft) (so_far : before ≡ swept_by terms sweep (take i rows) d)
    (more : i < length rows) (fits : length rows ≤ 32) where
  pub room_kept : d.pushes ≡ [] → length before.pushes < 32
  room_kept none = rw (so_far, none) (omega (arith, kept_few terms sweep (take i rows), length-take i rows))

  pub room_said : length d.events ≤ 3 → length before.events < 40
  room_said few =
      rw so_far (omega (arith, length-append d.events (flat (tells terms sweep) (take i rows)), told_few terms sweep (take i rows), length-take i rows))
