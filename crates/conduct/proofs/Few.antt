-- At most 34 events come from a call: one for each of 32 open pushes, and at most two more. Assumes nothing.
use mathlib.Core.Path.{◌≡◌, refl, ap}
use mathlib.Core.Bool.{true}
use mathlib.Core.List.{List, [], ◌∷◌, ◌++◌}
use Prim.Native.Nat.{ℕ, suc, ◌+◌, ◌≤◌}
use native.Mathlib.Omega.{arith}
use lib.ListN.{length, length-append}
use Rattle.std.proofs.lemmas.Bool.Decides.{nat_tests}
use Rattle.conduct.specs.Lists.{flat}
use Rattle.conduct.specs.Numbers.{Note, last_after, all_numbered}
use Rattle.conduct.specs.Pushes.{terms_of, told_by, tells, fate_of}
use Rattle.conduct.specs.Session.{Session, is_up, held}
use Rattle.conduct.specs.Step.{parting_notes, remark_notes, events_by, Answered}
use Rattle.conduct.specs.Bounds.{FewEvents}
use Rattle.conduct.specs.declared.Push.{Push}
use Rattle.conduct.specs.declared.Sweep.{Sweep}
use Rattle.conduct.specs.declared.Sweep.TheVariants as sweeps
use Rattle.conduct.specs.declared.Fate.{Fate}
use Rattle.conduct.specs.declared.Fate.TheVariants.{Keep, Again, Close}
use Rattle.conduct.specs.declared.Parting.{Parting}
use Rattle.conduct.specs.declared.Move.{Move}
use Rattle.conduct.specs.declared.Terms.{Terms}
use Rattle.conduct.proofs.Lists.{length_flat_le}
use Rattle.conduct.proofs.Good.{Good, good}
use Rattle.conduct.proofs.Moves.{Usual, stays, departs, by_moves}
use Rattle.conduct.proofs.Said.{remark_short}

pub told_few : (terms : Terms) (sweep : Sweep) (ps : List Push) → length (flat (tells terms sweep) ps) ≤ length ps
told_few terms sweep ps = length_flat_le (tells terms sweep) (λ p. one (fate_of terms sweep p)) ps
  where
    one : (f : Fate) → length (told_by f) ≤ 1
    one (Keep q) = omega arith
    one (Again q e) = omega arith
    one (Close e) = omega arith

length_numbered : (hs : List ℕ) (last : ℕ) (notes : List Note) → length (all_numbered hs last notes) ≡ length notes
length_numbered hs last [] = refl
length_numbered hs last (note ∷ notes) = ap suc (length_numbered hs (last_after hs last note) notes)

-- three are said only where no push is open
departing : (s : Session) (parting : Parting) → Good s → (is_up s.state ≡ true → length (parting_notes parting) ≤ 2)
    → length (parting_notes parting) + length s.pushes ≤ 34
departing s parting g few = grind (arith, nat_tests)

move_few : (s : Session) (m : Move) → Good s → Usual s.state m → length (events_by s m) ≤ 34
move_few s m g (stays to sweep remark stay lost said ok) =
    let r = all_numbered (held s) s.last (remark_notes remark) in
    omega (
      arith,
      length-append (flat (tells (terms_of s.site) sweep) s.pushes) r,
      told_few (terms_of s.site) sweep s.pushes,
      remark_short (held s) s.last remark,
      g.room,
    )
move_few s m g (departs to parting down few) =
    let p = all_numbered (held s) s.last (parting_notes parting) in
    let t = flat (tells (terms_of s.site) sweeps.Lost) s.pushes in
    omega (
      arith,
      length-append p (t ++ []),
      length-append t [],
      length_numbered (held s) s.last (parting_notes parting),
      told_few (terms_of s.site) sweeps.Lost s.pushes,
      departing s parting g few,
    )

pub few_events : FewEvents
few_events s c ok = by_moves (λ (a : Answered). length a.events ≤ 34) s c (λ m u. move_few s m (good {s = s} ok) u) (λ k. omega arith)
