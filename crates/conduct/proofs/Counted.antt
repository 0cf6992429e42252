-- As many pushes are open as were accepted and not closed: of each call by its parts, and so of any calls. Assumes nothing.
use mathlib.Core.Path.{◌≡◌, refl, ap, ◌∙◌}
use mathlib.Core.Bool.{Bool, true, false}
use mathlib.Core.List.{List, [], ◌∷◌, ◌++◌}
use Prim.Native.Nat.{◌+◌}
use native.Mathlib.Omega.{arith}
use lib.ListN.{length, length-append, length-map}
use Rattle.std.proofs.lemmas.Bool.Decides.{nat_tests}
use Rattle.conduct.specs.Lists.{flat, only, those, some}
use Rattle.conduct.specs.Numbers.{all_numbered, next_free}
use Rattle.conduct.specs.Pushes.{terms_of, told_by, kept_by, keeps, tells, fate_of}
use Rattle.conduct.specs.Session.{Session, held}
use Rattle.conduct.specs.Step.{parting_notes, remark_notes, opens, events_by, moved_by, Answered, step}
use Rattle.conduct.specs.History.{first_sending, is_closing, history, events_in}
use Rattle.conduct.specs.Bounds.{sendings, closed, OpenAreCounted}
use Rattle.conduct.specs.Order.{acceptance}
use Rattle.conduct.specs.declared.Event.{Event}
use Rattle.conduct.specs.declared.Push.{Push}
use Rattle.conduct.specs.declared.Sweep.{Sweep}
use Rattle.conduct.specs.declared.Sweep.TheVariants as sweeps
use Rattle.conduct.specs.declared.Fate.{Fate}
use Rattle.conduct.specs.declared.Fate.TheVariants.{Keep, Again, Close}
use Rattle.conduct.specs.declared.Parting.{Parting}
use Rattle.conduct.specs.declared.Remark.{Remark}
use Rattle.conduct.specs.declared.Call.{Call}
use Rattle.conduct.specs.declared.Move.{Move}
use Rattle.conduct.specs.declared.Terms.{Terms}
use Rattle.conduct.proofs.Lists.{flat_append, none_those}
use Rattle.conduct.proofs.Sweeps.{Of, fate_of_lem}
use Rattle.conduct.proofs.Moves.{usual, Usual, stays, departs, by_moves}
use Rattle.conduct.proofs.Acceptance.{remark_accepts}
use Rattle.conduct.proofs.Said.{told_fails}

count_append : (test : Event → Bool) (xs ys : List Event)
    → length (those test (xs ++ ys)) ≡ length (those test xs) + length (those test ys)
count_append test xs ys = ap length (flat_append (only test) xs ys) ∙ length-append (those test xs) (those test ys)

-- ---- the parts of a call

-- each open push is closed, or stays
fate_count : (p : Push) (f : Fate) → Of p f → closed (told_by f) + length (kept_by f) ≡ 1
fate_count p (Keep q) h = refl
fate_count p (Again q e) h = rw h.2
fate_count p (Close e) h = rw h.1

sweep_count : (terms : Terms) (sweep : Sweep) (ps : List Push) → closed (flat (tells terms sweep) ps) + length (flat (keeps terms sweep) ps) ≡ length ps
sweep_count terms sweep [] = refl
sweep_count terms sweep (p ∷ ps) =
    let one = fate_count p (fate_of terms sweep p) (fate_of_lem terms sweep p) in
    let told = count_append is_closing (tells terms sweep p) (flat (tells terms sweep) ps) in
    let kept = length-append (keeps terms sweep p) (flat (keeps terms sweep) ps) in
    omega (arith, sweep_count terms sweep ps)

none_counted : (test : Event → Bool) (es : List Event) → some test es ≡ false → length (those test es) ≡ 0
none_counted test es h = ap length (none_those test es h)

-- an open push sends nothing for the first time
none_sent : (terms : Terms) (sweep : Sweep) (ps : List Push) → sendings (flat (tells terms sweep) ps) ≡ 0
none_sent terms sweep ps = none_counted first_sending (flat (tells terms sweep) ps) (told_fails first_sending (λ n d. refl) terms sweep ps)

-- a parting neither sends nor closes one
parting_count : (s : Session) (parting : Parting)
    → (closed (all_numbered (held s) s.last (parting_notes parting)) ≡ 0)
    × (sendings (all_numbered (held s) s.last (parting_notes parting)) ≡ 0)
parting_count s parting = grind (arith, nat_tests)

remark_closes : (s : Session) (remark : Remark) → usual remark ≡ true → closed (all_numbered (held s) s.last (remark_notes remark)) ≡ 0
remark_closes s remark u = grind (arith, nat_tests)

remark_opens : (s : Session) (remark : Remark) → usual remark ≡ true
    → sendings (all_numbered (held s) s.last (remark_notes remark)) ≡ length (opens (next_free (held s) s.last) remark)
remark_opens s remark u =
    ap length (remark_accepts (held s) s.last remark u) ∙ length-map (opens (next_free (held s) s.last) remark) acceptance

-- ---- a call, and calls

abbrev Counts : Session → Session → List Event → Type 0
Counts s t es = length t.pushes + closed es ≡ length s.pushes + sendings es

move_counts : (s : Session) (m : Move) → Usual s.state m → Counts s (moved_by s m) (events_by s m)
move_counts s m (stays to sweep remark stay lost said ok) =
    let t = flat (tells (terms_of s.site) sweep) s.pushes in
    let r = all_numbered (held s) s.last (remark_notes remark) in
    omega (
      arith,
      length-append (flat (keeps (terms_of s.site) sweep) s.pushes) (opens (next_free (held s) s.last) remark),
      count_append is_closing t r,
      count_append first_sending t r,
      sweep_count (terms_of s.site) sweep s.pushes,
      none_sent (terms_of s.site) sweep s.pushes,
      remark_closes s remark said,
      remark_opens s remark said,
    )
move_counts s m (departs to parting down few) =
    let p = all_numbered (held s) s.last (parting_notes parting) in
    let t = flat (tells (terms_of s.site) sweeps.Lost) s.pushes in
    omega (
      arith,
      length-append (flat (keeps (terms_of s.site) sweeps.Lost) s.pushes) [],
      count_append is_closing p (t ++ []),
      count_append is_closing t [],
      count_append first_sending p (t ++ []),
      count_append first_sending t [],
      sweep_count (terms_of s.site) sweeps.Lost s.pushes,
      none_sent (terms_of s.site) sweeps.Lost s.pushes,
      (parting_count s parting).0,
      (parting_count s parting).1,
    )

step_counts : (s : Session) (c : Call) → Counts s (step s c).next (step s c).events
step_counts s c = by_moves (λ (a : Answered). Counts s a.next a.events) s c (move_counts s) (λ k. refl)

pub open_are_counted : OpenAreCounted
open_are_counted s [] = refl
open_are_counted s (c ∷ cs) =
    let es = (step s c).events in
    let rest = events_in (history (step s c).next cs) in
    omega (
      arith,
      step_counts s c,
      open_are_counted (step s c).next cs,
      count_append is_closing es rest,
      count_append first_sending es rest,
    )
