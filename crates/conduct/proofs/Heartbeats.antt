-- A SessionOk is the last that a call says, and none is sent while one is open. Assumes nothing.
use mathlib.Core.Path.{◌≡◌, refl, sym, ap, ◌∙◌}
use mathlib.Core.Bool.{Bool, true, false, ◌||◌}
use mathlib.Core.List.{List, [], ◌∷◌, ◌++◌}
use Prim.Native.Nat.{ℕ, ◌≤◌}
use native.Mathlib.Omega.{arith}
use lib.Dec.{eqb}
use lib.ListN.{length, length-append}
use borrow.Author.Tests.{eq-eqb}
use Rattle.std.proofs.lemmas.Bool.{both_ways, or_parts}
use Rattle.std.proofs.lemmas.List.{nil_from_length}
use Rattle.conduct.specs.Lists.{flat, some}
use Rattle.conduct.specs.Numbers.{all_numbered}
use Rattle.conduct.specs.Pushes.{terms_of, tells}
use Rattle.conduct.specs.Session.{session_ok_numbers, held}
use Rattle.conduct.specs.Step.{parting_notes, remark_notes, last_after_parting, events_by, Answered}
use Rattle.conduct.specs.Bounds.{OneSessionOk}
use Rattle.conduct.specs.Order.{HeartbeatLast}
use Rattle.conduct.specs.declared.Event.{Event}
use Rattle.conduct.specs.declared.Pushed.TheVariants.{Response, Advisory}
use Rattle.conduct.specs.declared.Push.{Push}
use Rattle.conduct.specs.declared.Sweep.{Sweep}
use Rattle.conduct.specs.declared.Sweep.TheVariants as sweeps
use Rattle.conduct.specs.declared.Parting.{Parting}
use Rattle.conduct.specs.declared.Remark.{Remark}
use Rattle.conduct.specs.declared.Remark.TheVariants as remarks
use Rattle.conduct.specs.declared.Move.{Move}
use Rattle.conduct.specs.declared.Terms.{Terms}
use Rattle.conduct.proofs.Lists.{some_append}
use Rattle.conduct.proofs.Moves.{is_session_ok, Usual, stays, departs, by_moves}
use Rattle.conduct.proofs.Said.{told_fails, parting_fails, remark_short}

abbrev is_heartbeat : Event → Bool
is_heartbeat e = eqb e.code 3

-- neither a parting nor an open push sends one
told_none : (terms : Terms) (sweep : Sweep) (ps : List Push) → some is_heartbeat (flat (tells terms sweep) ps) ≡ false
told_none terms sweep ps = told_fails is_heartbeat (λ n d. refl) terms sweep ps

parting_none : (hs : List ℕ) (parting : Parting) (last : ℕ) → some is_heartbeat (all_numbered hs last (parting_notes parting)) ≡ false
parting_none hs parting last = parting_fails is_heartbeat hs (λ l. refl) parting last

-- ---- the last

abbrev Ends : List Event → Type 0
Ends es = (a b : List Event) (e : Event) → es ≡ a ++ e ∷ b → e.code ≡ 3 → b ≡ []

ends_one : (es : List Event) → length es ≤ 1 → Ends es
ends_one es h a b e q t = nil_from_length b (omega (arith, ap length q, length-append a (e ∷ b)))

ends_after : (xs ys : List Event) → some is_heartbeat xs ≡ false → Ends ys → Ends (xs ++ ys)
ends_after [] ys n h a b e q t = h a b e q t
ends_after (x ∷ xs) ys n h [] b e q t =
    let same : x ≡ e = cc in
    absurd (both_ways _ (or_parts (is_heartbeat x) _ n).0 (eq-eqb x.code 3 (ap (λ (y : Event). y.code) same ∙ t)))
ends_after (x ∷ xs) ys n h (y ∷ a) b e q t =
    let rest : xs ++ ys ≡ a ++ e ∷ b = cc in
    ends_after xs ys (or_parts (is_heartbeat x) _ n).1 h a b e rest t

pub heartbeat_last : HeartbeatLast
heartbeat_last s c =
    by_moves (λ (a : Answered). Ends a.events) s c
    (λ m u.
    ends_after (all_numbered (held s) s.last (parting_notes m.parting)) _ (parting_none (held s) m.parting s.last)
    (ends_after (flat (tells (terms_of s.site) m.sweep) s.pushes) _ (told_none (terms_of s.site) m.sweep s.pushes)
    (ends_one _ (remark_short (held s) (last_after_parting s m) m.remark))))
    (λ k. ends_one [] (omega arith))

-- ---- while one is open

remark_sends : (hs : List ℕ) (last : ℕ) (remark : Remark) → some is_heartbeat (all_numbered hs last (remark_notes remark)) ≡ true
    → is_session_ok remark ≡ true
remark_sends hs last remarks.Nothing h = h
remark_sends hs last (remarks.Note code detail) h = go (eqb code 3) h
  where
    go : (b : Bool) → (b || false) ≡ true → b ≡ true
    go true e = refl
    go false e = e
remark_sends hs last (remarks.Send Response handle) h = h
remark_sends hs last (remarks.Send Advisory handle) h = h

pub one_session_ok_lem : OneSessionOk
one_session_ok_lem s c sound =
    by_moves (λ (a : Answered). some is_heartbeat a.events ≡ true → session_ok_numbers s.state ≡ []) s c moved
    (λ k h. cc)
  where
    moved : (m : Move) → Usual s.state m → some is_heartbeat (events_by s m) ≡ true → session_ok_numbers s.state ≡ []
    moved m (stays to sweep remark stay lost said ok) h =
        let e = some_append is_heartbeat (flat (tells (terms_of s.site) sweep) s.pushes) (all_numbered (held s) s.last (remark_notes remark)) in
        ok (remark_sends (held s) s.last remark (rw (told_none (terms_of s.site) sweep s.pushes) at (sym e ∙ h)))
    moved m (departs to parting d few) h =
        let told = flat (tells (terms_of s.site) sweeps.Lost) s.pushes in
        let e = some_append is_heartbeat (all_numbered (held s) s.last (parting_notes parting)) (told ++ []) in
        let f = some_append is_heartbeat told [] in
        absurd (both_ways _ (e ∙ rw (parting_none (held s) parting s.last, f, told_none (terms_of s.site) sweeps.Lost s.pushes)) h)
