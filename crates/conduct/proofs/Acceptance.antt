-- The open pushes stand in the order in which they were accepted: a sweep leaves some out, and a push that is accepted comes last.
-- Assumes nothing.
use mathlib.Core.Path.{◌≡◌, refl, sym, ap₂, subst, ◌∙◌}
use mathlib.Core.Bool.{true}
use mathlib.Core.List.{List, [], ◌∷◌, ◌++◌, map, append-nil, append_assoc}
use Prim.Native.Nat.{ℕ}
use Rattle.std.proofs.lemmas.List.{map-append}
use Rattle.std.proofs.lemmas.Bool.Decides.{nat_tests}
use native.Mathlib.Omega.{arith}
use Rattle.conduct.specs.Lists.{flat, only, those}
use Rattle.conduct.specs.Numbers.{next_free, all_numbered}
use Rattle.conduct.specs.Pushes.{terms_of, kept_by, keeps, tells, fate_of}
use Rattle.conduct.specs.Session.{Session, held}
use Rattle.conduct.specs.Step.{remark_notes, opens, events_by, moved_by, Answered, step}
use Rattle.conduct.specs.History.{first_sending, history, events_in}
use Rattle.conduct.specs.Followed.{first_code}
use Rattle.conduct.specs.Order.{Thinned, none, kept, left, acceptance, InOrderOfAcceptance}
use Rattle.conduct.specs.declared.Event.{Event}
use Rattle.conduct.specs.declared.Pushed.TheVariants.{Response, Advisory}
use Rattle.conduct.specs.declared.Push.{Push}
use Rattle.conduct.specs.declared.Sweep.{Sweep}
use Rattle.conduct.specs.declared.Sweep.TheVariants as sweeps
use Rattle.conduct.specs.declared.Fate.{Fate}
use Rattle.conduct.specs.declared.Fate.TheVariants.{Keep, Again, Close}
use Rattle.conduct.specs.declared.Remark.{Remark}
use Rattle.conduct.specs.declared.Remark.TheVariants as remarks
use Rattle.conduct.specs.declared.Call.{Call}
use Rattle.conduct.specs.declared.Move.{Move}
use Rattle.conduct.specs.declared.Terms.{Terms}
use Rattle.conduct.proofs.Lists.{flat_append, flat_nothing, none_those}
use Rattle.conduct.proofs.Sweeps.{Same, Of, fate_of_lem}
use Rattle.conduct.proofs.Moves.{usual, Usual, stays, departs, by_moves}
use Rattle.conduct.proofs.Said.{told_fails}

-- ---- lists of which some is left out

thin_same : {A : Type 0} (xs : List A) → Thinned xs xs
thin_same [] = none
thin_same (x ∷ xs) = kept x xs xs (thin_same xs)

pub thin_none : {A : Type 0} (xs : List A) → Thinned [] xs
thin_none [] = none
thin_none (x ∷ xs) = left x [] xs (thin_none xs)

thin_append : {A : Type 0} {xs ys us vs : List A} → Thinned xs ys → Thinned us vs → Thinned (xs ++ us) (ys ++ vs)
thin_append none b = b
thin_append (kept x xs ys a) b = kept x _ _ (thin_append a b)
thin_append (left y xs ys a) b = left y _ _ (thin_append a b)

thin_again : {A : Type 0} {xs ys zs : List A} → Thinned ys zs → Thinned xs ys → Thinned xs zs
thin_again none a = a
thin_again (kept y ys zs b) (kept x xs ws a) = kept x xs zs (thin_again b a)
thin_again (kept y ys zs b) (left x xs ws a) = left y xs zs (thin_again b a)
thin_again {xs = xs} (left z ys zs b) a = left z xs zs (thin_again b a)

-- ---- a sweep

same_acceptance : {p q : Push} → Same p q → acceptance p ≡ acceptance q
same_acceptance {p} {q} h = λ i. record { code = first_code (sym h.kind i); number = sym h.named i; detail = sym h.handled i }

sweep_thins : (terms : Terms) (sweep : Sweep) (ps : List Push) → Thinned (map acceptance (flat (keeps terms sweep) ps)) (map acceptance ps)
sweep_thins terms sweep [] = none
sweep_thins terms sweep (p ∷ ps) = go (fate_of terms sweep p) (fate_of_lem terms sweep p) (sweep_thins terms sweep ps)
  where
    stayed : (q : Push) → Same p q → Thinned (map acceptance (flat (keeps terms sweep) ps)) (map acceptance ps)
        → Thinned (acceptance q ∷ map acceptance (flat (keeps terms sweep) ps)) (acceptance p ∷ map acceptance ps)
    stayed q h t =
        subst (λ (e : Event). Thinned (e ∷ map acceptance (flat (keeps terms sweep) ps)) (acceptance p ∷ map acceptance ps)) (same_acceptance h)
        (kept (acceptance p) _ _ t)

    go : (f : Fate) → Of p f → Thinned (map acceptance (flat (keeps terms sweep) ps)) (map acceptance ps)
        → Thinned (map acceptance (kept_by f ++ flat (keeps terms sweep) ps)) (acceptance p ∷ map acceptance ps)
    go (Keep q) h t = stayed q h t
    go (Again q e) h t = stayed q h.0 t
    go (Close e) h t = left (acceptance p) _ _ t

-- ---- a call, and calls

pub remark_accepts : (hs : List ℕ) (last : ℕ) (remark : Remark) → usual remark ≡ true
    → those first_sending (all_numbered hs last (remark_notes remark)) ≡ map acceptance (opens (next_free hs last) remark)
remark_accepts hs last remarks.Nothing u = refl
remark_accepts hs last (remarks.Note code detail) u = grind (arith, nat_tests)
remark_accepts hs last (remarks.Send Response handle) u = refl
remark_accepts hs last (remarks.Send Advisory handle) u = refl

-- what a session was and what is said, in the order of acceptance, against what it is
abbrev Thins : Session → Session → List Event → Type 0
Thins s t es = Thinned (map acceptance t.pushes) (map acceptance s.pushes ++ those first_sending es)

move_thins : (s : Session) (m : Move) → Usual s.state m → Thins s (moved_by s m) (events_by s m)
move_thins s m (stays to sweep remark stay lost said ok) =
    let t = flat (tells (terms_of s.site) sweep) s.pushes in
    let r = all_numbered (held s) s.last (remark_notes remark) in
    let o = opens (next_free (held s) s.last) remark in
    let none_told = none_those first_sending t (told_fails first_sending (λ n d. refl) (terms_of s.site) sweep s.pushes) in
    let accepts : those first_sending (t ++ r) ≡ map acceptance o =
    flat_append (only first_sending) t r ∙ ap₂ ◌++◌ none_told (remark_accepts (held s) s.last remark said)
    in
    rw (map-append acceptance (flat (keeps (terms_of s.site) sweep) s.pushes) o, accepts)
    (thin_append (sweep_thins (terms_of s.site) sweep s.pushes) (thin_same (map acceptance o)))
move_thins s m (departs to parting down few) =
    let lost = flat_nothing (keeps (terms_of s.site) sweeps.Lost) (λ p. refl) s.pushes in
    rw lost (thin_none _)

step_thins : (s : Session) (c : Call) → Thins s (step s c).next (step s c).events
step_thins s c =
    by_moves (λ (a : Answered). Thins s a.next a.events) s c (move_thins s)
    (λ k. rw append-nil (thin_same (map acceptance s.pushes)))

pub in_order_of_acceptance : InOrderOfAcceptance
in_order_of_acceptance s [] = rw append-nil (thin_same (map acceptance s.pushes))
in_order_of_acceptance s (c ∷ cs) =
    let es = (step s c).events in
    let rest = events_in (history (step s c).next cs) in
    rw (flat_append (only first_sending) es rest, ← append_assoc)
    (thin_again (thin_append (step_thins s c) (thin_same (those first_sending rest))) (in_order_of_acceptance (step s c).next cs))
