-- What a call says of pushes is said of open ones, in order of acceptance. Assumes nothing.
use mathlib.Core.Path.{◌≡◌, refl, sym, ap, subst, ◌∙◌}
use mathlib.Core.Bool.{true, not}
use mathlib.Core.List.{List, [], ◌∷◌, ◌++◌, map, append-nil}
use Prim.Native.Nat.{ℕ}
use Rattle.std.proofs.lemmas.Bool.{or_right}
use Rattle.conduct.specs.Lists.{flat, only, those}
use Rattle.conduct.specs.Codes.{sending}
use Rattle.conduct.specs.Numbers.{numbered, all_numbered}
use Rattle.conduct.specs.Pushes.{terms_of, fate_of, told_by, tells}
use Rattle.conduct.specs.Session.{Session, held}
use Rattle.conduct.specs.Step.{noted, parting_notes, remark_notes, events_by, Answered}
use Rattle.conduct.specs.History.{closing, of_push}
use Rattle.conduct.specs.Order.{Thinned, spoken_of, as_opened, OpenOnesInOrder}
use Rattle.conduct.specs.Order.Thinned.{none, kept, left}
use Rattle.conduct.specs.declared.Event.{Event}
use Rattle.conduct.specs.declared.Push.{Push}
use Rattle.conduct.specs.declared.Pushed.{Pushed}
use Rattle.conduct.specs.declared.Pushed.TheVariants.{Response, Advisory}
use Rattle.conduct.specs.declared.Fate.{Fate}
use Rattle.conduct.specs.declared.Fate.TheVariants.{Keep, Again, Close}
use Rattle.conduct.specs.declared.Sweep.{Sweep}
use Rattle.conduct.specs.declared.Sweep.TheVariants as sweeps
use Rattle.conduct.specs.declared.Move.{Move}
use Rattle.conduct.specs.declared.Terms.{Terms}
use Rattle.conduct.proofs.Lists.{flat_append, none_those}
use Rattle.conduct.proofs.Moves.{Usual, stays, departs, by_moves}
use Rattle.conduct.proofs.Sweeps.{Tells, Of, fate_of_lem}
use Rattle.conduct.proofs.Said.{parting_fails, remark_fails}
use Rattle.conduct.proofs.Acceptance.{thin_none}

-- by these events a call speaks of these pushes
abbrev Speaks : List Event → List Push → Type 0
Speaks es ps = Thinned (map spoken_of (those of_push es)) (map as_opened ps)

sweep_speaks : (terms : Terms) (sweep : Sweep) (ps : List Push) → Speaks (flat (tells terms sweep) ps) ps
sweep_speaks terms sweep [] = none
sweep_speaks terms sweep (p ∷ ps) = go (fate_of terms sweep p) (fate_of_lem terms sweep p) (sweep_speaks terms sweep ps)
  where
    rest : List Event
    rest = flat (tells terms sweep) ps

    spoken : (e : Event) → Tells p e → of_push e ≡ true → Speaks rest ps → Speaks (e ∷ rest) (p ∷ ps)
    spoken e h is t =
        rw is
        (subst (λ (x : ℕ × ℕ). Thinned (x ∷ map spoken_of (those of_push rest)) (as_opened p ∷ map as_opened ps)) (λ i. (sym h.named i, sym h.handled i))
        (kept (as_opened p) _ _ t))

    go : (f : Fate) → Of p f → Speaks rest ps → Speaks (told_by f ++ rest) (p ∷ ps)
    go (Keep q) h t = left (as_opened p) _ _ t
    go (Again q e) h t = spoken e h.1 (or_right (closing e.code) _ (rw h.2)) t
    go (Close e) h t = spoken e h.0 (rw h.1) t

-- no parting and no remark is of a push
move_speaks : (s : Session) (m : Move) → Usual s.state m → Speaks (events_by s m) s.pushes
move_speaks s m (stays to sweep remark up lost said ok) =
    let told = flat (tells (terms_of s.site) sweep) s.pushes in
    let says = all_numbered (held s) s.last (remark_notes remark) in
    let none_said = none_those of_push says (remark_fails of_push (held s) s.last refl (λ r. refl) sent remark said) in
    let alone : those of_push (told ++ says) ≡ those of_push told =
    flat_append (only of_push) told says ∙ ap (λ (es : List Event). those of_push told ++ es) none_said ∙ append-nil _
    in
    rw alone (sweep_speaks (terms_of s.site) sweep s.pushes)
  where
    sent : (what : Pushed) (handle : ℕ) → not (of_push (numbered (held s) s.last (noted (sending what) handle))) ≡ true
    sent Response handle = refl
    sent Advisory handle = refl
move_speaks s m (departs to parting down few) =
    let told = flat (tells (terms_of s.site) sweeps.Lost) s.pushes in
    let first = all_numbered (held s) s.last (parting_notes parting) in
    let None-first = none_those of_push first (parting_fails of_push (held s) (λ last. refl) parting s.last) in
    let alone : those of_push (first ++ (told ++ [])) ≡ those of_push told =
    flat_append (only of_push) first (told ++ [])
    ∙ ap (λ (es : List Event). es ++ those of_push (told ++ [])) None-first
    ∙ ap (those of_push) (append-nil told)
    in
    rw alone (sweep_speaks (terms_of s.site) sweeps.Lost s.pushes)

pub open_ones_in_order : OpenOnesInOrder
open_ones_in_order s c = by_moves (λ (a : Answered). Speaks a.events s.pushes) s c (move_speaks s) (λ k. thin_none _)
