-- Leaving Up closes each open push as lost, in order of acceptance and after all else; and nothing else closes one so. Assumes nothing.
use mathlib.Core.Path.{◌≡◌, refl, ap, ◌∙◌}
use mathlib.Core.Bool.{Bool, true, false, not}
use mathlib.Core.List.{List, [], ◌∷◌, ◌++◌, map, append-nil}
use Prim.Native.Nat.{ℕ, ◌+◌}
use lib.Dec.{ltb, eqb}
use Rattle.std.proofs.lemmas.Bool.{both_ways}
use Rattle.message.proofs.Laws.{on_either}
use Rattle.conduct.specs.Lists.{flat, some}
use Rattle.conduct.specs.Codes.{sending}
use Rattle.conduct.specs.Numbers.{numbered, all_numbered}
use Rattle.conduct.specs.Pushes.{terms_of, may_go_again, again_or, fate_of, told_by, keeps, tells}
use Rattle.conduct.specs.Session.{Session, is_up, held}
use Rattle.conduct.specs.Step.{noted, parting_notes, remark_notes, events_by, moved_by, Answered}
use Rattle.conduct.specs.History.{is_closing}
use Rattle.conduct.specs.Order.{lost_event, LeavingUpCloses, LostOnlyLeavingUp}
use Rattle.conduct.specs.declared.Event.{Event}
use Rattle.conduct.specs.declared.Pushed.{Pushed}
use Rattle.conduct.specs.declared.Pushed.TheVariants.{Response, Advisory}
use Rattle.conduct.specs.declared.Push.{Push}
use Rattle.conduct.specs.declared.Sweep.{Sweep}
use Rattle.conduct.specs.declared.Sweep.TheVariants as sweeps
use Rattle.conduct.specs.declared.Fate.{Fate}
use Rattle.conduct.specs.declared.Move.{Move}
use Rattle.conduct.specs.declared.Terms.{Terms}
use Rattle.conduct.proofs.Lists.{some_append, some_flat, some_never, flat_nothing}
use Rattle.conduct.proofs.Moves.{is_lost, Usual, stays, departs, by_moves}
use Rattle.conduct.proofs.Said.{parting_fails, remark_fails}

-- ---- what leaving says of the pushes

lost_told : (terms : Terms) (ps : List Push) → flat (tells terms sweeps.Lost) ps ≡ map lost_event ps
lost_told terms [] = refl
lost_told terms (p ∷ ps) = ap (λ (es : List Event). lost_event p ∷ es) (lost_told terms ps)

pub leaving_up_closes : LeavingUpCloses
leaving_up_closes s c =
    by_moves
    (λ (a : Answered). is_up s.state ≡ true → is_up a.next.state ≡ false
    → (first : List Event) × (a.events ≡ first ++ map lost_event s.pushes) × (some is_closing first ≡ false) × (a.next.pushes ≡ []))
    s c moved
    (λ k up down. cc)
  where
    moved : (m : Move) → Usual s.state m → is_up s.state ≡ true → is_up m.to ≡ false
        → (first : List Event) × (events_by s m ≡ first ++ map lost_event s.pushes) × (some is_closing first ≡ false)
        × ((moved_by s m).pushes ≡ [])
    moved m (stays to sweep remark stay lost said ok) up down = absurd (both_ways _ down (stay up))
    moved m (departs to parting d few) up down =
        let first = all_numbered (held s) s.last (parting_notes parting) in (
          first,
          ap (λ (es : List Event). first ++ es) (append-nil (flat (tells (terms_of s.site) sweeps.Lost) s.pushes) ∙ lost_told (terms_of s.site) s.pushes),
          parting_fails is_closing (held s) (λ l. refl) parting s.last,
          append-nil (flat (keeps (terms_of s.site) sweeps.Lost) s.pushes) ∙ flat_nothing (keeps (terms_of s.site) sweeps.Lost) (λ p. refl) s.pushes,
        )

-- ---- what any other sweep says

abbrev is_lost_event : Event → Bool
is_lost_event e = eqb e.code 12

abbrev Unlost : Fate → Type 0
Unlost f = some is_lost_event (told_by f) ≡ false

unlost_again : (terms : Terms) (p : Push) (code : ℕ) → eqb code 12 ≡ false → Unlost (again_or terms code p)
unlost_again terms p code h = on_either Unlost (may_go_again terms p) refl (rw h)

unlost : (terms : Terms) (sweep : Sweep) → is_lost sweep ≡ false → (p : Push) → Unlost (fate_of terms sweep p)
unlost terms sweeps.Still h p = refl
unlost terms sweeps.Older h p = on_either Unlost (ltb (p.age + 1) terms.ticks) refl (unlost_again terms p 11 refl)
unlost terms sweeps.Lost h p = cc
unlost terms (sweeps.Acknowledged n) h p = on_either Unlost (eqb p.number n) refl refl
unlost terms (sweeps.UnreadableMessage n) h p = on_either Unlost (eqb p.number n) (unlost_again terms p 10 refl) refl
unlost terms (sweeps.Advised n) h p = on_either Unlost (eqb p.number n) refl refl

sent_unlost : (s : Session) (what : Pushed) (handle : ℕ)
    → not (is_lost_event (numbered (held s) s.last (noted (sending what) handle))) ≡ true
sent_unlost s Response handle = refl
sent_unlost s Advisory handle = refl

pub lost_only_leaving_up : LostOnlyLeavingUp
lost_only_leaving_up s c =
    by_moves (λ (a : Answered). is_up a.next.state ≡ true → some is_lost_event a.events ≡ false) s c moved (λ k up. refl)
  where
    moved : (m : Move) → Usual s.state m → is_up m.to ≡ true → some is_lost_event (events_by s m) ≡ false
    moved m (stays to sweep remark stay lost said ok) up =
        let says = all_numbered (held s) s.last (remark_notes remark) in
        let none_told =
        some_flat is_lost_event (tells (terms_of s.site) sweep) s.pushes
        ∙ some_never (λ (p : Push). some is_lost_event (tells (terms_of s.site) sweep p)) (unlost (terms_of s.site) sweep lost) s.pushes
        in
        let none_said = remark_fails is_lost_event (held s) s.last refl (λ r. refl) (sent_unlost s) remark said in
        some_append is_lost_event (flat (tells (terms_of s.site) sweep) s.pushes) says ∙ rw (none_told, none_said)
    moved m (departs to parting d few) up = cc
