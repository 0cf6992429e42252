-- One call and the open pushes with the number n: what it says of them is what its sweep says of them; what it leaves of them, where it
-- does not give n, is what its sweep leaves; and where it gives n, none of them was open. Assumes nothing.
use mathlib.Core.Path.{◌≡◌, refl, sym, ap, ap₂, subst, ◌∙◌}
use mathlib.Core.Bool.{Bool, true, false, cond, not, ◌&&◌, ◌||◌}
use mathlib.Core.List.{List, [], ◌∷◌, ◌++◌, append-nil}
use mathlib.Core.Logic.{◌⊎◌, inl, inr}
use Prim.Native.Nat.{ℕ, ◌<◌, ◌^◌}
use lib.Dec.{eqb}
use lib.ListN.{length}
use borrow.Author.Tests.{eqb-true}
use Rattle.std.proofs.lemmas.Bool.{or_cases, or_parts}
use Rattle.std.proofs.lemmas.Bool.Decides.{nat_tests}
use native.Mathlib.Omega.{arith}
use Rattle.conduct.specs.Lists.{flat, only, those, some, among}
use Rattle.conduct.specs.Numbers.{Note, next_free, numbered, last_after, all_numbered}
use Rattle.conduct.specs.Codes.{sending}
use Rattle.conduct.specs.Pushes.{terms_of, keeps, tells}
use Rattle.conduct.specs.Session.{Session, push_numbers, held, refusal_of}
use Rattle.conduct.specs.Rules.{move_of}
use Rattle.conduct.specs.Step.{noted, parting_notes, remark_notes, opens, last_after_parting, events_by, moved_by}
use Rattle.conduct.specs.History.{about, takes, gives}
use Rattle.conduct.specs.declared.Pushed.{Pushed}
use Rattle.conduct.specs.declared.Pushed.TheVariants.{Response, Advisory}
use Rattle.conduct.specs.declared.Push.{Push}
use Rattle.conduct.specs.declared.Event.{Event}
use Rattle.conduct.specs.declared.Call.{Call}
use Rattle.conduct.specs.declared.Sweep.TheVariants as sweeps
use Rattle.conduct.specs.declared.Remark.{Remark}
use Rattle.conduct.specs.declared.Remark.TheVariants as remarks
use Rattle.conduct.specs.declared.Move.{Move}
use Rattle.conduct.proofs.Lists.{flat_append, some_append, eqb_sym, none_those}
use Rattle.conduct.proofs.Free.{next_is_free}
use Rattle.conduct.proofs.Sweeps.{is, mine, sweep_told, sweep_kept}
use Rattle.conduct.proofs.Said.{told_fails, parting_fails, remark_fails}
use Rattle.conduct.proofs.Moves.{Usual, move_usual}
use Rattle.conduct.proofs.Moves.Usual.{stays, departs}

-- ---- giving a number

-- a number that is given is free
notes_give : (hs : List ℕ) (n : ℕ) → length hs < 2 ^ 32 → (notes : List Note) (last : ℕ)
    → some (gives n) (all_numbered hs last notes) ≡ true → among n hs ≡ false
notes_give hs n few [] last h = cc
notes_give hs n few (note ∷ notes) last h =
    go (takes note.code) refl (or_cases (gives n (numbered hs last note)) _ h) (notes_give hs n few notes (last_after hs last note))
  where
    taken : next_free hs last ≡ n → among n hs ≡ false
    taken e = subst (λ (m : ℕ). among m hs ≡ false) e (next_is_free hs last few)

    go : (b : Bool) → takes note.code ≡ b
        → ((b && eqb (cond b (next_free hs last) 0) n) ≡ true) ⊎ (some (gives n) (all_numbered hs (last_after hs last note) notes) ≡ true)
        → (some (gives n) (all_numbered hs (last_after hs last note) notes) ≡ true → among n hs ≡ false)
        → among n hs ≡ false
    go true e (inl g) ih = taken (eqb-true (next_free hs last) n g)
    go false e (inl g) ih = cc
    go b e (inr g) ih = ih g

-- whether n is a push's number
among_pushes : (n : ℕ) (ps : List Push) → among n (push_numbers ps) ≡ some (is n) ps
among_pushes n [] = refl
among_pushes n (p ∷ ps) = ap₂ ◌||◌ (eqb_sym n p.number) (among_pushes n ps)

pub none_mine : (n : ℕ) (ps : List Push) → among n (push_numbers ps) ≡ false → mine n ps ≡ []
none_mine n ps h = none_those (is n) ps (sym (among_pushes n ps) ∙ h)

-- a call that does not give n opens no push with it
opens_other : (hs : List ℕ) (n last : ℕ) (r : Remark) → some (gives n) (all_numbered hs last (remark_notes r)) ≡ false
    → mine n (opens (next_free hs last) r) ≡ []
opens_other hs n last remarks.Nothing h = refl
opens_other hs n last (remarks.Note code detail) h = refl
opens_other hs n last (remarks.Send what handle) h = grind (arith, nat_tests)

-- what a move says before its sweep and after it
abbrev parting_events : Session → Move → List Event
parting_events s m = all_numbered (held s) s.last (parting_notes m.parting)

abbrev remark_events : Session → Move → List Event
remark_events s m = all_numbered (held s) (last_after_parting s m) (remark_notes m.remark)

module _ (n : ℕ) (s : Session) (m : Move) where
  giving : some (gives n) (events_by s m) ≡ (some (gives n) (parting_events s m) || some (gives n) (remark_events s m))
  giving =
      some_append (gives n) (parting_events s m) _
      ∙ rw (
        some_append (gives n) (flat (tells (terms_of s.site) m.sweep) s.pushes) _,
        told_fails (gives n) (λ number detail. refl) (terms_of s.site) m.sweep s.pushes,
      )

  pub given_free : length (held s) < 2 ^ 32 → some (gives n) (events_by s m) ≡ true → among n (held s) ≡ false
  given_free few h = go (or_cases _ _ (sym giving ∙ h))
    where
      go : (some (gives n) (parting_events s m) ≡ true) ⊎ (some (gives n) (remark_events s m) ≡ true) → among n (held s) ≡ false
      go (inl g) = notes_give (held s) n few (parting_notes m.parting) s.last g
      go (inr g) = notes_give (held s) n few (remark_notes m.remark) (last_after_parting s m) g

  pub call_left : some (gives n) (events_by s m) ≡ false → mine n (moved_by s m).pushes ≡ flat (keeps (terms_of s.site) m.sweep) (mine n s.pushes)
  call_left h =
      let r = (or_parts (some (gives n) (parting_events s m)) _ (sym giving ∙ h)).1 in
      flat_append (only (is n)) (flat (keeps (terms_of s.site) m.sweep) s.pushes) _
      ∙ (ap₂ ◌++◌ (sweep_kept n (terms_of s.site) m.sweep s.pushes) (opens_other (held s) n (last_after_parting s m) m.remark r) ∙ append-nil _)

-- no parting and no remark is about an open push
pub call_told : (n : ℕ) (s : Session) (c : Call) → refusal_of s c ≡ 0
    → those (about n) (events_by s (move_of s c)) ≡ flat (tells (terms_of s.site) (move_of s c).sweep) (mine n s.pushes)
call_told n s c z = moved (move_of s c) (move_usual s c z)
  where
    sent : (last : ℕ) (what : Pushed) (handle : ℕ) → not (about n (numbered (held s) last (noted (sending what) handle))) ≡ true
    sent last Response handle = refl
    sent last Advisory handle = refl

    moved : (m : Move) → Usual s.state m → those (about n) (events_by s m) ≡ flat (tells (terms_of s.site) m.sweep) (mine n s.pushes)
    moved m (stays to sweep remark up lost said ok) =
        flat_append (only (about n)) (flat (tells (terms_of s.site) sweep) s.pushes) (all_numbered (held s) s.last (remark_notes remark))
        ∙ rw (none_those (about n) (all_numbered (held s) s.last (remark_notes remark))
        (remark_fails (about n) (held s) s.last refl (λ r. refl) (sent s.last) remark said))
        (append-nil _ ∙ sweep_told n (terms_of s.site) sweep s.pushes)
    moved m (departs to parting down few) =
        flat_append (only (about n)) (parting_events s m) _
        ∙ rw (none_those (about n) (parting_events s m) (parting_fails (about n) (held s) (λ last. refl) parting s.last))
        (ap (those (about n)) (append-nil (flat (tells (terms_of s.site) sweeps.Lost) s.pushes)) ∙ sweep_told n (terms_of s.site) sweeps.Lost s.pushes)
