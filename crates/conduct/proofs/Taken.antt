-- Each send event but 5 takes the next free number after the last taken, in the order of the events. Assumes nothing.
use mathlib.Core.Path.{◌≡◌, refl, ap, ◌∙◌}
use mathlib.Core.Bool.{Bool, true, false, cond}
use mathlib.Core.List.{List, [], ◌∷◌, ◌++◌, map}
use Prim.Native.Nat.{ℕ, ◌<◌, ◌^◌}
use native.Mathlib.Omega.{arith}
use lib.ListN.{length}
use Rattle.std.proofs.lemmas.List.{map-append}
use Rattle.conduct.specs.Lists.{flat, only, those}
use Rattle.conduct.specs.Numbers.{Note, takes_number, next_free, last_after_all, all_numbered}
use Rattle.conduct.specs.Pushes.{terms_of, tells}
use Rattle.conduct.specs.Session.{Session, held}
use Rattle.conduct.specs.Step.{parting_notes, remark_notes, last_after_parting, events_by, moved_by, Answered}
use Rattle.conduct.specs.History.{takes}
use Rattle.conduct.specs.Order.{Taken, done, next, numbers_taken, NumbersInOrder}
use Rattle.conduct.specs.declared.Event.{Event}
use Rattle.conduct.specs.declared.Push.{Push}
use Rattle.conduct.specs.declared.Sweep.{Sweep}
use Rattle.conduct.specs.declared.Move.{Move}
use Rattle.conduct.specs.declared.Terms.{Terms}
use Rattle.conduct.proofs.Lists.{flat_append, none_those}
use Rattle.conduct.proofs.Free.{next_after}
use Rattle.conduct.proofs.Good.{good, few_held}
use Rattle.conduct.proofs.Moves.{by_moves}
use Rattle.conduct.proofs.Said.{told_fails}

abbrev taking : Event → Bool
taking e = takes e.code

taken_append : (xs ys : List Event) → numbers_taken (xs ++ ys) ≡ numbers_taken xs ++ numbers_taken ys
taken_append xs ys =
    ap (map (λ (e : Event). e.number)) (flat_append (only taking) xs ys)
    ∙ map-append (λ (e : Event). e.number) (those taking xs) (those taking ys)

-- what is said of an open push takes none
told_takes : (terms : Terms) (sweep : Sweep) (ps : List Push) → numbers_taken (flat (tells terms sweep) ps) ≡ []
told_takes terms sweep ps =
    ap (map (λ (e : Event). e.number)) (none_those taking (flat (tells terms sweep) ps) (told_fails taking (λ n d. refl) terms sweep ps))

module _ (hs : List ℕ) where
  then_taken : {n m last : ℕ} {ms ns : List ℕ} → Taken hs n ms m → Taken hs m ns last → Taken hs n (ms ++ ns) last
  then_taken (done n) b = b
  then_taken (next n m last ms first a) b = next n m _ _ first (then_taken a b)

  -- notes one after the other
  notes_taken : length hs < 2 ^ 32 → (notes : List Note) (last : ℕ)
      → Taken hs last (numbers_taken (all_numbered hs last notes)) (last_after_all hs last notes)
  notes_taken few [] last = done last
  notes_taken few (note ∷ notes) last = go (takes_number note.code) (notes_taken few notes)
    where
      go : (b : Bool) → ((l : ℕ) → Taken hs l (numbers_taken (all_numbered hs l notes)) (last_after_all hs l notes))
          → Taken hs last
          (map (λ (e : Event). e.number)
          (cond b (record { code = note.code; number = cond b (next_free hs last) 0; detail = note.detail } ∷ []) []
          ++ those taking (all_numbered hs (cond b (next_free hs last) last) notes)))
          (last_after_all hs (cond b (next_free hs last) last) notes)
      go true ih = next last (next_free hs last) _ _ (next_after hs last few) (ih (next_free hs last))
      go false ih = ih last

move_taken : (s : Session) (m : Move) → length (held s) < 2 ^ 32
    → Taken (held s) s.last (numbers_taken (events_by s m)) (moved_by s m).last
move_taken s m few =
    let p = all_numbered (held s) s.last (parting_notes m.parting) in
    let t = flat (tells (terms_of s.site) m.sweep) s.pushes in
    let r = all_numbered (held s) (last_after_parting s m) (remark_notes m.remark) in
    rw (taken_append p (t ++ r), taken_append t r, told_takes (terms_of s.site) m.sweep s.pushes)
    (then_taken (held s) (notes_taken (held s) few (parting_notes m.parting) s.last)
    (notes_taken (held s) few (remark_notes m.remark) (last_after_parting s m)))

pub numbers_in_order : NumbersInOrder
numbers_in_order s c ok =
    by_moves (λ (a : Answered). Taken (held s) s.last (numbers_taken a.events) a.next.last) s c
    (λ m u. move_taken s m (omega (arith, few_held (good {s = s} ok))))
    (λ k. done s.last)
