-- The promises of specs/Code: the answers of the code are the history of the session that the record holds, the records that it hands back
-- pass the test, a refused call hands back what it took, and the events fit. Assumes nothing.
use mathlib.Core.Path.{◌≡◌, refl, ap, ◌∙◌}
use mathlib.Core.Bool.{Bool, true, false, cond, not}
use mathlib.Core.List.{List, [], ◌∷◌, ◌++◌, map}
use Prim.Native.Nat.{ℕ, zero, suc, ◌-◌, ◌≤◌}
use native.Mathlib.Omega.{arith}
use lib.Dec.{leb, ltb, eqb}
use lib.ListN.{length, drop, replicate}
use lib.Seq.{drop-append_seam}
use borrow.Author.Tests.{le-ltb, lt-ltb, ltb-false, le-leb, leb-true, leb-false}
use Rattle.std.proofs.lemmas.Bool.{and_from}
use Rattle.conduct.specs.declared.Call.{Call}
use Rattle.conduct.specs.declared.Event.{Event}
use Rattle.conduct.specs.Lists.{those, all}
use Rattle.conduct.specs.Session.{Session, is_stopped, fits, room_for, make}
use Rattle.conduct.specs.Sound.{sound}
use Rattle.conduct.specs.Step.{step}
use Rattle.conduct.specs.History.{Entry, entry, history}
use Rattle.conduct.proofs.Good.{good}
use Rattle.conduct.proofs.Refused.{refused_changes_nothing, refused_by}
use Rattle.conduct.proofs.Few.{few_events}
use Rattle.conduct.proofs.Reached.{sound_step, made_is_sound}
use Rattle.session.specs.Rows.{no_push, table_of, is_blank, events_of, list_of}
use Rattle.session.specs.Record.{session_of, record_of, consistent}
use Rattle.session.specs.Answers.{Told, told_of, refuse, told, written}
use Rattle.session.specs.Code.{Asked, answer_to, seen, answers, roomy, heeded, AnswersAreHistory, MadeIsConsistent, ReachedIsConsistent}
use Rattle.session.specs.Code.{ShortListRefused, InconsistentRefused, RefusedReturnsTheOld, ListFits, LentListWritten, LentSaysTheSame, LastAlone}
use Rattle.session.specs.declared.Session.{Session as Record}
use Rattle.session.proofs.Rows.{list_of_lem, events_count}
use Rattle.session.proofs.Records.{sound_session, same_record, same_session}

-- ---- the record of a session passes the test where the session does

all_blank : (n : ℕ) → all is_blank (replicate n no_push) ≡ true
all_blank zero = refl
all_blank (suc n) = all_blank n

record_consistent : (s : Session) → sound s ≡ true → consistent (record_of s) ≡ true
unfolding table_of
record_consistent s h =
    let behind : all is_blank (drop (length s.pushes) (table_of s.pushes).rows) ≡ true =
    ap (all is_blank) (drop-append_seam s.pushes (replicate (32 - length s.pushes) no_push)) ∙ all_blank (32 - length s.pushes)
    in
    and_from _ _ (le-leb (length s.pushes) 32 (good {s = s} h).room) (and_from _ _ behind (ap sound (same_session s) ∙ h))

pub made_is_consistent : MadeIsConsistent
made_is_consistent site = record_consistent (make site).session (made_is_sound site)

-- ---- one call

module _ (places : ℕ) (d : Record) (c : Call) where
  -- with the list's room and the test's outcome known
  abbrev told_with : Bool → Bool → Told
  told_with short passes = cond short (refuse 3 d) (cond passes (told_of (step (session_of d) c)) (refuse 27 d))

  pub told_steps : leb 40 places ≡ true → consistent d ≡ true → told places d c ≡ told_of (step (session_of d) c)
  told_steps room passes = rw (le-ltb places 40 (leb-true 40 places room), passes)

  pub next_consistent : consistent d ≡ true → consistent (told places d c).next ≡ true
  next_consistent passes = go (ltb places 40)
    where
      go : (short : Bool) → consistent (told_with short (consistent d)).next ≡ true
      go true = passes
      go false = rw passes (record_consistent (step (session_of d) c).next (sound_step (session_of d) c (sound_session d passes)))

  -- of the refusals of a session none is 3, nor 27
  other_refusal : (eqb (step (session_of d) c).refusal 3 ≡ false) × (eqb (step (session_of d) c).refusal 27 ≡ false)
  other_refusal =
      let s : Session = session_of d in
      rw (refused_by s c) (go (is_stopped s.state) (fits s.state c) (room_for c (length s.pushes)))
    where
      go : (a b e : Bool) → (eqb (cond a 5 (cond b (cond e 0 7) 6)) 3 ≡ false) × (eqb (cond a 5 (cond b (cond e 0 7) 6)) 27 ≡ false)
      go true b e = (refl, refl)
      go false false e = (refl, refl)
      go false true true = (refl, refl)
      go false true false = (refl, refl)

pub short_list_refused : ShortListRefused
short_list_refused places d c = go (ltb places 40) (consistent d)
  where
    go : (short passes : Bool) → eqb (told_with places d c short passes).refusal 3 ≡ short
    go true passes = refl
    go false true = (other_refusal places d c).0
    go false false = refl

pub inconsistent_refused : InconsistentRefused
inconsistent_refused places d c room = rw (le-ltb places 40 room) (go (consistent d))
  where
    go : (passes : Bool) → eqb (told_with places d c false passes).refusal 27 ≡ not passes
    go true = (other_refusal places d c).1
    go false = refl

pub refused_returns_the_old : RefusedReturnsTheOld
refused_returns_the_old places d c size = go (ltb places 40) (consistent d) refl
  where
    Unchanged : Told → Type 0
    Unchanged t = (t.next ≡ d) × (t.events ≡ events_of []) × ((list : List Event) → written list t ≡ list)

    unchanged : (t : Told) → t.next ≡ d → t.events ≡ events_of [] → Unchanged t
    unchanged t same none = (same, none, λ list. rw (none, list_of_lem [], events_count _ [] refl) refl)

    go : (short passes : Bool) → consistent d ≡ passes → ((told_with places d c short passes).refusal ≡ 0 → ⊥)
        → Unchanged (told_with places d c short passes)
    go true passes e h = unchanged (refuse 3 d) refl refl
    go false false e h = unchanged (refuse 27 d) refl refl
    go false true e h =
        let r = refused_changes_nothing (session_of d) c h in
        unchanged (told_of (step (session_of d) c)) (ap record_of r.0 ∙ same_record d size e) (ap events_of r.1)

-- no event is within any list, and what a call says is within one that is not refused
pub list_fits : ListFits
list_fits places d c = go (ltb places 40) refl (consistent d) refl
  where
    go : (short : Bool) → ltb places 40 ≡ short → (passes : Bool) → consistent d ≡ passes
        → ((told_with places d c short passes).events.count ≤ places) × ((told_with places d c short passes).events.count ≤ 34)
    go true e passes f = (omega (arith, events_count _ [] refl), omega (arith, events_count _ [] refl))
    go false e false f = (omega (arith, events_count _ [] refl), omega (arith, events_count _ [] refl))
    go false e true f =
        let few = few_events (session_of d) c (sound_session d f) in
        let size = events_count _ (step (session_of d) c).events refl in
        (omega (arith, ltb-false places 40 e), omega arith)

-- ---- any calls

pub reached_is_consistent : ReachedIsConsistent
reached_is_consistent d [] passes = passes
reached_is_consistent d (a ∷ rest) passes = reached_is_consistent (answer_to d a).next rest (next_consistent a.places d a.call passes)

-- an answer as the session gives it is the entry of its history
seen_entry : (s : Session) (c : Call) → seen c (told_of (step s c)) ≡ entry s c
seen_entry s c =
    λ i. record { call = c; refusal = (step s c).refusal; events = list_of_lem (step s c).events i; state = (step s c).next.state }

heeded_first : (x : Entry) (xs : List Entry) → heeded x ≡ true → those heeded (x ∷ xs) ≡ x ∷ those heeded xs
heeded_first x xs h = rw h

pub answers_are_history : AnswersAreHistory
answers_are_history d [] passes = refl
answers_are_history d (a ∷ rest) passes = go (roomy a) refl (λ e h. answers_are_history e rest h)
  where
    calls : List Asked → List Call
    calls asked = map (λ (b : Asked). b.call) asked

    go : (room : Bool) → roomy a ≡ room
        → ((e : Record) → consistent e ≡ true → those heeded (answers e rest) ≡ history (session_of e) (calls (those roomy rest)))
        → those heeded (answers d (a ∷ rest)) ≡ history (session_of d) (calls (cond room (a ∷ []) [] ++ those roomy rest))
    go true e ih =
        let s : Session = session_of d in
        let now = told_steps a.places d a.call e passes in
        let first = ap (seen a.call) now ∙ seen_entry s a.call in
        let later = ih (answer_to d a).next (next_consistent a.places d a.call passes) in
        let after = ap (λ (t : Told). session_of t.next) now ∙ same_session (step s a.call).next in
        let onward = later ∙ ap (λ (t : Session). history t (calls (those roomy rest))) after in
        let others : List Entry = answers (answer_to d a).next rest in
        ap (λ (x : Entry). those heeded (x ∷ others)) first
        ∙ (heeded_first (entry s a.call) others (ap not (other_refusal a.places d a.call).0) ∙ ap (◌∷◌ (entry s a.call)) onward)
    go false e ih = rw (lt-ltb a.places 40 (leb-false 40 a.places e)) (ih d passes)

-- ---- with a lent list, and with another last number

pub lent_list_written : LentListWritten
unfolding list_of
lent_list_written t list left r is = is

pub lent_says_the_same : LentSaysTheSame
lent_says_the_same t = refl

pub last_alone : LastAlone
last_alone last d = refl
