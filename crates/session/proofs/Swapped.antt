-- Two messages at once, of records and of bytes: what is promised of a session is handed on to the record that holds it, and a call that is refused is none.
-- Assumes nothing.
use mathlib.Core.Path.{◌≡◌, refl, sym, ap, ◌∙◌}
use mathlib.Core.Bool.{Bool, true, false, cond}
use mathlib.Core.List.{[], ◌∷◌, ◌++◌}
use Prim.Native.Nat.{ℕ}
use lib.Dec.{ltb}
use lib.ListN.{drop}
use borrow.Author.Tests.{le-leb, leb-false, lt-ltb}
use Rattle.conduct.specs.Session.{Session, is_up}
use Rattle.conduct.specs.Step.{step}
use Rattle.conduct.specs.Swapped.{Names}
use Rattle.conduct.proofs.Swapped.{same_session_left, either_says_the_same}
use Rattle.session.specs.Rows.{events_of, list_of}
use Rattle.session.specs.Record.{session_of, record_of, consistent}
use Rattle.session.specs.Answers.{Told, Said, told_of, refuse}
use Rattle.session.specs.Code.{Asked, answer_to, record_after, answers, roomy}
use Rattle.session.specs.Swapped.{RecordsLeftAlike, RecordsSayTheSame}
use Rattle.session.specs.declared.Session.{Session as Record}
use Rattle.session.specs.declared.Events.{Events}
use Rattle.session.proofs.Records.{sound_session, same_session}
use Rattle.session.proofs.Histories.{told_steps, next_consistent}

-- ---- a refused call leaves the record

too_short_lem : (a : Asked) → roomy a ≡ false → (d : Record) → answer_to d a ≡ refuse 3 d
too_short_lem a short d = rw (lt-ltb a.places 40 (leb-false 40 a.places short))

stays : (d : Record) → consistent d ≡ false → (a : Asked) → (answer_to d a).next ≡ d
stays d fails a = rw fails (go (ltb a.places 40))
  where
    go : (short : Bool) → (cond short (refuse 3 d) (refuse 27 d)).next ≡ d
    go true = refl
    go false = refl

-- ---- one that is not, and another behind it

module _ (d : Record) (passes : consistent d ≡ true) (a : Asked) (room : roomy a ≡ true) where
  pub first : answer_to d a ≡ told_of (step (session_of d) a.call)
  first = told_steps a.places d a.call room passes

  pub session_between : session_of (answer_to d a).next ≡ (step (session_of d) a.call).next
  session_between = ap (λ (t : Told). session_of t.next) first ∙ same_session (step (session_of d) a.call).next

  pub second : (b : Asked) → roomy b ≡ true → answer_to (answer_to d a).next b ≡ told_of (step (step (session_of d) a.call).next b.call)
  second b room-b =
      told_steps b.places (answer_to d a).next b.call room-b (next_consistent a.places d a.call passes)
      ∙ ap (λ (t : Session). told_of (step t b.call)) session_between

-- ---- in either order

module _ (d : Record) (a b : Asked) (n k : ℕ) (up : is_up d.state ≡ true) (x : Names a.call n) (y : Names b.call k) where
  same_record_left : record_after d (a ∷ b ∷ []) ≡ record_after d (b ∷ a ∷ [])
  same_record_left = go (consistent d) refl (roomy a) refl (roomy b) refl
    where
      go : (passes : Bool) → consistent d ≡ passes → (room-a : Bool) → roomy a ≡ room-a → (room-b : Bool) → roomy b ≡ room-b
          → record_after d (a ∷ b ∷ []) ≡ record_after d (b ∷ a ∷ [])
      go false e f g h i =
          ap (λ (t : Record). (answer_to t b).next) (stays d e a) ∙ (stays d e b ∙ sym (ap (λ (t : Record). (answer_to t a).next) (stays d e b) ∙ stays d e a))
      go true e false g h i =
          ap (λ (t : Told). (answer_to t.next b).next) (too_short_lem a g d) ∙ ap (λ (t : Told). t.next) (sym (too_short_lem a g (answer_to d b).next))
      go true e true g false i =
          ap (λ (t : Told). t.next) (too_short_lem b i (answer_to d a).next) ∙ ap (λ (t : Told). (answer_to t.next a).next) (sym (too_short_lem b i d))
      go true e true g true i =
          ap (λ (t : Told). t.next) (second d e a g b i)
          ∙ (ap record_of (same_session_left (session_of d) a.call b.call n k (sound_session d e) up x y)
          ∙ ap (λ (t : Told). t.next) (sym (second d e b i a g)))

  abbrev Alike : Told → Told → Type 0
  Alike t u = (t.refusal ≡ u.refusal) × (t.events ≡ u.events)

  said_alike : (n ≡ k → ⊥) → Alike (answer_to (answer_to d b).next a) (answer_to d a)
  said_alike differ = go (consistent d) refl (roomy a) refl (roomy b) refl
    where
      unmoved : (answer_to d b).next ≡ d → Alike (answer_to (answer_to d b).next a) (answer_to d a)
      unmoved e = (ap (λ (t : Record). (answer_to t a).refusal) e, ap (λ (t : Record). (answer_to t a).events) e)

      go : (passes : Bool) → consistent d ≡ passes → (room-a : Bool) → roomy a ≡ room-a → (room-b : Bool) → roomy b ≡ room-b
          → Alike (answer_to (answer_to d b).next a) (answer_to d a)
      go false e f g h i = unmoved (stays d e b)
      go true e false g h i = rw (too_short_lem a g (answer_to d b).next, too_short_lem a g d) (refl, refl)
      go true e true g false i = unmoved (ap (λ (t : Told). t.next) (too_short_lem b i d))
      go true e true g true i =
          let same = either_says_the_same (session_of d) a.call b.call n k (sound_session d e) up x y differ in
          let behind = second d e b i a g in
          let alone = sym (first d e a g) in (
            ap (λ (t : Told). t.refusal) behind ∙ (same.1 ∙ (sym same.0 ∙ ap (λ (t : Told). t.refusal) alone)),
            ap (λ (t : Told). t.events) behind ∙ (ap events_of same.2 ∙ ap (λ (t : Told). t.events) alone),
          )

pub records_left_alike : RecordsLeftAlike
records_left_alike d a b n k up x y later = ap (λ (t : Record). answers t later) (same_record_left d a b n k up x y)

pub records_say_the_same : RecordsSayTheSame
records_say_the_same d a b n k up x y differ =
    let same = said_alike d a b n k up x y differ in
    record {
      same_refusal = same.0;
      same_events = same.1;
      same_list =
          λ list left left' r r' behind alone. (
            ap (λ (z : Said). z.refusal) behind.0 ∙ (same.0 ∙ sym (ap (λ (z : Said). z.refusal) alone.0)),
            ap (λ (z : Said). z.count) behind.0 ∙ (ap (λ (e : Events). e.count) same.1 ∙ sym (ap (λ (z : Said). z.count) alone.0)),
            behind.1 ∙ (ap (λ (e : Events). list_of e ++ drop e.count list) same.1 ∙ sym alone.1),
          );
      accepted =
          λ passes room.
          ap (λ (t : Told). t.refusal) (told_steps a.places d a.call (le-leb 40 a.places room) passes)
          ∙ (either_says_the_same (session_of d) a.call b.call n k (sound_session d passes) up x y differ).0;
    }
