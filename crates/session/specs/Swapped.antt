-- Promise: two messages at once (document 02, M-113), said of the records that the calls take and hand back, whatever is in them, of event lists of any lengths,
-- and of the bytes of messages. (proofs/Swapped, Twice)
-- By their contracts what the public calls answer says (`told_said`) `told`, so what is said here of `told` is said of the code. Assumes nothing.
use Rattle.std.specs.Prelude.{◌≡◌, true, false, List, [], ◌∷◌, ◌++◌, ◌⊎◌, ℕ, ◌≤◌, Some}
use Rattle.conduct.specs.declared.State.TheVariants.{Up}
use Rattle.conduct.specs.declared.Event.{Event}
use Rattle.conduct.specs.declared.Push.{Push}
use Rattle.conduct.specs.Lists.{some}
use Rattle.conduct.specs.Session.{is_up}
use Rattle.conduct.specs.Step.{Answered}
use Rattle.conduct.specs.History.{Bearing, advice_bearing, says_unreadable, is_closing}
use Rattle.conduct.specs.History.Bearing.{acknowledged, unreadable_message}
use Rattle.conduct.specs.Swapped.{Names, says_of, once_more, judged, unmatched_in, says_of_session_ok, heard_in}
use Rattle.session.specs.Rows.{rows_of, list_of}
use Rattle.session.specs.Record.{session_of, consistent}
use Rattle.session.specs.Answers.{Said, call_of_bytes, SaysAndWrites}
use Rattle.session.specs.Code.{Asked, answer_to, record_after, answers}
use Rattle.session.specs.Heard.{OkNaming, AdvisoryNaming}
use Rattle.session.specs.declared.Session.{Session as Record}

-- ---- any two: whichever comes first, the records that are left answer every later list of calls alike

abbrev pub RecordsAnswerAlike : Record → Record → Type 0
RecordsAnswerAlike d e = (later : List Asked) → answers d later ≡ answers e later

abbrev pub RecordsLeftAlike : Type 0
RecordsLeftAlike =
    (d : Record) (a b : Asked) (n k : ℕ) → is_up d.state ≡ true → Names a.call n → Names b.call k
    → RecordsAnswerAlike (record_after d (a ∷ b ∷ [])) (record_after d (b ∷ a ∷ []))

-- ---- two that name different numbers: a is answered behind b as it is before b, by value and in a lent list; and so is b, with the two exchanged

pub record EitherOrder (d : Record) (a b : Asked) : Type 0 where
  pub same_refusal : (answer_to (answer_to d b).next a).refusal ≡ (answer_to d a).refusal
  pub same_events : (answer_to (answer_to d b).next a).events ≡ (answer_to d a).events
  -- whatever a call with a lent list answers and leaves in it
  pub same_list : (list left left' : List Event) (r r' : Said)
      → SaysAndWrites (answer_to (answer_to d b).next a) list r left → SaysAndWrites (answer_to d a) list r' left'
      → (r.refusal ≡ r'.refusal) × (r.count ≡ r'.count) × (left ≡ left')
  -- it is accepted where a call can be
  pub accepted : consistent d ≡ true → 40 ≤ a.places → (answer_to d a).refusal ≡ 0

abbrev pub RecordsSayTheSame : Type 0
RecordsSayTheSame =
    (d : Record) (a b : Asked) (n k : ℕ) → is_up d.state ≡ true → Names a.call n → Names b.call k → (n ≡ k → ⊥) → EitherOrder d a b

-- ---- two that name one push p, a first

-- what the record answers is r, and so is the session that it holds then
abbrev pub AnsweredAs : Record → Asked → Answered → Type 0
AnsweredAs d a r =
    ((answer_to d a).refusal ≡ r.refusal) × (session_of (answer_to d a).next ≡ r.next) × (list_of (answer_to d a).events ≡ r.events)

-- it names nothing that is open: just 15, and the record is as it was
abbrev pub FindsNothing : Record → Asked → Type 0
FindsNothing d b = AnsweredAs d b (unmatched_in (session_of d)) × ((answer_to d b).next ≡ d)

pub record RecordOneAfterOther (d : Record) (before : List Push) (p : Push) (behind : List Push) (a b : Asked) (x y : Bearing) : Type 0 where
  -- what the first does to it
  pub first_judged : AnsweredAs d a (judged (session_of d) before p behind x)
  -- where the first closes it, as an Ok always does, the first decides
  pub first_decides : some is_closing (list_of (answer_to d a).events) ≡ true → FindsNothing (answer_to d a).next b
  -- where it does not, it is an UnreadableMessage that sends it again, and the second is judged as any is
  pub else_sent_again : some is_closing (list_of (answer_to d a).events) ≡ false
      → (x ≡ unreadable_message)
      × (list_of (answer_to d a).events ≡ says_of p 5 ∷ [])
      × AnsweredAs (answer_to d a).next b (judged (session_of (answer_to d a).next) before (once_more p) behind y)

abbrev pub RecordsNameOnePush : Type 0
RecordsNameOnePush =
    (d : Record) (before behind : List Push) (p : Push) (a b : Asked) → consistent d ≡ true → is_up d.state ≡ true → 40 ≤ a.places → 40 ≤ b.places
    → rows_of d.pushes ≡ before ++ p ∷ behind → (x : Names a.call p.number) (y : Names b.call p.number)
    → RecordOneAfterOther d before p behind a b x.bearing y.bearing

-- and where both name the open SessionOk, the first closes it
abbrev pub RecordsNameTheSessionOk : Type 0
RecordsNameTheSessionOk =
    (d : Record) (n age : ℕ) (a b : Asked) → consistent d ≡ true → d.state ≡ Up (Some n) age → 40 ≤ a.places → 40 ≤ b.places
    → (x : Names a.call n) → Names b.call n
    → AnsweredAs d a (record { refusal = 0; next = heard_in (session_of d) age; events = says_of_session_ok x.bearing })
    × FindsNothing (answer_to d a).next b

-- ---- bytes: what `hear` hands in names n exactly if the bytes are read as an Ok, or as an Advisory, whose value names it

abbrev pub BytesNaming : List ℕ → ℕ → Type 0
BytesNaming bytes n = OkNaming bytes n ⊎ AdvisoryNaming bytes n

pub record NamedByBytes (bytes : List ℕ) (n : ℕ) : Type 0 where
  pub an_ok : OkNaming bytes n → (x : Names (call_of_bytes bytes) n) × (x.bearing ≡ acknowledged)
  pub an_advisory : (m : AdvisoryNaming bytes n) → (x : Names (call_of_bytes bytes) n) × (x.bearing ≡ advice_bearing (says_unreadable m.message))
  pub no_other : Names (call_of_bytes bytes) n → BytesNaming bytes n

abbrev pub NamedByItsBytes : Type 0
NamedByItsBytes = (bytes : List ℕ) (n : ℕ) → NamedByBytes bytes n

-- so all of the above is said of bytes; here any two that are heard one after the other, with lists of any lengths
abbrev pub hearing : List ℕ → ℕ → Asked
hearing bytes places = record { call = call_of_bytes bytes; places = places }

abbrev pub HeardInEitherOrder : Type 0
HeardInEitherOrder =
    (d : Record) (x y : List ℕ) (p q n k : ℕ) → is_up d.state ≡ true → BytesNaming x n → BytesNaming y k
    → RecordsAnswerAlike (record_after d (hearing x p ∷ hearing y q ∷ [])) (record_after d (hearing y q ∷ hearing x p ∷ []))
    × ((n ≡ k → ⊥) → EitherOrder d (hearing x p) (hearing y q))
