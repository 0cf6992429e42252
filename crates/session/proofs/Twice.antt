-- Two messages that name one push, or the open SessionOk, of records; and what names a number by its bytes. Assumes nothing.
use mathlib.Core.Path.{◌≡◌, refl, sym, ap, ◌∙◌, subst, subst⁻¹}
use mathlib.Core.Bool.{true}
use mathlib.Core.List.{List, [], ◌∷◌}
use mathlib.Core.Logic.{inl, inr}
use Prim.Native.Nat.{ℕ}
use borrow.Author.Tests.{le-leb}
use Rattle.message.specs.Class.{class_of}
use Rattle.message.specs.Limits.{link_limits}
use Rattle.message.specs.Reading.Reading.{whole}
use Rattle.message.specs.Messages.{message_of}
use Rattle.message.specs.declared.Message.{Message}
use Rattle.conduct.specs.Lists.{some}
use Rattle.conduct.specs.Session.{Session}
use Rattle.conduct.specs.Step.{Answered, step}
use Rattle.conduct.specs.History.{Bearing, call_bearing, is_closing}
use Rattle.conduct.specs.Swapped.{Names, once_more, judged, unmatched_in}
use Rattle.conduct.proofs.Judged.{named_push_judged}
use Rattle.conduct.proofs.Twice.{one_push_named_twice, session_ok_named, session_ok_named_twice}
use Rattle.session.specs.Rows.{list_of}
use Rattle.session.specs.Record.{session_of, record_of, consistent}
use Rattle.session.specs.Answers.{Told, call_of, call_of_bytes}
use Rattle.session.specs.Code.{Asked, answer_to, roomy}
use Rattle.session.specs.Swapped.{AnsweredAs, FindsNothing, RecordsNameOnePush, RecordsNameTheSessionOk}
use Rattle.session.specs.Swapped.{BytesNaming, NamedByItsBytes, hearing, HeardInEitherOrder}
use Rattle.session.specs.declared.Session.{Session as Record}
use Rattle.session.proofs.Rows.{list_of_lem}
use Rattle.session.proofs.Records.{sound_session}
use Rattle.session.proofs.Histories.{next_consistent}
use Rattle.session.proofs.Heard.{Bears, bears, ok_bears, advisory_bears}
use Rattle.session.proofs.Heard.Bears.{an_ok, an_advisory}
use Rattle.session.proofs.Swapped.{first, session_between, second, records_left_alike, records_say_the_same}

-- ---- what a record answers as its session does

answered_as : (d : Record) → consistent d ≡ true → (a : Asked) → roomy a ≡ true → (r : Answered) → step (session_of d) a.call ≡ r → AnsweredAs d a r
answered_as d passes a room r is =
    let told = first d passes a room in
    subst (AnsweredAs d a) is (
      ap (λ (t : Told). t.refusal) told,
      session_between d passes a room,
      ap (λ (t : Told). list_of t.events) told ∙ list_of_lem (step (session_of d) a.call).events,
    )

-- behind a first one, in the record that it left
module _ (d : Record) (passes : consistent d ≡ true) (a b : Asked) (room-a : roomy a ≡ true) (room-b : roomy b ≡ true) where
  abbrev between : Record
  between = (answer_to d a).next

  -- what the session does then, the record answers
  behind_it : (f : Session → Answered) → step (step (session_of d) a.call).next b.call ≡ f (step (session_of d) a.call).next
      → AnsweredAs between b (f (session_of between))
  behind_it f is =
      answered_as between (next_consistent a.places d a.call passes) b room-b (f (session_of between))
      (subst⁻¹ (λ (t : Session). step t b.call ≡ f t) (session_between d passes a room-a) is)

  finds_nothing : step (step (session_of d) a.call).next b.call ≡ unmatched_in (step (session_of d) a.call).next → FindsNothing between b
  finds_nothing is = (
    behind_it unmatched_in is,
    ap (λ (t : Told). t.next) (second d passes a room-a b room-b)
        ∙ (ap (λ (t : Answered). record_of t.next) is ∙ ap (λ (t : Told). t.next) (sym (first d passes a room-a))),
  )

-- ---- two that name one push, or the open SessionOk

pub records_name_one_push : RecordsNameOnePush
records_name_one_push d before behind p a b passes up wide-a wide-b is x y =
    let room-a = le-leb 40 a.places wide-a in
    let room-b = le-leb 40 b.places wide-b in
    let ok = sound_session d passes in
    let told = answered_as d passes a room-a _ refl in
    let twice = one_push_named_twice (session_of d) before behind p a.call b.call ok up is x y in
    record {
      first_judged = answered_as d passes a room-a _ (named_push_judged (session_of d) before behind p a.call ok up is x);
      first_decides = λ h. finds_nothing d passes a b room-a room-b (twice.first_decides (ap (some is_closing) (sym told.2) ∙ h));
      else_sent_again =
          λ h.
          let sent = twice.else_sent_again (ap (some is_closing) (sym told.2) ∙ h) in (
            sent.0,
            told.2 ∙ ap (λ (t : Answered). t.events) sent.1,
            behind_it d passes a b room-a room-b (λ (t : Session). judged t before (once_more p) behind y.bearing) sent.2,
          );
    }

pub records_name_the_session_ok : RecordsNameTheSessionOk
records_name_the_session_ok d n age a b passes e wide-a wide-b x y =
    let room-a = le-leb 40 a.places wide-a in
    let ok = sound_session d passes in (
      answered_as d passes a room-a _ (session_ok_named (session_of d) n age a.call ok e x),
      finds_nothing d passes a b room-a (le-leb 40 b.places wide-b) (session_ok_named_twice (session_of d) n age a.call b.call ok e x y),
    )

-- ---- bytes

module _ (bytes : List ℕ) (n : ℕ) where
  read_as : (m : Message) → message_of class_of link_limits bytes ≡ whole m → (b : Bearing) → call_bearing n (call_of_bytes bytes) ≡ b ∷ []
      → (x : Names (call_of_bytes bytes) n) × (x.bearing ≡ b)
  read_as m read b is =
      (record { message = m; is_heard = ap call_of read; bearing = b; bears = ap (call_bearing n) (sym (ap call_of read)) ∙ is }, refl)

  either : (b : Bearing) → Bears bytes n b → BytesNaming bytes n
  either b (an_ok a e) = inl a
  either b (an_advisory a e) = inr a

pub named_by_its_bytes : NamedByItsBytes
named_by_its_bytes bytes n =
    record {
      an_ok = λ a. read_as bytes n a.message a.is_read _ (ok_bears bytes n a);
      an_advisory = λ a. read_as bytes n a.message a.is_read _ (advisory_bears bytes n a);
      no_other = λ x. either bytes n x.bearing (bears bytes n x.bearing (ap (call_bearing n) x.is_heard ∙ x.bears));
    }

named : (bytes : List ℕ) (n : ℕ) → BytesNaming bytes n → Names (call_of_bytes bytes) n
named bytes n (inl a) = ((named_by_its_bytes bytes n).an_ok a).0
named bytes n (inr a) = ((named_by_its_bytes bytes n).an_advisory a).0

pub heard_in_either_order : HeardInEitherOrder
heard_in_either_order d x y p q n k up names-x names-y = (
  records_left_alike d (hearing x p) (hearing y q) n k up (named x n names-x) (named y k names-y),
  λ differ. records_say_the_same d (hearing x p) (hearing y q) n k up (named x n names-x) (named y k names-y) differ,
)
