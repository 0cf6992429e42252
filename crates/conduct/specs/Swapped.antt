-- Promise: two messages at once (document 02, M-113): Oks and Advisories that name what is open in Up, handed in one after the other with no call between. Which
-- comes first is nothing to what is left and, where they name different ones, to what is said; where they name one, it is said which decides.
-- (proofs/Swapped, Judged, Twice)
-- Assumes nothing.
use Rattle.std.specs.Prelude.{◌≡◌, true, false, cond, List, [], ◌∷◌, ◌++◌, map, ℕ, ◌+◌, leb, eqb, None, Some}
use Rattle.message.specs.declared.Advice.TheVariants.{UnreadableMessage}
use Rattle.message.specs.declared.Message.{Message}
use Rattle.conduct.specs.Lists.{flat, some, among}
use Rattle.conduct.specs.Session.{Session, is_up, held}
use Rattle.conduct.specs.Sound.{sound}
use Rattle.conduct.specs.Step.{Answered, step}
use Rattle.conduct.specs.History.{history, session_after, Bearing, says_unreadable, message_bearing, is_closing}
use Rattle.conduct.specs.History.Bearing.{ticked, acknowledged, unreadable_message, advised}
use Rattle.conduct.specs.Followed.{most_resendings, due_for}
use Rattle.conduct.specs.declared.State.TheVariants.{Up}
use Rattle.conduct.specs.declared.Event.{Event}
use Rattle.conduct.specs.declared.Push.{Push}
use Rattle.conduct.specs.declared.Call.{Call}
use Rattle.conduct.specs.declared.Call.TheVariants as calls

-- the call hands in a message, an Ok or an Advisory of any type, that names n
pub record Names (c : Call) (n : ℕ) : Type 0 where
  pub message : Message
  pub is_heard : c ≡ calls.Heard message
  pub bearing : Bearing
  pub bears : message_bearing n message message.kind ≡ bearing ∷ []

-- Its bearing is unreadable_message where its advisoryType is there and is UnreadableMessage, and only there.
abbrev pub UnreadableByItsType : Type 0
UnreadableByItsType =
    (m : Message)
    → (says_unreadable m ≡ true → (m.advisory_type.there ≡ true) × (m.advisory_type.meaning ≡ UnreadableMessage))
    × (m.advisory_type.there ≡ true → m.advisory_type.meaning ≡ UnreadableMessage → says_unreadable m ≡ true)

-- two sessions answer every later list of calls alike, with the same refusals, events and states
abbrev pub AnswerAlike : Session → Session → Type 0
AnswerAlike s t = (later : List Call) → history s later ≡ history t later

-- ---- any two: whichever comes first, the sessions that are left answer alike. What they name may be open or not, one thing or two.

abbrev pub EitherLeavesAlike : Type 0
EitherLeavesAlike =
    (s : Session) (a b : Call) (n k : ℕ) → sound s ≡ true → is_up s.state ≡ true → Names a n → Names b k
    → AnswerAlike (session_after s (a ∷ b ∷ [])) (session_after s (b ∷ a ∷ []))

-- ---- two that name different numbers, be they of open pushes of either kind, of the open SessionOk or of nothing open: a is accepted and gives the same events
-- before b as behind it; and so does b, with the two exchanged

abbrev pub EitherSaysTheSame : Type 0
EitherSaysTheSame =
    (s : Session) (a b : Call) (n k : ℕ) → sound s ≡ true → is_up s.state ≡ true → Names a n → Names b k → (n ≡ k → ⊥)
    → ((step s a).refusal ≡ 0) × ((step (step s b).next a).refusal ≡ 0) × ((step (step s b).next a).events ≡ (step s a).events)

-- ---- what one does to the open push p that it names: nothing else moves, and the others stay in their order

abbrev pub with_pushes : List Push → Session → Session
with_pushes ps s = record { site = s.site; state = s.state; pushes = ps; last = s.last }

-- what is due to be said of it (specs/Followed), with its number and its handle
abbrev pub codes_due : Session → Push → Bearing → List ℕ
codes_due s p b = due_for (leb p.sent (most_resendings s.site.resends p.what)) false (b ∷ [])

abbrev pub says_of : Push → ℕ → Event
says_of p code = record { code = code; number = p.number; detail = p.handle }

-- by 5 it stays open, sent once more and its ticks counted anew; else it is closed
abbrev pub once_more : Push → Push
once_more p = record { what = p.what; number = p.number; handle = p.handle; sent = p.sent + 1; age = 0 }

abbrev pub stays_by : Push → ℕ → List Push
stays_by p code = cond (eqb code 5) (once_more p ∷ []) []

abbrev pub judged : Session → List Push → Push → List Push → Bearing → Answered
judged s before p behind b =
    record {
      refusal = 0;
      next = with_pushes (before ++ (flat (stays_by p) (codes_due s p b) ++ behind)) s;
      events = map (says_of p) (codes_due s p b);
    }

abbrev pub NamedPushJudged : Type 0
NamedPushJudged =
    (s : Session) (before behind : List Push) (p : Push) (a : Call) → sound s ≡ true → is_up s.state ≡ true → s.pushes ≡ before ++ p ∷ behind
    → (x : Names a p.number) → step s a ≡ judged s before p behind x.bearing

-- ---- what one does that names nothing open: 15, and the session is as it was

abbrev pub unmatched_event : Event
unmatched_event = record { code = 15; number = 0; detail = 0 }

abbrev pub unmatched_in : Session → Answered
unmatched_in s = record { refusal = 0; next = s; events = unmatched_event ∷ [] }

abbrev pub NothingOpenNamed : Type 0
NothingOpenNamed = (s : Session) (n : ℕ) (a : Call) → sound s ≡ true → is_up s.state ≡ true → among n (held s) ≡ false → Names a n → step s a ≡ unmatched_in s

-- ---- two that name one push p, a first

pub record OneAfterOther (s : Session) (before : List Push) (p : Push) (behind : List Push) (a b : Call) (x y : Bearing) : Type 0 where
  -- where the first closes it, as an Ok always does, the first decides
  pub first_decides : some is_closing (step s a).events ≡ true → step (step s a).next b ≡ unmatched_in (step s a).next
  -- where it does not, it is an UnreadableMessage that sends it again, and the second is judged as any is
  pub else_sent_again : some is_closing (step s a).events ≡ false
      → (x ≡ unreadable_message)
      × (step s a ≡ record { refusal = 0; next = with_pushes (before ++ once_more p ∷ behind) s; events = says_of p 5 ∷ [] })
      × (step (step s a).next b ≡ judged (step s a).next before (once_more p) behind y)

abbrev pub OnePushNamedTwice : Type 0
OnePushNamedTwice =
    (s : Session) (before behind : List Push) (p : Push) (a b : Call) → sound s ≡ true → is_up s.state ≡ true → s.pushes ≡ before ++ p ∷ behind
    → (x : Names a p.number) (y : Names b p.number) → OneAfterOther s before p behind a b x.bearing y.bearing

-- ---- the open SessionOk: an Ok closes it in silence, an Advisory with 17, and a second message finds nothing open

-- no message is a tick
abbrev pub says_of_session_ok : Bearing → List Event
says_of_session_ok ticked = []
says_of_session_ok acknowledged = []
says_of_session_ok unreadable_message = record { code = 17; number = 0; detail = 0 } ∷ []
says_of_session_ok advised = record { code = 17; number = 0; detail = 0 } ∷ []

abbrev pub heard_in : Session → ℕ → Session
heard_in s age = record { site = s.site; state = Up None age; pushes = s.pushes; last = s.last }

abbrev pub SessionOkNamed : Type 0
SessionOkNamed =
    (s : Session) (n age : ℕ) (a : Call) → sound s ≡ true → s.state ≡ Up (Some n) age → (x : Names a n)
    → step s a ≡ record { refusal = 0; next = heard_in s age; events = says_of_session_ok x.bearing }

abbrev pub SessionOkNamedTwice : Type 0
SessionOkNamedTwice =
    (s : Session) (n age : ℕ) (a b : Call) → sound s ≡ true → s.state ≡ Up (Some n) age → Names a n → Names b n
    → step (step s a).next b ≡ unmatched_in (step s a).next
