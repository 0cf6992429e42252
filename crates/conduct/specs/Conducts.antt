-- Promise: the two conducts (document 02, M-110): what the answer to a SessionOpenRequest does in each, and that they differ in nothing else. (proofs/OpenResponses, CountedAs, Conducts)
-- Assumes nothing.
use Rattle.std.specs.Prelude.{◌≡◌, Bool, true, false, cond, not, ◌&&◌, ◌||◌, List, [], ◌∷◌, map, ℕ, eqb}
use Rattle.message.specs.declared.Kind.{Kind}
use Rattle.message.specs.declared.Kind.TheVariants as kinds
use Rattle.message.specs.declared.Message.{Message}
use Rattle.message.specs.declared.Status.{Status}
use Rattle.message.specs.declared.Status.TheVariants as statuses
use Rattle.conduct.specs.Numbers.{after}
use Rattle.conduct.specs.Session.{Session, usual, make, state_number}
use Rattle.conduct.specs.Sound.{sound}
use Rattle.conduct.specs.Step.{Answered, step}
use Rattle.conduct.specs.History.{Entry, history, session_after}
use Rattle.conduct.specs.declared.Conduct.{Conduct}
use Rattle.conduct.specs.declared.Conduct.TheVariants.{New, Old}
use Rattle.conduct.specs.declared.Site.{Site}
use Rattle.conduct.specs.declared.State.TheVariants.{Waiting, Opening, Confirming, Stopped}
use Rattle.conduct.specs.declared.Call.{Call}
use Rattle.conduct.specs.declared.Call.TheVariants as calls

-- ---- words

abbrev pub is_old : Conduct → Bool
is_old New = false
is_old Old = true

abbrev pub is_ok : Status → Bool
is_ok statuses.Ok = true
is_ok statuses.RedundantSession = false
is_ok statuses.Other = false

abbrev pub is_redundant_session : Status → Bool
is_redundant_session statuses.Ok = false
is_redundant_session statuses.RedundantSession = true
is_redundant_session statuses.Other = false

abbrev pub is_open_response : Kind → Bool
is_open_response kinds.SessionOpenRequest = false
is_open_response kinds.SessionOpenResponse = true
is_open_response kinds.SessionOk = false
is_open_response kinds.Ok = false
is_open_response kinds.Advisory = false
is_open_response kinds.Request = false
is_open_response kinds.Response = false

-- its status is there and is RedundantSession
abbrev pub says_redundant : Message → Bool
says_redundant m = m.status.there && is_redundant_session m.status.meaning

-- its status is there and opens the session: Ok, and in the old conduct RedundantSession too
abbrev pub opens_in : Conduct → Message → Bool
opens_in k m = m.status.there && (is_ok m.status.meaning || (is_old k && is_redundant_session m.status.meaning))

-- ---- a SessionOpenResponse in Opening, for every session that was made or reached from one

-- 3 with the number after the last one taken, and Confirming; or 7, and 300 ticks of Waiting
pub record AnswersOpening (s : Session) (m : Message) : Type 0 where
  pub opens : opens_in s.site.conduct m ≡ true
      → step s (calls.Heard m)
      ≡ record {
        refusal = 0;
        next = record { site = s.site; state = Confirming (after s.last) 0; pushes = []; last = after s.last };
        events = record { code = 3; number = after s.last; detail = 0 } ∷ [];
      }
  pub ends : opens_in s.site.conduct m ≡ false
      → step s (calls.Heard m)
      ≡ record {
        refusal = 0;
        next = record { site = s.site; state = Waiting 300; pushes = []; last = s.last };
        events = record { code = 7; number = 0; detail = 0 } ∷ [];
      }

abbrev pub OpeningAnswered : Type 0
OpeningAnswered =
    (s : Session) (m : Message) (age : ℕ) → sound s ≡ true → s.state ≡ Opening age → is_open_response m.kind ≡ true
    → AnswersOpening s m

-- in another state in which it is accepted it is out of place, whatever its status says: 14, and the session is as it was
abbrev pub OutOfPlaceElsewhere : Type 0
OutOfPlaceElsewhere =
    (s : Session) (m : Message) → is_open_response m.kind ≡ true → eqb (state_number s.state) 3 ≡ false → (step s (calls.Heard m)).refusal ≡ 0
    → step s (calls.Heard m) ≡ record { refusal = 0; next = s; events = record { code = 14; number = 0; detail = 0 } ∷ [] }

-- ---- RedundantSession, for every session: in the new conduct the message is answered as the same with an unknown status, in the old one as the same with Ok

abbrev pub with_status : Status → Message → Message
with_status status m =
    record {
      kind = m.kind;
      status = record { there = m.status.there; place = m.status.place; length = m.status.length; meaning = status };
      id = m.id;
      in_response_to = m.in_response_to;
      in_relation_to = m.in_relation_to;
      advisory_type = m.advisory_type;
    }

abbrev pub status_for : Conduct → Status
status_for New = statuses.Other
status_for Old = statuses.Ok

abbrev pub CountsAs : Type 0
CountsAs =
    (s : Session) (m : Message) → says_redundant m ≡ true
    → step s (calls.Heard m) ≡ step s (calls.Heard (with_status (status_for s.site.conduct) m))

-- ---- nothing else differs

-- a session and an answer but for the conduct
abbrev pub with_conduct : Conduct → Session → Session
with_conduct k s = record { site = record { interval = s.site.interval; conduct = k; resends = s.site.resends }; state = s.state; pushes = s.pushes; last = s.last }

abbrev pub answered_in : Conduct → Answered → Answered
answered_in k a = record { refusal = a.refusal; next = with_conduct k a.next; events = a.events }

abbrev pub is_redundant_answer : Call → Bool
is_redundant_answer calls.Tick = false
is_redundant_answer calls.Connected = false
is_redundant_answer calls.Lost = false
is_redundant_answer calls.Stop = false
is_redundant_answer (calls.Push what handle) = false
is_redundant_answer (calls.Heard m) = is_open_response m.kind && says_redundant m
is_redundant_answer (calls.Unreadable refusal) = false

-- in Opening that message, and only it, is answered by the conduct
abbrev pub by_conduct : Session → Call → Bool
by_conduct s c = eqb (state_number s.state) 3 && is_redundant_answer c

-- every other call has the same refusal and events, and leaves the same session but for the conduct
abbrev pub OnlyThere : Type 0
OnlyThere = (k : Conduct) (s : Session) (c : Call) → by_conduct s c ≡ false → step (with_conduct k s) c ≡ answered_in k (step s c)

-- ---- whole histories

-- no call of them is answered by the conduct
abbrev pub never_by_conduct : Session → List Call → Bool
never_by_conduct s [] = true
never_by_conduct s (c ∷ cs) = not (by_conduct s c) && never_by_conduct (step s c).next cs

abbrev pub OnlyThereThroughout : Type 0
OnlyThereThroughout =
    (k : Conduct) (s : Session) (cs : List Call) → never_by_conduct s cs ≡ true
    → (history (with_conduct k s) cs ≡ history s cs) × (session_after (with_conduct k s) cs ≡ with_conduct k (session_after s cs))

-- a call as it counts: RedundantSession replaced by the status for which it stands
abbrev pub counted_call : Conduct → Call → Call
counted_call k calls.Tick = calls.Tick
counted_call k calls.Connected = calls.Connected
counted_call k calls.Lost = calls.Lost
counted_call k calls.Stop = calls.Stop
counted_call k (calls.Push what handle) = calls.Push what handle
counted_call k (calls.Heard m) = calls.Heard (cond (says_redundant m) (with_status (status_for k) m) m)
counted_call k (calls.Unreadable refusal) = calls.Unreadable refusal

abbrev pub counted_entry : Conduct → Entry → Entry
counted_entry k x = record { call = counted_call k x.call; refusal = x.refusal; events = x.events; state = x.state }

abbrev pub CountsAsThroughout : Type 0
CountsAsThroughout =
    (s : Session) (cs : List Call)
    → let k : Conduct = s.site.conduct in
    (history s (map (counted_call k) cs) ≡ map (counted_entry k) (history s cs)) × (session_after s (map (counted_call k) cs) ≡ session_after s cs)

-- ---- making one: a fresh session of the site that was chosen; the new conduct and one resend where only an interval is said, the new conduct and none where the
-- making is refused

abbrev pub MadeAsChosen : Type 0
MadeAsChosen = (site : Site) → (make site).refusal ≡ 0 → (make site).session ≡ record { site = site; state = Waiting 1; pushes = []; last = 0 }

abbrev pub NewWhereUnsaid : Type 0
NewWhereUnsaid = (interval : ℕ) → usual interval ≡ record { interval = interval; conduct = New; resends = 1 }

abbrev pub NewWhereRefused : Type 0
NewWhereRefused =
    (site : Site) → ((make site).refusal ≡ 0 → ⊥)
    → (make site).session ≡ record { site = record { interval = 21; conduct = New; resends = 0 }; state = Stopped; pushes = []; last = 0 }
