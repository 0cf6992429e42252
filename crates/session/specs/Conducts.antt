-- Promise: the two conducts (document 02, M-110), said of the records that the calls take and hand back, and of the bytes of a message. (proofs/Conducts)
-- By their contracts what the public calls answer says (`told_said`) `told`, so what is said here of `told` is said of the code. Assumes nothing.
use Rattle.std.specs.Prelude.{◌≡◌, Bool, true, false, not, ◌&&◌, List, [], ◌∷◌, ℕ}
use Rattle.message.specs.Class.{class_of}
use Rattle.message.specs.Limits.{link_limits}
use Rattle.message.specs.Reading.Reading.{whole}
use Rattle.message.specs.Messages.{message_of}
use Rattle.message.specs.declared.Kind.TheVariants as kinds
use Rattle.message.specs.declared.Status.TheVariants as statuses
use Rattle.message.specs.declared.Message.{Message}
use Rattle.conduct.specs.declared.Call.{Call}
use Rattle.conduct.specs.declared.Call.TheVariants as calls
use Rattle.conduct.specs.declared.Conduct.{Conduct}
use Rattle.conduct.specs.Conducts.{says_redundant, status_for, with_status, is_redundant_answer, by_conduct}
use Rattle.session.specs.Record.{session_of, consistent}
use Rattle.session.specs.Answers.{Told, told, call_of_bytes}
use Rattle.session.specs.Code.{Asked, answer_to, record_after, answers}
use Rattle.session.specs.declared.Session.{Session as Record}

-- ---- RedundantSession, for any record and any length of the event list: answered as the status for which it stands in the record's conduct

abbrev pub RecordCountsAs : Type 0
RecordCountsAs =
    (places : ℕ) (d : Record) (m : Message) → says_redundant m ≡ true
    → told places d (calls.Heard m) ≡ told places d (calls.Heard (with_status (status_for d.site.conduct) m))

-- bytes are such an answer exactly if they are read as a SessionOpenResponse whose status is there and is RedundantSession
pub record ReadAsRedundant (bytes : List ℕ) : Type 0 where
  pub message : Message
  pub is_read : message_of class_of link_limits bytes ≡ whole message
  pub is_kind : message.kind ≡ kinds.SessionOpenResponse
  pub is_there : message.status.there ≡ true
  pub says_it : message.status.meaning ≡ statuses.RedundantSession

abbrev pub RedundantByItsBytes : Type 0
RedundantByItsBytes =
    (bytes : List ℕ)
    → (is_redundant_answer (call_of_bytes bytes) ≡ true → ReadAsRedundant bytes) × (ReadAsRedundant bytes → is_redundant_answer (call_of_bytes bytes) ≡ true)

-- ---- nothing else differs

-- a record and an answer but for the conduct
abbrev pub record_in : Conduct → Record → Record
record_in k d = record { site = record { interval = d.site.interval; conduct = k; resends = d.site.resends }; state = d.state; pushes = d.pushes; last = d.last }

abbrev pub told_in : Conduct → Told → Told
told_in k t = record { refusal = t.refusal; next = record_in k t.next; events = t.events }

-- the test behind 27 asks nothing of it
abbrev pub TestedAlike : Type 0
TestedAlike = (k : Conduct) (d : Record) → consistent (record_in k d) ≡ consistent d

abbrev pub RecordOnlyThere : Type 0
RecordOnlyThere =
    (k : Conduct) (places : ℕ) (d : Record) (c : Call) → by_conduct (session_of d) c ≡ false → told places (record_in k d) c ≡ told_in k (told places d c)

-- ---- calls one after the other

abbrev pub record_never_by_conduct : Record → List Asked → Bool
record_never_by_conduct d [] = true
record_never_by_conduct d (a ∷ rest) = not (by_conduct (session_of d) a.call) && record_never_by_conduct (answer_to d a).next rest

abbrev pub RecordOnlyThereThroughout : Type 0
RecordOnlyThereThroughout =
    (k : Conduct) (d : Record) (asked : List Asked) → record_never_by_conduct d asked ≡ true
    → (answers (record_in k d) asked ≡ answers d asked) × (record_after (record_in k d) asked ≡ record_in k (record_after d asked))

-- what a record was made with is kept, whatever is in it
abbrev pub RecordSiteKept : Type 0
RecordSiteKept = (d : Record) (asked : List Asked) → (record_after d asked).site ≡ d.site
