-- Promise: the code's answers are the history: what calls of a record answer, call by call, is what its session does. (proofs/Histories, Rows, Making, Following)
-- By their contracts what the public calls answer says (`told_said`) `told`, so what is said here of `told` is said of the code. Assumes nothing.
use Rattle.std.specs.Prelude.{◌≡◌, Bool, true, not, List, [], ◌∷◌, ◌++◌, map, ◌⊎◌, ℕ, ◌≤◌, ◌<◌, leb, ltb, eqb, length, take, drop}
use Rattle.conduct.specs.declared.Call.{Call}
use Rattle.conduct.specs.declared.Call.TheVariants as calls
use Rattle.conduct.specs.declared.Conduct.TheVariants.{New}
use Rattle.conduct.specs.declared.Event.{Event}
use Rattle.conduct.specs.declared.Pushed.{Pushed}
use Rattle.conduct.specs.declared.Site.{Site}
use Rattle.conduct.specs.declared.State.{State}
use Rattle.conduct.specs.declared.State.TheVariants.{Waiting, Stopped}
use Rattle.conduct.specs.Lists.{those}
use Rattle.conduct.specs.History.{Entry, history}
use Rattle.conduct.specs.Followed.{first_code, Followed}
use Rattle.conduct.specs.Reached.{Tested}
use Rattle.session.specs.Rows.{rows_of, events_of, list_of}
use Rattle.session.specs.Record.{session_of, consistent, made_of, with_last}
use Rattle.session.specs.Answers.{Told, Said, told, said_of, written, SaysAndWrites}
use Rattle.session.specs.declared.Session.{Session as Record}
use Rattle.session.specs.declared.Events.{Events}

-- ---- calls one after the other, each on the record that the one before handed back

-- a call, and how many places the event list has that the host keeps for it
pub record Asked : Type 0 where
  pub call : Call
  pub places : ℕ

abbrev pub answer_to : Record → Asked → Told
answer_to d a = told a.places d a.call

abbrev pub record_after : Record → List Asked → Record
record_after d [] = d
record_after d (a ∷ rest) = record_after (answer_to d a).next rest

-- what a host sees of one answer, and of all
abbrev pub seen : Call → Told → Entry
seen c t = record { call = c; refusal = t.refusal; events = list_of t.events; state = t.next.state }

abbrev pub answers : Record → List Asked → List Entry
answers d [] = []
answers d (a ∷ rest) = seen a.call (answer_to d a) ∷ answers (answer_to d a).next rest

-- whether the list of a call is long enough, and whether an answer is another than that it is not
abbrev pub roomy : Asked → Bool
roomy a = leb 40 a.places

abbrev pub heeded : Entry → Bool
heeded x = not (eqb x.refusal 3)

-- A call with too short a list is refused and leaves no trace: from any record that passes the test, the other answers are the history of the other calls.
abbrev pub AnswersAreHistory : Type 0
AnswersAreHistory =
    (d : Record) (asked : List Asked) → consistent d ≡ true
    → those heeded (answers d asked) ≡ history (session_of d) (map (λ (a : Asked). a.call) (those roomy asked))

-- ---- so demand 3 holds of the answers, by the resends that stand in the record

abbrev pub AcceptedAreFollowed : Type 0
AcceptedAreFollowed =
    (d : Record) (asked : List Asked) (before rest : List Entry) (x : Entry) (what : Pushed) (h : ℕ)
    → consistent d ≡ true → those heeded (answers d asked) ≡ before ++ x ∷ rest → x.call ≡ calls.Push what h → x.refusal ≡ 0
    → (n : ℕ) × (x.events ≡ record { code = first_code what; number = n; detail = h } ∷ []) × Followed d.site.resends what n h rest

-- ---- 27 is for no record that was made, nor for one that calls with any lists reached from one that passes

abbrev pub MadeIsConsistent : Type 0
MadeIsConsistent = (site : Site) → consistent (made_of site).session ≡ true

abbrev pub ReachedIsConsistent : Type 0
ReachedIsConsistent = (d : Record) (asked : List Asked) → consistent d ≡ true → consistent (record_after d asked) ≡ true

-- and for every other: what passes has at most 32 pushes open, and its fields are in the paper's figures
abbrev pub PassingRecordIsTested : Type 0
PassingRecordIsTested =
    (d : Record) → consistent d ≡ true
    → (d.pushes.count ≤ 32) × Tested (record { site = d.site; state = d.state; pushes = rows_of d.pushes; last = d.last })

-- ---- making one: 4 outside 21 to 6000, whatever the resends; inside, 18 for more than 3 resends, and only then

-- a record of this site in this state, with nothing open and no number taken
abbrev pub Begins : Site → State → Record → Type 0
Begins site state d = (d.site ≡ site) × (d.state ≡ state) × (rows_of d.pushes ≡ []) × (d.last ≡ 0)

abbrev pub MadeAllowed : Type 0
MadeAllowed =
    (site : Site) → 21 ≤ site.interval → site.interval ≤ 6000 → site.resends ≤ 3
    → ((made_of site).refusal ≡ 0) × Begins site (Waiting 1) (made_of site).session

-- what either refusal leaves: it is stopped, of the new conduct and without resends
abbrev pub NeverBegun : Record → Type 0
NeverBegun d = Begins (record { interval = 21; conduct = New; resends = 0 }) Stopped d

abbrev pub MadeRefused : Type 0
MadeRefused = (site : Site) → (site.interval < 21) ⊎ (6000 < site.interval) → ((made_of site).refusal ≡ 4) × NeverBegun (made_of site).session

abbrev pub MadeRefusedResends : Type 0
MadeRefusedResends =
    (site : Site) → 21 ≤ site.interval → site.interval ≤ 6000 → 3 < site.resends → ((made_of site).refusal ≡ 18) × NeverBegun (made_of site).session

-- ---- refusals, for any record: 3 just where the list is too short, 27 just where it is not and the record fails the test

abbrev pub ShortListRefused : Type 0
ShortListRefused = (places : ℕ) (d : Record) (c : Call) → eqb (told places d c).refusal 3 ≡ ltb places 40

abbrev pub InconsistentRefused : Type 0
InconsistentRefused = (places : ℕ) (d : Record) (c : Call) → 40 ≤ places → eqb (told places d c).refusal 27 ≡ not (consistent d)

-- a refused call leaves the record as it was, whatever is in it, says no event, and leaves a lent list as it was; each record of the code has 32 rows
abbrev pub RefusedReturnsTheOld : Type 0
RefusedReturnsTheOld =
    (places : ℕ) (d : Record) (c : Call) → length d.pushes.rows ≡ 32 → ((told places d c).refusal ≡ 0 → ⊥)
    → ((told places d c).next ≡ d) × ((told places d c).events ≡ events_of []) × ((list : List Event) → written list (told places d c) ≡ list)

-- ---- the events fit any list that is not refused

abbrev pub ListFits : Type 0
ListFits = (places : ℕ) (d : Record) (c : Call) → ((told places d c).events.count ≤ places) × ((told places d c).events.count ≤ 34)

-- ---- the events of an answer are the first of its list, as many as it counts

abbrev pub EventsInFront : Type 0
EventsInFront = (e : Events) → list_of e ≡ take e.count e.list

-- a call with a lent list answers what the same call by value does, and writes just its events to the start of the list
abbrev pub LentListWritten : Type 0
LentListWritten =
    (t : Told) (list left : List Event) (r : Said) → SaysAndWrites t list r left
    → (r ≡ record { refusal = t.refusal; next = t.next; count = t.events.count })
    × (left ≡ take t.events.count t.events.list ++ drop t.events.count list)

-- ---- a call with a lent list answers what the same call by value does, and the last number is set alone

abbrev pub LentSaysTheSame : Type 0
LentSaysTheSame = (t : Told) → said_of t ≡ record { refusal = t.refusal; next = t.next; count = t.events.count }

abbrev pub LastAlone : Type 0
LastAlone = (last : ℕ) (d : Record) → with_last last d ≡ record { site = d.site; state = d.state; pushes = d.pushes; last = last }
