-- What each call does in each state, rule by rule (document 01, "The session"). Assumes nothing.
use Rattle.std.specs.Prelude.{cond, ℕ, ◌+◌, ◌-◌, ltb, eqb, Option, None, Some}
use Rattle.message.specs.declared.Value.{Value}
use Rattle.message.specs.declared.Status.{Status}
use Rattle.message.specs.declared.Status.TheVariants as statuses
use Rattle.message.specs.declared.Advice.{Advice}
use Rattle.message.specs.declared.Advice.TheVariants as advices
use Rattle.message.specs.declared.Message.{Message}
use Rattle.conduct.specs.Lists.{among}
use Rattle.conduct.specs.Codes as codes
use Rattle.conduct.specs.Numbers.{next_free}
use Rattle.conduct.specs.Session.{Session, held, push_numbers, awaited_numbers}
use Rattle.conduct.specs.Table.{action_of}
use Rattle.conduct.specs.declared.State.{State}
use Rattle.conduct.specs.declared.State.TheVariants.{Waiting, Connecting, Opening, Confirming, Up, Stopped}
use Rattle.conduct.specs.declared.Call.{Call}
use Rattle.conduct.specs.declared.Call.TheVariants as calls
use Rattle.conduct.specs.declared.Action.{Action}
use Rattle.conduct.specs.declared.Action.TheVariants as actions
use Rattle.conduct.specs.declared.Conduct.{Conduct}
use Rattle.conduct.specs.declared.Conduct.TheVariants as conducts
use Rattle.conduct.specs.declared.Sweep.{Sweep}
use Rattle.conduct.specs.declared.Sweep.TheVariants as sweeps
use Rattle.conduct.specs.declared.Parting.{Parting}
use Rattle.conduct.specs.declared.Parting.TheVariants as partings
use Rattle.conduct.specs.declared.Remark.{Remark}
use Rattle.conduct.specs.declared.Remark.TheVariants as remarks
use Rattle.conduct.specs.declared.Move.{Move}

-- ---- moves

-- to a state, and no push is touched
abbrev pub goes : State → Remark → Move
goes state remark = record { to = state; parting = partings.Nothing; sweep = sweeps.Still; remark = remark }

-- the same, and each push is one tick older
abbrev pub ages : State → Remark → Move
ages state remark = record { to = state; parting = partings.Nothing; sweep = sweeps.Older; remark = remark }

-- the same state, and what a message that names a push does to the pushes
abbrev pub touches : State → Sweep → Move
touches state sweep = record { to = state; parting = partings.Nothing; sweep = sweep; remark = remarks.Nothing }

-- to a state in which no push is open
abbrev pub leaves : State → Parting → Move
leaves state parting = record { to = state; parting = parting; sweep = sweeps.Lost; remark = remarks.Nothing }

abbrev pub waits : Parting → Move
waits parting = leaves (Waiting 300) parting

-- an event that has no detail
abbrev pub note : ℕ → Remark
note code = remarks.Note code 0

-- ---- ticks. The tick after 19 is the 20th.

abbrev pub tick : ℕ → ℕ → State → Move
tick interval next (Waiting left) = cond (ltb 1 left) (goes (Waiting (left - 1)) remarks.Nothing) (goes Connecting (note codes.connect))
tick interval next Connecting = goes Connecting remarks.Nothing
tick interval next (Opening age) = cond (ltb age 19) (goes (Opening (age + 1)) remarks.Nothing) (waits partings.Alert)
tick interval next (Confirming number age) = cond (ltb age 19) (goes (Confirming number (age + 1)) remarks.Nothing) (waits partings.GoingOut)
tick interval next (Up (Some number) age) = cond (ltb age 19) (ages (Up (Some number) (age + 1)) remarks.Nothing) (waits partings.GoingOut)
tick interval next (Up None age) =
    cond (ltb (age + 1) interval) (ages (Up None (age + 1)) remarks.Nothing) (ages (Up (Some next) 0) (note codes.send_session_ok))
tick interval next Stopped = goes Stopped remarks.Nothing

-- ---- the host's other calls

abbrev pub connected : Move
connected = goes (Opening 0) (note codes.send_session_open_request)

abbrev pub lost : Move
lost = waits partings.Nothing

abbrev pub stop : State → Move
stop (Waiting left) = leaves Stopped partings.Nothing
stop Connecting = leaves Stopped partings.Nothing
stop (Opening age) = leaves Stopped partings.GoingOut
stop (Confirming number age) = leaves Stopped partings.GoingOut
stop (Up waiting age) = leaves Stopped partings.GoingOut
stop Stopped = leaves Stopped partings.Nothing

-- ---- what a message's values say; where a value is not there, it names nothing and means other

abbrev pub named_by : Value (Option ℕ) → Option ℕ
named_by value = cond value.there value.meaning None

abbrev pub status_by : Value Status → Status
status_by value = cond value.there value.meaning statuses.Other

abbrev pub advice_by : Value Advice → Advice
advice_by value = cond value.there value.meaning advices.Other

-- ---- Opening: the answer to the SessionOpenRequest

abbrev pub answered : ℕ → Status → Move
answered next statuses.Ok = goes (Confirming next 0) (note codes.send_session_ok)
answered next statuses.RedundantSession = goes (Confirming next 0) (note codes.send_session_ok)
answered next statuses.Other = waits partings.Disconnect

-- as which status one counts (document 02, M-110): in the new conduct RedundantSession is like any unknown one
abbrev pub counted_in : Conduct → Status → Status
counted_in conducts.New statuses.Ok = statuses.Ok
counted_in conducts.New statuses.RedundantSession = statuses.Other
counted_in conducts.New statuses.Other = statuses.Other
counted_in conducts.Old status = status

-- ---- Oks and Advisories, by the number that they name and what is open

-- naming nothing open
abbrev pub matches_nothing : State → Move
matches_nothing state = goes state (note codes.unmatched)

abbrev pub ok_naming : Session → ℕ → State → Move
ok_naming s n (Waiting left) = matches_nothing (Waiting left)
ok_naming s n Connecting = matches_nothing Connecting
ok_naming s n (Opening age) = matches_nothing (Opening age)
ok_naming s n (Confirming number age) = cond (eqb n number) (goes (Up None age) (note codes.up)) (matches_nothing (Confirming number age))
ok_naming s n (Up waiting age) =
    cond (among n (awaited_numbers waiting)) (goes (Up None age) remarks.Nothing)
    (cond (among n (push_numbers s.pushes)) (touches (Up waiting age) (sweeps.Acknowledged n)) (matches_nothing (Up waiting age)))
ok_naming s n Stopped = matches_nothing Stopped

abbrev pub acknowledged : Session → Option ℕ → Move
acknowledged s None = matches_nothing s.state
acknowledged s (Some n) = ok_naming s n s.state

-- what an Advisory does to the push that it names
abbrev pub advises : Advice → ℕ → Sweep
advises advices.UnreadableMessage n = sweeps.UnreadableMessage n
advises advices.Other n = sweeps.Advised n

abbrev pub advisory_naming : Session → Advice → ℕ → State → Move
advisory_naming s advice n (Waiting left) = matches_nothing (Waiting left)
advisory_naming s advice n Connecting = matches_nothing Connecting
advisory_naming s advice n (Opening age) = matches_nothing (Opening age)
advisory_naming s advice n (Confirming number age) = cond (eqb n number) (waits partings.Disconnect) (matches_nothing (Confirming number age))
advisory_naming s advice n (Up waiting age) =
    cond (among n (awaited_numbers waiting)) (goes (Up None age) (note codes.advisory_arrived))
    (cond (among n (push_numbers s.pushes)) (touches (Up waiting age) (advises advice n)) (matches_nothing (Up waiting age)))
advisory_naming s advice n Stopped = matches_nothing Stopped

abbrev pub advised_about : Session → Advice → Option ℕ → Move
advised_about s advice None = matches_nothing s.state
advised_about s advice (Some n) = advisory_naming s advice n s.state

-- without inRelationTo it closes nothing
abbrev pub advised : Session → Message → Move
advised s m =
    cond m.in_relation_to.there (advised_about s (advice_by m.advisory_type) m.in_relation_to.meaning) (goes s.state (note codes.advisory_arrived))

-- ---- a message, by the table

-- the number that the next send event takes
abbrev pub next_number : Session → ℕ
next_number s = next_free (held s) s.last

abbrev pub acted : Session → Message → Action → Move
acted s m actions.OutOfPlace = goes s.state (note codes.out_of_place)
acted s m actions.Answer = answered (next_number s) (counted_in s.site.conduct (status_by m.status))
acted s m actions.Acknowledge = acknowledged s (named_by m.in_response_to)
acted s m actions.Advise = advised s m
acted s m actions.Request = goes s.state (note codes.request_arrived)

-- ---- any call

abbrev pub move_of : Session → Call → Move
move_of s calls.Tick = tick s.site.interval (next_number s) s.state
move_of s calls.Connected = connected
move_of s calls.Lost = lost
move_of s calls.Stop = stop s.state
move_of s (calls.Push what handle) = goes s.state (remarks.Send what handle)
move_of s (calls.Heard m) = acted s m (action_of s.state m.kind)
move_of s (calls.Unreadable refusal) = goes s.state (remarks.Note codes.unreadable refusal)
