-- What a call answers: its refusal, the session that follows and the events, in their order (document 01, "The session"). Assumes nothing.
use Rattle.std.specs.Prelude.{List, [], ◌∷◌, ◌++◌, ℕ, zero, suc}
use Rattle.conduct.specs.Lists.{flat}
use Rattle.conduct.specs.Codes.{disconnect, send_alert, send_going_out_of_service, sending}
use Rattle.conduct.specs.Numbers.{Note, next_free, last_after_all, all_numbered}
use Rattle.conduct.specs.Pushes.{terms_of, opened, keeps, tells}
use Rattle.conduct.specs.Session.{Session, held, refusal_of}
use Rattle.conduct.specs.Rules.{move_of}
use Rattle.conduct.specs.declared.Event.{Event}
use Rattle.conduct.specs.declared.Push.{Push}
use Rattle.conduct.specs.declared.Call.{Call}
use Rattle.conduct.specs.declared.Parting.{Parting}
use Rattle.conduct.specs.declared.Parting.TheVariants as partings
use Rattle.conduct.specs.declared.Remark.{Remark}
use Rattle.conduct.specs.declared.Remark.TheVariants as remarks
use Rattle.conduct.specs.declared.Move.{Move}

-- ---- what a move says, before the numbers are given

abbrev pub noted : ℕ → ℕ → Note
noted code detail = record { code = code; detail = detail }

abbrev pub parting_notes : Parting → List Note
parting_notes partings.Nothing = []
parting_notes partings.Disconnect = noted disconnect 0 ∷ []
parting_notes partings.GoingOut = noted send_going_out_of_service 0 ∷ noted disconnect 0 ∷ []
parting_notes partings.Alert = noted send_alert 0 ∷ noted send_going_out_of_service 0 ∷ noted disconnect 0 ∷ []

abbrev pub remark_notes : Remark → List Note
remark_notes remarks.Nothing = []
remark_notes (remarks.Note code detail) = noted code detail ∷ []
remark_notes (remarks.Send what handle) = noted (sending what) handle ∷ []

-- the push that it opens, with the number that its sending takes
abbrev pub opens : ℕ → Remark → List Push
opens number remarks.Nothing = []
opens number (remarks.Note code detail) = []
opens number (remarks.Send what handle) = opened what number handle ∷ []

-- ---- an accepted call: what the session says before it goes, then what is said of its pushes in order of acceptance, then the rest

abbrev pub last_after_parting : Session → Move → ℕ
last_after_parting s m = last_after_all (held s) s.last (parting_notes m.parting)

abbrev pub events_by : Session → Move → List Event
events_by s m =
    all_numbered (held s) s.last (parting_notes m.parting)
    ++ (flat (tells (terms_of s.site) m.sweep) s.pushes ++ all_numbered (held s) (last_after_parting s m) (remark_notes m.remark))

abbrev pub moved_by : Session → Move → Session
moved_by s m =
    record {
      site = s.site;
      state = m.to;
      pushes = flat (keeps (terms_of s.site) m.sweep) s.pushes ++ opens (next_free (held s) (last_after_parting s m)) m.remark;
      last = last_after_all (held s) (last_after_parting s m) (remark_notes m.remark);
    }

-- ---- any call

pub record Answered : Type 0 where
  pub refusal : ℕ
  pub next : Session
  pub events : List Event

-- a refused call gives the old session and no event
abbrev pub answer : ℕ → Session → Call → Answered
answer zero s c = record { refusal = 0; next = moved_by s (move_of s c); events = events_by s (move_of s c) }
answer (suc k) s c = record { refusal = suc k; next = s; events = [] }

abbrev pub step : Session → Call → Answered
step s c = answer (refusal_of s c) s c
