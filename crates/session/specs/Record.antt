-- How a session lies in the record that the calls take, and the test behind refusal 27 (docs/CONSISTENCY.md). Assumes nothing.
use Rattle.std.specs.Prelude.{Bool, ◌&&◌, ℕ, leb, drop}
use Rattle.conduct.specs.Lists.{all}
use Rattle.conduct.specs.Session.{Session, refused_making, make}
use Rattle.conduct.specs.Sound.{sound}
use Rattle.conduct.specs.declared.Site.{Site}
use Rattle.session.specs.Rows.{table_of, rows_of, is_blank}
use Rattle.session.specs.declared.Session.{Session as Record}
use Rattle.session.specs.declared.Made.{Made}

-- the session that a record holds, and the one record that holds a session
abbrev pub session_of : Record → Session
session_of d = record { site = d.site; state = d.state; pushes = rows_of d.pushes; last = d.last }

abbrev pub record_of : Session → Record
record_of s = record { site = s.site; state = s.state; pushes = table_of s.pushes; last = s.last }

-- the count is at most 32, blanks follow, and the session has what every one has that was made or reached from one
abbrev pub consistent : Record → Bool
consistent d = leb d.pushes.count 32 && (all is_blank (drop d.pushes.count d.pushes.rows) && sound (session_of d))

-- what making answers
abbrev pub refused_of : ℕ → Made
refused_of refusal = record { refusal = refusal; session = record_of (refused_making refusal).session }

abbrev pub made_of : Site → Made
made_of site = record { refusal = (make site).refusal; session = record_of (make site).session }

abbrev pub with_last : ℕ → Record → Record
with_last last d = record { site = d.site; state = d.state; pushes = d.pushes; last = last }
