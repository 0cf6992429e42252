-- How a list of pushes lies in a `Table`, and a list of events in an `Events`: at the front, in order, with blanks behind it. Assumes nothing.
use Rattle.std.specs.Prelude.{◌≡◌, Bool, ◌&&◌, List, ◌++◌, ℕ, ◌≤◌, ◌-◌, eqb, length, take, replicate}
use Rattle.conduct.specs.declared.Push.{Push}
use Rattle.conduct.specs.declared.Pushed.TheVariants.{Response}
use Rattle.conduct.specs.declared.Event.{Event}
use Rattle.conduct.specs.Pushes.{is_response}
use Rattle.session.specs.declared.Table.{Table}
use Rattle.session.specs.declared.Events.{Events}

-- xs, and blanks up to n places
abbrev pub padded : {A : Type 0} → ℕ → A → List A → List A
padded n blank xs = xs ++ replicate (n - length xs) blank

abbrev pub no_push : Push
no_push = record { what = Response; number = 0; handle = 0; sent = 0; age = 0 }

abbrev pub no_event : Event
no_event = record { code = 0; number = 0; detail = 0 }

-- ---- pushes

unfoldable pub table_of : List Push → Table
table_of ps = record { rows = padded 32 no_push ps; count = length ps }

unfoldable pub rows_of : Table → List Push
rows_of t = take t.count t.rows

-- a table that has room for its count, and blanks behind it
pub record Packed (t : Table) : Type 0 where
  pub fits : t.count ≤ 32
  pub exact : t ≡ table_of (rows_of t)

abbrev pub is_blank : Push → Bool
is_blank p = is_response p.what && (eqb p.number 0 && (eqb p.handle 0 && (eqb p.sent 0 && eqb p.age 0)))

-- ---- events

unfoldable pub events_of : List Event → Events
events_of es = record { list = padded 40 no_event es; count = length es }

unfoldable pub list_of : Events → List Event
list_of e = take e.count e.list

pub record Listed (e : Events) : Type 0 where
  pub fits : e.count ≤ 40
  pub exact : e ≡ events_of (list_of e)
