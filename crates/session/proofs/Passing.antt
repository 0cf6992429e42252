-- A call whose events go to a lent list, where the same call by value is answered: the events of an accepted one have room, and a refused one leaves the list.
-- Assumes nothing.
use Rattle.std.specs.Prelude.{Result, Ok, Err}
use mathlib.Core.Path.{◌≡◌, refl, sym, ap}
use mathlib.Core.List.{List, []}
use native.Mathlib.Omega.{arith}
use lib.ListN.{length}
use Rattle.conduct.specs.declared.Call.{Call}
use Rattle.conduct.specs.declared.Event.{Event}
use Rattle.session.specs.Answers.{Told, told, SaysAndWrites, refusal_number, told_said, said_in_list, HasRoom}
use Rattle.session.specs.declared.Accepted.{Accepted}
use Rattle.session.specs.declared.Refusal.{Refusal}
use Rattle.session.specs.declared.Session.{Session as Record}
use Rattle.session.proofs.Rows.{list_of_lem, events_count}
use Rattle.session.proofs.Histories.{list_fits}

pub has_room : (list : List Event) (d : Record) (c : Call) (answer : Result Accepted Refusal) → told_said d answer ≡ told (length list) d c → HasRoom list answer
has_room list d c (Ok a) is =
    let count = ap (λ (t : Told). t.events.count) is in
    let fits = list_fits (length list) d c in
    (omega (arith, fits.0, count), omega (arith, fits.1, count))
has_room list d c (Err why) is = tt

pub refused_in_list : (d : Record) (why : Refusal) (list : List Event) → SaysAndWrites (told_said d (Err why)) list (said_in_list d (Err why)) list
refused_in_list d why list =
    ((λ i. record { refusal = refusal_number why; next = d; count = sym (events_count _ [] refl) i }), rw (list_of_lem [], events_count _ [] refl) refl)
