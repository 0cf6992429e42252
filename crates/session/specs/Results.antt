-- Promise: what the code's Results say, field by field: an accepted call hands over what it has, a refused one leaves the caller's record, says nothing and
-- has its own number. (proofs/Results) The other promises are about the records of `Answers`, and these tie the two together. Assumes nothing.
use Rattle.std.specs.Prelude.{◌≡◌, Ok, Err}
use Rattle.session.specs.Answers.{told_said, said_in_list, refusal_number}
use Rattle.session.specs.declared.Session.{Session as Record}
use Rattle.session.specs.declared.Accepted.{Accepted}
use Rattle.session.specs.declared.Said.{Said as Written}
use Rattle.session.specs.declared.Refusal.{Refusal}
use Rattle.session.specs.declared.Refusal.TheVariants.{ListTooShort, Stopped, OutOfState, TooManyPushes, Inconsistent}

abbrev pub AcceptedSays : Type 0
AcceptedSays = (d : Record) (a : Accepted)
    → ((told_said d (Ok a)).refusal ≡ 0) × ((told_said d (Ok a)).next ≡ a.next) × ((told_said d (Ok a)).events ≡ a.events)

abbrev pub RefusedSays : Type 0
RefusedSays = (d : Record) (why : Refusal)
    → ((told_said d (Err why)).refusal ≡ refusal_number why) × ((told_said d (Err why)).next ≡ d) × ((told_said d (Err why)).events.count ≡ 0)

abbrev pub AcceptedInListSays : Type 0
AcceptedInListSays = (d : Record) (a : Written)
    → ((said_in_list d (Ok a)).refusal ≡ 0) × ((said_in_list d (Ok a)).next ≡ a.next) × ((said_in_list d (Ok a)).count ≡ a.count)

abbrev pub RefusedInListSays : Type 0
RefusedInListSays = (d : Record) (why : Refusal)
    → ((said_in_list d (Err why)).refusal ≡ refusal_number why) × ((said_in_list d (Err why)).next ≡ d) × ((said_in_list d (Err why)).count ≡ 0)

abbrev pub RefusalsByName : Type 0
RefusalsByName =
    (refusal_number ListTooShort ≡ 3) × (refusal_number Stopped ≡ 5) × (refusal_number OutOfState ≡ 6) × (refusal_number TooManyPushes ≡ 7)
    × (refusal_number Inconsistent ≡ 27)
