-- What Results say (specs/Results), which antt computes. Assumes nothing.
use mathlib.Core.Path.{refl}
use Rattle.session.specs.Rows.{events_of}
use Rattle.session.specs.Results.{AcceptedSays, RefusedSays, AcceptedInListSays, RefusedInListSays, RefusalsByName}

pub accepted_says : AcceptedSays
accepted_says d a = (refl, refl, refl)

pub refused_says : RefusedSays
unfolding events_of
refused_says d why = (refl, refl, refl)

pub accepted_in_list_says : AcceptedInListSays
accepted_in_list_says d a = (refl, refl, refl)

pub refused_in_list_says : RefusedInListSays
refused_in_list_says d why = (refl, refl, refl)

pub refusals_by_name : RefusalsByName
refusals_by_name = (refl, refl, refl, refl, refl)
