-- `Written` has the laws on the list, and `Cases` and `ReadCases` the cases of a call for its proof. The theorems of specs/Refusals stand in `GatherRefusals` and
-- `ReadRefusals`, those of specs/Promises in `GatherNumbers`, `ReadNumbers` and `ReadPlaces`, those of specs/Names in `Names`; `OneAnswer` says that the contracts have one answer.
mod Written
mod Cases
mod ReadCases
pub mod GatherRefusals
pub mod GatherNumbers
pub mod ReadRefusals
pub mod ReadNumbers
pub mod ReadPlaces
pub mod Names
pub mod OneAnswer
