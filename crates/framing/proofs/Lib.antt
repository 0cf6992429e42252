-- `Matcher` and `Borders` carry the code's matching, `Stands` and `Pieces` its looking for the boundary whole, and `Call` the cases of one call; `GoesOn`, `Stored` and `Handed` say what the held match, the store
-- and an item mean for the bytes gathered. The theorems of specs/Refusals stand in `Refusals` and `Unchanged`, those of specs/Promises in `Cuts`, `Found`, `Link`,
-- `Numbers`, `Places`, `OwnNumbers`, `OneCall` and `Stream`; `OneAnswer` says that a contract has one answer, and `Bounds` has two laws for callers.
mod Matcher
mod Stands
mod Borders
mod Call
mod GoesOn
mod Pieces
mod Stored
mod Handed
pub mod Refusals
pub mod Unchanged
pub mod Cuts
pub mod Found
pub mod Link
pub mod Numbers
pub mod Places
pub mod OwnNumbers
pub mod OneCall
pub mod Stream
pub mod OneAnswer
pub mod Bounds
