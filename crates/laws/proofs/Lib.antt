-- `Tests` has laws of Bool tests, `Search` those of the first and the last number that pass one, `Tails` those of tails of runs of bytes, `Same`
-- those of bytes that are the same at two places, `Copies` that of a loop that copies, and `OneAnswer` the laws that an answer that is, or says, what
-- a definition gives is the only one.
pub mod Tests
pub mod Search
pub mod Tails
pub mod Same
pub mod Copies
pub mod OneAnswer
