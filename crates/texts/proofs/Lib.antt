-- `Fields` has the laws of what is written that callers use, `Decimals` those of a number that is written, `Beginnings` those of a text that
-- begins with a word, and `Numbers` those of a text that is read as a number. `OneAnswer` has the theorems that no contract has a second
-- answer.
pub mod Fields
mod Decimals
mod Beginnings
mod Numbers
pub mod OneAnswer
