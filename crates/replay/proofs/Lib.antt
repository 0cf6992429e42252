-- `Words` has the laws of a word and the number behind it, `Written` those of the lines of events, and `Turns` those of the program's own
-- functions. `Whole` has the theorem on a whole script, `ConductWords`, `FigureWords`, `Settings`, `Refused`, `Behind` and `AtWork` those on
-- its settings; `Settle` says what these do, and `Ready` when they end.
mod Words
mod Written
mod Turns
pub mod Whole
pub mod ConductWords
pub mod FigureWords
mod Ready
mod Settle
pub mod Refused
pub mod Settings
pub mod Alone
pub mod Behind
pub mod AtWork
