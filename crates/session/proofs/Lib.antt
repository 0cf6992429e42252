-- The laws about the record of a session: `Rows` has those of its tables and of a store in them, `NumberLaws` that of the numbers that are held, `Partings` and
-- `Sweeping` those of the room for what a call writes, `Records` those of the record.
-- `Histories`, `Making`, `Following`, `Heard`, `Conducts`, `Swapped`, `Twice` and `Results` show promises. `Passing` has the laws of events that go to a lent list,
-- `OneAnswer` the theorems that no contract has a second answer.
pub mod Rows
pub mod NumberLaws
pub mod Partings
pub mod Sweeping
pub mod Records
pub mod Histories
pub mod Making
pub mod Following
pub mod Heard
pub mod Conducts
pub mod Swapped
pub mod Twice
pub mod Results
pub mod Passing
pub mod OneAnswer
