-- Document 01, "The session", in its order: `Codes` names the events, `Numbers` gives a send event its number, `Pushes` says what becomes of an open push, `Session`
-- what a session is and which calls it refuses, `Table` and `Rules` what each call does, `Step` what it answers, `Sound` what every session has that was
-- made or reached from one. `Lists` has the words for lists. `History` is what a host sees over any calls; the promises about it are told by their first lines.
pub mod Lists
pub mod Codes
pub mod Numbers
pub mod Pushes
pub mod Session
pub mod Table
pub mod Rules
pub mod Step
pub mod Sound
pub mod History
pub mod Followed
pub mod Decided
pub mod Reached
pub mod Bounds
pub mod Order
pub mod Timers
pub mod Scripts
pub mod AtWorkStates
pub mod AtWorkPushes
pub mod AtWorkMessages
pub mod AtWorkNumbers
pub mod AtWorkRefusals
pub mod AtWorkResends
pub mod AtWorkSwapped
pub mod Conducts
pub mod Swapped
pub mod Resends
