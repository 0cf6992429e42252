-- `Compared` is for parts of the message, `HeldNames` and `AttributeLaws` for attributes, `Repeats` and `EndTags` for end tags, `FreeLoop` and
-- `ContentLoop` for the loops of those names, `FirstLooks` for what most often stands at a place, `Root` for what stands around the root. `OneAnswer` has the
-- theorems that no contract has a second answer.
mod Compared
mod HeldNames
pub mod AttributeLaws
pub mod ContentLoop
mod EndTags
mod FirstLooks
mod FreeLoop
pub mod OneAnswer
mod Repeats
mod Root
