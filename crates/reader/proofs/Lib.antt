-- `Seven` is for the messages. `OneAnswer` has the theorems that no contract has a second answer.
pub mod OneAnswer
mod Seven
