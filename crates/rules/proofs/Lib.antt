-- `Free` has the law of the search for a free number, `OneAnswer` the theorems that no contract has a second answer.
pub mod Free
pub mod OneAnswer
