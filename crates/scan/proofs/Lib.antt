-- `Said` is for the proofs of every function that reads a name or a character. `OneAnswer` has the theorems that no contract has a second answer, and
-- `OneAnswerOfATest` those of the functions that are handed a test.
pub mod OneAnswer
pub mod OneAnswerOfATest
pub mod Said
