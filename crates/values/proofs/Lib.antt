-- `Letters` is for the meanings, letter by letter, and `Pieces` for what is read piece by piece. `OneAnswer` has the theorems that no contract has a
-- second answer.
mod Letters
mod Pieces
pub mod OneAnswer
