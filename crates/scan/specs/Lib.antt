-- What the code's enums mean.
pub mod Answers
