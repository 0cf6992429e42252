-- `Pieces` says what the code's one loop over a value reads.
pub mod Pieces
