-- `Roots` says what the code reads again, and what it says of a kind and of a value.
pub mod Roots
