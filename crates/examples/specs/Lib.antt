-- `Twelve` is the table and its statement.
pub mod Twelve
