-- `Fields` has the fields of a line, and a line that they are written to.
pub mod Fields
