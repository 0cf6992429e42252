-- `Seen` says what is held on to of an element, and `Held` what the code's own ways rest on, and what its answers say in the terms of the definitions.
pub mod Seen
pub mod Held
