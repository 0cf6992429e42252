-- `FirstEnd` has the first LF of the input, `Calls` one call of the framing, `Whole` the theorems on a whole input, and `Sample` the sample
-- of document 01.
mod FirstEnd
mod Calls
pub mod Whole
pub mod Sample
