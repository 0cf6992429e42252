-- `Cutting` says what a call answers, `Refusals` when it is refused and that it changes nothing then, `Stream` what the items of a whole stream
-- are, and `Promises` what else is shown of all of that. `Standing` is for contracts of private functions alone.
pub mod Cutting
pub mod Refusals
pub mod Stream
pub mod Promises
pub mod Standing
