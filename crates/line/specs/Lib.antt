-- `Lists` says what becomes of the list that C lends, `Gather` what `ali_gather` returns and leaves, and `Read` what `ali_read` returns and leaves;
-- `Refusals` says when they are refused and that they write nothing then, `Promises` what else is shown of them, and `Names` what the Results of framing and reader say.
pub mod Lists
pub mod Gather
pub mod Read
pub mod Refusals
pub mod Promises
pub mod Names
