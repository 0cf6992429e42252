-- `Rows` says how pushes and events lie in a table, `Record` how a session lies in the record, with the test behind 27, and `Answers` what each call of a
-- record answers. `Written` is what the code has while it writes. `Heard` promises what the bytes of a message are to a push,
-- `Code` what the code's answers are over any calls, `Conducts` what they owe to the conduct, `Swapped` what they are to two messages at once, `Results` what the code's Results say.
pub mod Rows
pub mod Record
pub mod Written
pub mod Answers
pub mod Heard
pub mod Code
pub mod Conducts
pub mod Swapped
pub mod Results
