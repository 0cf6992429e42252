-- `Class` gives each byte its class, `Reading` says what a reading is, and `Names`, `Characters`, `Text` and `Markup` read those. `Elements` says what is read
-- of a message as XML, `Values` what values mean, `Messages` which of the seven it is and what it carries; `Words` has their names and texts and `Limits` the
-- limits. `Readable` has the words in which the promises about these definitions are said, and `Due` when a refusal is due; `Nine`, `Raised`, `Places`,
-- `Earliest`, `Seven`, `Meanings` and `Alphabet` are the promises, each told by its first line. `Examples` and `ExamplesOfMessages` are worked examples, which
-- say which messages are readable and what is read of them.
pub mod Class
pub mod Reading
pub mod Names
pub mod Characters
pub mod Text
pub mod Markup
pub mod Words
pub mod Limits
pub mod Elements
pub mod Values
pub mod Messages
pub mod Readable
pub mod Due
pub mod Nine
pub mod Raised
pub mod Places
pub mod Earliest
pub mod Seven
pub mod Meanings
pub mod Alphabet
pub mod Examples
pub mod ExamplesOfMessages
