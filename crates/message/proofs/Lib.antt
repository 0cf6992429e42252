-- Base laws. `Laws` and `Digits` are about single readings, `Bytes` about single bytes, `Legal` about characters, `Runs` about bytes that are known and runs of them, `Parts`
-- about parts of the message, and `ClassTable` computes the table of classes. `Progress`, `MarkupLoop` and `Trees` show that what is read whole ends
-- past where it began, `Loops` what a loop over a reader keeps, and `Facts` that each element is what is read again at its place. `Words` is about
-- words that were read, `Shapes` about names. `ByForm` and `Numbers` tell the numbers of refusal, of the readers that take no limits and of those that
-- do, and `Kept` what raised limits change. `Letters` is about texts, with `Breaks` about their line ends, and `Decimals` about numbers in them. `Within` tells the elements of a message,
-- `Carried` what their start tags carry, `Shown` what is shown of values, `Unquoted` what values hold, `Repeated` that end tags repeat names, and `ByKind` that behind the document only
-- 13 is left.
-- The machine. `Automaton` is a machine that goes through a message byte by byte, `Dues` what is due in its states, and `Ways` how it comes to a place.
-- `Endings` brings each of its states to an end, `Openings` shows that nothing does so behind an opening of 12, `Past` that it never comes back to its
-- start, `Sound` what holds in every state, and `Inverse` what a comment and end tags behind it say of a state.
-- The machine and the readers. `Going` and `Acting` say what it is that the machine does what a reader does, and `GoingNames`, `GoingCharacters`,
-- `GoingText`, `GoingQuotes`, `GoingAttributes`, `GoingMarkup`, `GoingDeclaration`, `GoingStarts`, `GoingEndTags` and `GoingElements` show it of each
-- reader up to whole messages. So `Accepted` tells readable messages, and bytes that can be continued, by the machine. `Alive` shows that it went
-- through all that is before it, and `TagInverse` and `PartInverse` lead back from what specs/Readable says by readers to its state. `Spelling` says the
-- openings of 12 in both ways, `Causes` that what stops the machine is due, and `Blocked` that it does not go past what is due.
-- The promises. `Nine` proves specs/Nine, `Raising` specs/Raised, `Earliest` specs/Places and specs/Earliest, `Seven`, `Delimited`, `Children` and `NamesStand`
-- specs/Seven, `Meanings`, `References`, `ReferencesRead` and `BeyondAscii` specs/Meanings, and `Alphabet`, `Utf8Ranges` and `Utf8`
-- specs/Alphabet. The files `…AtWork` and `NumbersForC` compute the examples of specs/Examples and specs/ExamplesOfMessages.
pub mod Laws
pub mod Said
pub mod Digits
pub mod Bytes
pub mod Legal
pub mod Runs
pub mod Parts
pub mod ClassTable
pub mod Progress
pub mod MarkupLoop
pub mod Trees
pub mod Loops
pub mod Facts
pub mod Words
pub mod Shapes
pub mod ByForm
pub mod Numbers
pub mod Kept
pub mod Breaks
pub mod Letters
pub mod Decimals
pub mod Within
pub mod Carried
pub mod Shown
pub mod Unquoted
pub mod Repeated
pub mod ByKind
pub mod Automaton
pub mod Dues
pub mod Ways
pub mod Endings
pub mod Openings
pub mod Past
pub mod Sound
pub mod Inverse
pub mod Going
pub mod Acting
pub mod GoingNames
pub mod GoingCharacters
pub mod GoingText
pub mod GoingQuotes
pub mod GoingAttributes
pub mod GoingMarkup
pub mod GoingDeclaration
pub mod GoingStarts
pub mod GoingEndTags
pub mod GoingElements
pub mod Accepted
pub mod Alive
pub mod TagInverse
pub mod PartInverse
pub mod Spelling
pub mod Causes
pub mod Blocked
pub mod Nine
pub mod Raising
pub mod Earliest
pub mod Seven
pub mod Delimited
pub mod Children
pub mod NamesStand
pub mod Meanings
pub mod References
pub mod ReferencesRead
pub mod BeyondAscii
pub mod Alphabet
pub mod Utf8Ranges
pub mod Utf8
pub mod DeclarationsAtWork
pub mod MarkupAtWork
pub mod TagsAtWork
pub mod CharactersAtWork
pub mod LimitsAtWork
pub mod MessagesAtWork
pub mod NumbersForC
pub mod OneAnswer
