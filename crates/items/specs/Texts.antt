-- Document 01, "The listing": the words that the lines are made of. Assumes nothing.
use Rattle.std.specs.Prelude.{ℕ, List}
use Rattle.message.specs.Words.{codes}

abbrev pub header_words : List ℕ
header_words = codes "item bytes kind refusal place"

abbrev pub stop_word : List ℕ
stop_word = codes "stop"

abbrev pub end_word : List ℕ
end_word = codes "end"

-- `-`, for what is not there
abbrev pub dash : List ℕ
dash = codes "-"

-- a line has at most so many bytes
abbrev pub most_line : ℕ
most_line = 128
