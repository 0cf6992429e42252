-- Document 01, "The listing": the lines. Assumes nothing.
use Rattle.std.specs.Prelude.{ℕ, ◌+◌, List, [], ◌++◌, length, take, Option, None, Some}
use Rattle.message.specs.Class.{class_of}
use Rattle.message.specs.Reading.{Reading}
use Rattle.message.specs.Reading.Reading.{whole, refused}
use Rattle.message.specs.Limits.{link_limits}
use Rattle.message.specs.Messages.{message_of}
use Rattle.message.specs.declared.Message.{Message}
use Rattle.framing.specs.declared.Item.{Item}
use Rattle.framing.specs.declared.Item.TheVariants.{NotYet, Empty, Message as Whole, TooLong}
use Rattle.texts.specs.Fields.{space, line_end, field, decimal}
use Rattle.message.specs.Words.{kind_name}
use Rattle.items.specs.Texts.{header_words, stop_word, end_word, dash}

abbrev pub header_line : List ℕ
header_line = field header_words line_end

-- a refused boundary stops the listing, with the number of the refusal
unfoldable pub stop_line : List ℕ
stop_line = field stop_word space ++ field (decimal 1) line_end

-- the last line counts the bytes waiting
unfoldable pub end_line : ℕ → List ℕ
end_line waiting = field end_word space ++ field (decimal waiting) line_end

-- the bytes of an item where they are counted, and a dash where they are not
abbrev pub counted : Option ℕ → List ℕ
counted None = dash
counted (Some bytes) = decimal bytes

-- the line of an item: its number among the lines, its bytes, kind, refusal and place
unfoldable pub item_line : ℕ → List ℕ → List ℕ → ℕ → ℕ → List ℕ
item_line number bytes kind refusal place =
    field (decimal number) space
    ++ (field bytes space ++ (field kind space ++ (field (decimal refusal) space ++ field (decimal place) line_end)))

-- a message of so many bytes, by what the reader answers: the refusal and its place, 0 and 0 where it is read
abbrev pub answer_line : ℕ → ℕ → Reading Message → List ℕ
answer_line number bytes (whole m) = item_line number (decimal bytes) (kind_name m.kind) 0 0
answer_line number bytes (refused refusal place) = item_line number (decimal bytes) dash refusal place

unfoldable pub message_line : ℕ → List ℕ → List ℕ
message_line number w = answer_line number (length w) (message_of class_of link_limits w)

-- an item that is too long, refusal 8
unfoldable pub too_long_line : ℕ → List ℕ
too_long_line number = item_line number (counted None) dash 8 0

-- What one call of the framing gives to print, the next line's number being `number`: nothing unless it completed an item that isn't empty. The
-- bytes of a message are the first of the store.
unfoldable pub line_after : ℕ → Item → List ℕ → List ℕ
line_after number NotYet store = []
line_after number Empty store = []
line_after number (Whole n) store = message_line number (take n store)
line_after number TooLong store = too_long_line number

-- the number of the line after that
abbrev pub number_after : ℕ → Item → ℕ
number_after number NotYet = number
number_after number Empty = number
number_after number (Whole n) = number + 1
number_after number TooLong = number + 1
