-- Document 01, "The listing": what the program prints for a whole input. Assumes nothing.
use Rattle.std.specs.Prelude.{ℕ, suc, ◌+◌, min, Bool, cond, ◌||◌, List, [], ◌∷◌, ◌++◌, length, take, drop, get_or, ltb, eqb}
use Rattle.laws.specs.Search.{least}
use Rattle.framing.specs.Cutting.{link_limit, most_boundary, most_count}
use Rattle.framing.specs.Stream.{StreamItem, empty, message, too_long, items_of_parts, parts_of, waiting_of}
use Rattle.texts.specs.Fields.{line_end}
use Rattle.items.specs.Lines.{header_line, stop_line, end_line, message_line, too_long_line}

-- where the boundary ends: the place of the first LF among the first 17 bytes, and 17 where there is none
unfoldable pub boundary_end : List ℕ → ℕ
boundary_end input = least (λ i. eqb (get_or input i 0) line_end) 17

-- a boundary that is not 1 to 16 bytes is refused; so is the input where no LF stands in its first 17 bytes
abbrev pub refused_end : ℕ → Bool
refused_end end = ltb end 1 || ltb most_boundary end

-- the lines of items, from a number on: an empty item has no line and takes no number
abbrev pub item_lines : ℕ → List StreamItem → List ℕ
item_lines number [] = []
item_lines number (empty ∷ items) = item_lines number items
item_lines number (message w ∷ items) = message_line number w ++ item_lines (number + 1) items
item_lines number (too_long ∷ items) = too_long_line number ++ item_lines (number + 1) items

-- the lines of a stream that is cut so, and the last line
unfoldable pub cut_lines : List ℕ → List (List ℕ) → List ℕ → List ℕ
cut_lines b parts waiting = item_lines 1 (items_of_parts link_limit b parts) ++ end_line (min (length waiting) most_count)

-- the lines of a stream
unfoldable pub stream_lines : List ℕ → List ℕ → List ℕ
stream_lines b stream = cut_lines b (parts_of (length stream) b stream) (waiting_of (length stream) b stream)

-- the listing of an input: the header, and then the lines of the stream behind the LF
unfoldable pub listing : List ℕ → List ℕ
listing input =
    header_line
    ++ cond (refused_end (boundary_end input)) stop_line (stream_lines (take (boundary_end input) input) (drop (suc (boundary_end input)) input))
