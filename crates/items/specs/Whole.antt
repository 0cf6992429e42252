-- Promise of the program items: the header, what the turns over the pieces of the stream print, and the last line are the listing of the input.
-- Where a read fails, that is so of the input up to there, and the program leaves the last line out. (proofs/Whole, FirstEnd, Sample) Assumes nothing.
use Rattle.std.specs.Prelude.{◌≡◌, true, false, List, ◌++◌, ℕ, suc, ◌≤◌, length, take, drop}
use Rattle.message.specs.Words.{codes}
use Rattle.framing.specs.Cutting.{link_limit}
use Rattle.framing.specs.Stream.{joined, StreamItem, Held, fresh, Calls}
use Rattle.texts.specs.Fields.{line_end, field}
use Rattle.items.specs.Lines.{header_line, stop_line, end_line}
use Rattle.items.specs.Listing.{boundary_end, refused_end, listing}
use Rattle.items.specs.Turns.{printed}

-- whatever pieces the stream comes in, and whatever the store of 65,536 bytes or more held at first (Whole)
abbrev pub TurnsList : Type 0
TurnsList =
    (input : List ℕ) → refused_end (boundary_end input) ≡ false
    → (s : List ℕ) → 65536 ≤ length s
    → (pieces : List (List ℕ)) → joined pieces ≡ drop (suc (boundary_end input)) input
    → (items : List StreamItem) (last : Held) (calls : Calls link_limit (take (boundary_end input) input) (fresh s) pieces items last)
    → header_line ++ (printed calls 1 ++ end_line last.gathered) ≡ listing input

-- where the boundary is refused, the header and the line `stop 1` are the listing (Whole)
abbrev pub Stops : Type 0
Stops = (input : List ℕ) → refused_end (boundary_end input) ≡ true → header_line ++ stop_line ≡ listing input

-- the first 17 bytes, which are read before all else, decide where the boundary ends (FirstEnd)
abbrev pub EndOfStart : Type 0
EndOfStart = (input : List ℕ) → boundary_end (take 17 input) ≡ boundary_end input

-- the sample of document 01, "The listing" (Sample)
abbrev pub sample : List ℕ
sample = field (codes "##") line_end ++ codes "<Ok inResponseTo=\"7\"/>####<Ok>##abc"

abbrev pub sample_lines : List ℕ
sample_lines =
    field (codes "item bytes kind refusal place") line_end
    ++ (field (codes "1 22 Ok 0 0") line_end ++ (field (codes "2 4 - 9 4") line_end ++ field (codes "end 3") line_end))

abbrev pub SampleListed : Type 0
SampleListed = listing sample ≡ sample_lines
