-- Promise 3, a limit's refusal stands where the paper puts it: what is before the place of a 10, 11, 12 or 14 can be continued, and what stands there is what
-- is refused. (proofs/Earliest) Assumes nothing.
use Rattle.std.specs.Prelude.{ℕ, ◌≡◌, List, take}
use Rattle.message.specs.Class.{class_of}
use Rattle.message.specs.Reading.Reading.{refused}
use Rattle.message.specs.Limits.{link_limits}
use Rattle.message.specs.Messages.{message_of}
use Rattle.message.specs.Readable.{Continues}
use Rattle.message.specs.Due.{Due}

abbrev PlaceOf : ℕ → Type 0
PlaceOf n = (s : List ℕ) (p : ℕ) → message_of class_of link_limits s ≡ refused n p → Continues (take p s) × Due s n p

-- the `<` of an element at level 33
abbrev pub PlaceOfTen : Type 0
PlaceOfTen = PlaceOf 10

-- the first byte of a 17th attribute
abbrev pub PlaceOfEleven : Type 0
PlaceOfEleven = PlaceOf 11

-- the `<` of a whole opening
abbrev pub PlaceOfTwelve : Type 0
PlaceOfTwelve = PlaceOf 12

-- the first byte of a part of more than 64
abbrev pub PlaceOfFourteen : Type 0
PlaceOfFourteen = PlaceOf 14
