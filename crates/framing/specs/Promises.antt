-- What the definitions promise, over every limit: the theorems, each with the file of proofs/ that shows it. (Those on refused calls stand in
-- `Refusals`.) Assumes nothing.
use Rattle.std.specs.Prelude.{ℕ, ◌+◌, ◌-◌, ◌≤◌, ◌<◌, ◌≡◌, List, [], ◌∷◌, ◌++◌, length, take, drop, get_or}
use Rattle.framing.specs.declared.Item.TheVariants.{NotYet, Empty, Message, TooLong}
use Rattle.framing.specs.Cutting.{link_limit, item_number, item_length, refusal_of, answer_of, store_after}
use Rattle.framing.specs.Stream.{joined, Part, CutAt, parts_of, waiting_of, StreamItem, empty, message, too_long, item_of_part, items_of_parts, Held, fresh, answer_to, held_after, Handed, Calls, Lent, Begins, Right}

-- A STREAM is cut in one way only. (Cuts)
abbrev pub CutOnce : Type 0
CutOnce =
    (b stream : List ℕ) (parts parts' : List (List ℕ)) (waiting waiting' : List ℕ)
    → CutAt b stream parts waiting → CutAt b stream parts' waiting' → (parts ≡ parts') × (waiting ≡ waiting')

-- The first part ends at the leftmost occurrence of the boundary in the stream, and what follows it is cut likewise. (Cuts)
abbrev pub Leftmost : Type 0
Leftmost =
    (b stream q : List ℕ) (qs : List (List ℕ)) (waiting : List ℕ) → CutAt b stream (q ∷ qs) waiting
    → ((x y : List ℕ) → stream ≡ x ++ (b ++ y) → length q ≤ length x + length b) × CutAt b (joined qs ++ waiting) qs waiting

-- That cut is found from left to right: there are no more parts than bytes. (Found)
abbrev pub CutFound : Type 0
CutFound =
    (fuel : ℕ) (b stream : List ℕ) → 1 ≤ length b → length stream ≤ fuel → CutAt b stream (parts_of fuel b stream) (waiting_of fuel b stream)

-- THE LINK. At its limit a store of 65,536 bytes is lent rightly, and the bytes x before a boundary are empty, a message of 1 to 65,520 bytes, or
-- too long. (Link)
abbrev pub LinkLent : Type 0
LinkLent = (b s : List ℕ) → 1 ≤ length b → length b ≤ 16 → 65536 ≤ length s → Lent link_limit b s

pub record LinkItem (b x : List ℕ) : Type 0 where
  pub none : length x ≡ 0 → item_of_part link_limit b (x ++ b) ≡ empty
  pub few : 1 ≤ length x → length x ≤ 65520 → item_of_part link_limit b (x ++ b) ≡ message x
  pub many : 65520 < length x → item_of_part link_limit b (x ++ b) ≡ too_long

abbrev pub LinkItems : Type 0
LinkItems = (b x : List ℕ) → LinkItem b x

-- The numbers that C sees of items: 0 where none is complete, 1, 2 and 8, and the length of a message. (Numbers)
abbrev pub ItemNumbers : Type 0
ItemNumbers =
    (item_number NotYet ≡ 0) × (item_number Empty ≡ 1) × ((n : ℕ) → item_number (Message n) ≡ 2) × (item_number TooLong ≡ 8)
    × (item_length NotYet ≡ 0) × (item_length Empty ≡ 0) × ((n : ℕ) → item_length (Message n) ≡ n) × (item_length TooLong ≡ 0)

-- THE CALLS over any list of pieces go on to its end, and none of them is refused. (Stream)
abbrev pub CallsGoOn : Type 0
CallsGoOn =
    (limit : ℕ) (b s : List ℕ) → Lent limit b s
    → (pieces : List (List ℕ)) → (items : List StreamItem) × (last : Held) × Calls limit b (fresh s) pieces items last

-- these items are the stream's, and what is held at last is right for its bytes waiting
pub record Delivers (limit : ℕ) (b stream : List ℕ) (items : List StreamItem) (last : Held) : Type 0 where
  pub parts : List (List ℕ)
  pub waiting : List ℕ
  pub cuts : CutAt b stream parts waiting
  pub gives : items ≡ items_of_parts limit b parts
  pub holds : Right limit b waiting last

-- The calls over the pieces of a stream give exactly the stream's items. (Stream)
abbrev pub ItemsOfTheStream : Type 0
ItemsOfTheStream =
    (limit : ℕ) (b s : List ℕ) → Lent limit b s
    → (pieces : List (List ℕ)) (items : List StreamItem) (last : Held) → Calls limit b (fresh s) pieces items last
    → Delivers limit b (joined pieces) items last

-- what is held of the bytes waiting: the two numbers, and as many bytes of the store as are gathered and kept
pub record SameHeld (limit : ℕ) (b : List ℕ) (h h' : Held) : Type 0 where
  pub gathered : h.gathered ≡ h'.gathered
  pub matched : h.matched ≡ h'.matched
  pub store : (n : ℕ) → n ≤ h.gathered → n ≤ limit + length b → take n h.store ≡ take n h'.store

-- How a stream is cut into pieces changes no item, nor what is held of the bytes waiting. (Stream)
abbrev pub PiecesDoNotMatter : Type 0
PiecesDoNotMatter =
    (limit : ℕ) (b s s' : List ℕ) → Lent limit b s → Lent limit b s'
    → (pieces pieces' : List (List ℕ)) (items items' : List StreamItem) (last last' : Held)
    → Calls limit b (fresh s) pieces items last → Calls limit b (fresh s') pieces' items' last' → joined pieces ≡ joined pieces'
    → (items ≡ items') × SameHeld limit b last last'

-- ONE CALL on the piece p, where w was gathered before it. The bytes gathered after it, an item just completed and its boundary included:
abbrev pub gathered_now : ℕ → List ℕ → List ℕ → Held → List ℕ → List ℕ
gathered_now limit b w h p = w ++ take (answer_to limit b h p).taken p

-- either the piece is used up and what is held is right for all that was gathered, or an item is complete, it is that of the part
-- gathered, and gathering begins anew with both numbers 0
pub data Outcome (limit : ℕ) (b w : List ℕ) (h : Held) (p : List ℕ) : Type 0 where
  waits :
      (answer_to limit b h p).item ≡ NotYet
      → (answer_to limit b h p).taken ≡ length p
      → Right limit b (w ++ p) (held_after limit b h p)
      → Outcome limit b w h p
  completes :
      Part b (gathered_now limit b w h p)
      → Handed (answer_to limit b h p).item (held_after limit b h p).store (item_of_part limit b (gathered_now limit b w h p))
      → (held_after limit b h p).gathered ≡ 0
      → (held_after limit b h p).matched ≡ 0
      → Right limit b [] (held_after limit b h p)
      → Outcome limit b w h p

-- the call is not refused, the store begins with the bytes gathered, and its later places are as they were
pub record CallRight (limit : ℕ) (b w : List ℕ) (h : Held) (p : List ℕ) : Type 0 where
  pub accepted : (answer_to limit b h p).refusal ≡ 0
  pub taken : (answer_to limit b h p).taken ≤ length p
  pub begins : Begins limit b (gathered_now limit b w h p) (held_after limit b h p).store
  pub later :
      drop (length (take (limit + length b) (gathered_now limit b w h p))) (held_after limit b h p).store
      ≡ drop (length (take (limit + length b) (gathered_now limit b w h p))) h.store
  pub outcome : Outcome limit b w h p

-- Every call on what is right goes right. (OneCall)
abbrev pub EveryCallRight : Type 0
EveryCallRight = (limit : ℕ) (b w : List ℕ) (h : Held) (p : List ℕ) → Right limit b w h → CallRight limit b w h p

-- The numbers that a call hands back are never refused by the next. (OwnNumbers)
abbrev pub OwnNumbersAccepted : Type 0
OwnNumbersAccepted =
    (limit : ℕ) (b s p : List ℕ) (g m : ℕ) → refusal_of limit (length b) (length s) g m ≡ 0
    → refusal_of limit (length b) (length s) (answer_of limit b s p g m).gathered (answer_of limit b s p g m).matched ≡ 0

-- ANY TWO CALLS that are not refused, with one boundary, piece and match: whatever their stores hold and however many bytes were gathered before, the same is
-- taken and the same match is held. So a pair is taken as given. (OwnNumbers)
abbrev pub TakenAsGiven : Type 0
TakenAsGiven =
    (limit : ℕ) (b s s' p : List ℕ) (g g' m : ℕ) → refusal_of limit (length b) (length s) g m ≡ 0 → refusal_of limit (length b) (length s') g' m ≡ 0
    → ((answer_of limit b s p g m).taken ≡ (answer_of limit b s' p g' m).taken) × ((answer_of limit b s p g m).matched ≡ (answer_of limit b s' p g' m).matched)

-- ANY CALL that is not refused, whatever numbers it is given: place i of the store holds its byte of the piece where that byte was taken and the
-- place lies below limit + k; every other place is as it was.
pub record PlaceRight (limit : ℕ) (b s p : List ℕ) (g m i : ℕ) : Type 0 where
  pub written : g ≤ i → i < g + (answer_of limit b s p g m).taken → i < limit + length b → get_or (store_after limit b s p g m) i 0 ≡ get_or p (i - g) 0
  pub before : i < g → get_or (store_after limit b s p g m) i 0 ≡ get_or s i 0
  pub behind : g + (answer_of limit b s p g m).taken ≤ i → get_or (store_after limit b s p g m) i 0 ≡ get_or s i 0
  pub beyond : limit + length b ≤ i → get_or (store_after limit b s p g m) i 0 ≡ get_or s i 0

-- The store keeps its length, and every place is right. (Places)
abbrev pub EveryPlaceRight : Type 0
EveryPlaceRight =
    (limit : ℕ) (b s p : List ℕ) (g m : ℕ) → refusal_of limit (length b) (length s) g m ≡ 0
    → (length (store_after limit b s p g m) ≡ length s) × ((i : ℕ) → PlaceRight limit b s p g m i)
