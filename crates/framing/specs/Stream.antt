-- The items of a whole stream, said with no matching from byte to byte, and the calls that a caller makes over the pieces of one.
-- Assumes nothing.
use Rattle.std.specs.Prelude.{ℕ, zero, suc, ◌+◌, ◌-◌, ◌≤◌, ◌<◌, min, ◌≡◌, cond, List, [], ◌∷◌, ◌++◌, length, take, drop, leb, eqb}
use Rattle.laws.specs.Bytes.{Ends}
use Rattle.framing.specs.declared.Item.{Item}
use Rattle.framing.specs.declared.Item.TheVariants.{NotYet, Empty, Message, TooLong}
use Rattle.framing.specs.Cutting.{Answer, item_end, answer_of, store_after}

-- THE STREAM

-- pieces, or parts, one behind the other
abbrev pub joined : List (List ℕ) → List ℕ
joined [] = []
joined (q ∷ qs) = q ++ joined qs

-- b occurs nowhere in w
abbrev pub Free : List ℕ → List ℕ → Type 0
Free b w = (x y : List ℕ) → w ≡ x ++ (b ++ y) → ⊥

-- b occurs in q at its end, and nowhere before
pub record Part (b q : List ℕ) : Type 0 where
  pub closed : Ends b q
  pub first : (x y : List ℕ) → q ≡ x ++ (b ++ y) → y ≡ []

abbrev pub EachPart : List ℕ → List (List ℕ) → Type 0
EachPart b [] = Unit
EachPart b (q ∷ qs) = Part b q × EachPart b qs

-- The stream cut at the leftmost, non-overlapping occurrences of b: parts in which b first occurs at the end, and what is left waiting.
pub record CutAt (b stream : List ℕ) (parts : List (List ℕ)) (waiting : List ℕ) : Type 0 where
  pub whole : stream ≡ joined parts ++ waiting
  pub each : EachPart b parts
  pub left : Free b waiting

-- That cut, computed from left to right with at most `fuel` parts: the parts, and the bytes waiting. (proofs/Found)
unfoldable pub parts_of : ℕ → List ℕ → List ℕ → List (List ℕ)
parts_of zero b w = []
parts_of (suc fuel) b w =
    cond (leb (item_end b w) (length w)) (take (item_end b w) w ∷ parts_of fuel b (drop (item_end b w) w)) []

unfoldable pub waiting_of : ℕ → List ℕ → List ℕ → List ℕ
waiting_of zero b w = w
waiting_of (suc fuel) b w = cond (leb (item_end b w) (length w)) (waiting_of fuel b (drop (item_end b w) w)) w

-- an item with its bytes
pub data StreamItem : Type 0 where
  empty : StreamItem
  message : List ℕ → StreamItem
  too_long : StreamItem

-- the item that a part is, its boundary taken off
unfoldable pub item_of_part : ℕ → List ℕ → List ℕ → StreamItem
item_of_part limit b q =
    cond (eqb (length q) (length b))
    empty
    (cond (leb (length q - length b) limit) (message (take (length q - length b) q)) too_long)

abbrev pub items_of_parts : ℕ → List ℕ → List (List ℕ) → List StreamItem
items_of_parts limit b [] = []
items_of_parts limit b (q ∷ qs) = item_of_part limit b q ∷ items_of_parts limit b qs

-- THE CALLS

-- what the caller holds between calls: the lent store, and the two numbers
pub record Held : Type 0 where
  pub store : List ℕ
  pub gathered : ℕ
  pub matched : ℕ

abbrev pub fresh : List ℕ → Held
fresh s = record { store = s; gathered = 0; matched = 0 }

-- the answer to a piece, and what is held after it
unfoldable pub answer_to : ℕ → List ℕ → Held → List ℕ → Answer
answer_to limit b h p = answer_of limit b h.store p h.gathered h.matched

unfoldable pub held_after : ℕ → List ℕ → Held → List ℕ → Held
unfolding answer_to
held_after limit b h p =
    record {
      store = store_after limit b h.store p h.gathered h.matched;
      gathered = (answer_to limit b h p).gathered;
      matched = (answer_to limit b h p).matched;
    }

-- an item as the caller meets it: a message is the first bytes of the store
pub data Handed : Item → List ℕ → StreamItem → Type 0 where
  an_empty : {s : List ℕ} → Handed Empty s empty
  a_message : {s : List ℕ} {n : ℕ} → Handed (Message n) s (message (take n s))
  one_too_long : {s : List ℕ} → Handed TooLong s too_long

-- The calls over a list of pieces, from what is held at first to what is held at last, with the items on the way. A piece that is used up is
-- followed by the next; after an item the rest of the piece goes to the next call.
pub data Calls (limit : ℕ) (b : List ℕ) : Held → List (List ℕ) → List StreamItem → Held → Type 0 where
  over : {h : Held} → Calls limit b h [] [] h
  used : {h last : Held} {p : List ℕ} {ps : List (List ℕ)} {items : List StreamItem}
      → (answer_to limit b h p).refusal ≡ 0
      → (answer_to limit b h p).item ≡ NotYet
      → Calls limit b (held_after limit b h p) ps items last
      → Calls limit b h (p ∷ ps) items last
  cut : {h last : Held} {p : List ℕ} {ps : List (List ℕ)} {i : StreamItem} {items : List StreamItem}
      → (answer_to limit b h p).refusal ≡ 0
      → Handed (answer_to limit b h p).item (held_after limit b h p).store i
      → Calls limit b (held_after limit b h p) (drop (answer_to limit b h p).taken p ∷ ps) items last
      → Calls limit b h (p ∷ ps) (i ∷ items) last

-- What a caller lends so that no call of its is refused: a boundary of 1 to 16 bytes and a store that is long enough; and the limit is one that
-- the count can tell from longer items.
pub record Lent (limit : ℕ) (b s : List ℕ) : Type 0 where
  pub some : 1 ≤ length b
  pub few : length b ≤ 16
  pub roomy : limit + 16 ≤ length s
  pub countable : limit + 16 < 4294967295

-- w's first limit + k bytes, or all if fewer, stand at the start of the store
abbrev pub Begins : ℕ → List ℕ → List ℕ → List ℕ → Type 0
Begins limit b w s = take (length (take (limit + length b) w)) s ≡ take (limit + length b) w

-- What is held is right for the gathered bytes w, in which no item is complete: their count, which stops growing at 4,294,967,295, the length of
-- the longest tail of w that begins the boundary, and the store.
pub record Right (limit : ℕ) (b w : List ℕ) (h : Held) : Type 0 where
  pub lent : Lent limit b h.store
  pub free : Free b w
  pub count : h.gathered ≡ min (length w) 4294967295
  pub tail : Ends (take h.matched b) w
  pub longest : (j : ℕ) → j ≤ length b → Ends (take j b) w → j ≤ h.matched
  pub stored : Begins limit b w h.store
