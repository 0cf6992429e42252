-- Document 01, "Cutting the stream", with refusals 1, 2 and 26 of "Numbers of refusal": what one call answers, and what it leaves in the store.
-- A byte is a number and a run of bytes a list. Of a call, b is the boundary, s the store, p the piece, g the count of the bytes gathered
-- before it and m the match held from them; k is the boundary's length. `limit` is the most bytes that a message may have.
-- Nothing here goes through a piece step by step: an item ends at the first place of its kind, and the next match is the longest of its kind.
-- Assumes nothing.
use Rattle.std.specs.Prelude.{ℕ, suc, ◌+◌, ◌-◌, min, cond, ◌||◌, None, Some, Result, Ok, Err, ⊤, List, ◌++◌, length, take, ltb, leb, eqb}
use Rattle.std.proofs.Math.Seq.{paste}
use Rattle.laws.specs.Search.{least, greatest}
use Rattle.laws.specs.Bytes.{ends_with}
use Rattle.framing.specs.declared.Cut.{Cut}
use Rattle.framing.specs.declared.Held.{Held}
use Rattle.framing.specs.declared.Taken.{Taken}
use Rattle.framing.specs.declared.Refusal.{Refusal}
use Rattle.framing.specs.declared.Refusal.TheVariants.{BoundaryLength, StoreTooShort, HeldNumbers}
use Rattle.framing.specs.declared.Item.{Item}
use Rattle.framing.specs.declared.Item.TheVariants.{NotYet, Empty, Message, TooLong}

-- the link's limit, the longest boundary, and the largest count
abbrev pub link_limit : ℕ
link_limit = 65520

abbrev pub most_boundary : ℕ
most_boundary = 16

abbrev pub most_count : ℕ
most_count = 4294967295

-- The refusal of a boundary of k bytes, a store of n places and the held numbers g and m: the first that applies, and 0 where none does.
-- A store has room for the longest message and the longest boundary behind it.
unfoldable pub refusal_of : ℕ → ℕ → ℕ → ℕ → ℕ → ℕ
refusal_of limit k n g m =
    cond (ltb k 1 || ltb most_boundary k) 1 (cond (ltb n (limit + most_boundary)) 2 (cond (leb k m || ltb g m) 26 0))

-- where the first item of w ends: the least e for which b is a tail of the first e bytes of w, and one more than w's length where there is none
unfoldable pub item_end : List ℕ → List ℕ → ℕ
item_end b w = least (λ e. ends_with b (take e w)) (suc (length w))

-- the length of the longest tail of w that begins b, among those shorter than n
unfoldable pub longest_match : ℕ → List ℕ → List ℕ → ℕ
longest_match n b w = greatest (λ j. ends_with (take j b) w) n

-- How the piece p is cut where w is matched over: the bytes before p, of which there are n, and then p. Nothing is matched after an item.
unfoldable pub cut_over : List ℕ → List ℕ → ℕ → List ℕ → Cut
cut_over b p n w =
    cond (leb (item_end b w) (length w))
    (record { taken = item_end b w - n; matched = None })
    (record { taken = length p; matched = Some (longest_match (length b) b w) })

-- Matching goes on from m: the bytes before p count as the first m of the boundary, whatever the store holds.
unfoldable pub cut_of : List ℕ → List ℕ → ℕ → Cut
unfolding cut_over
cut_of b p m = cut_over b p m (take m b ++ p)

-- the count after t more bytes stops growing at its largest
abbrev pub count_after : ℕ → ℕ → ℕ
count_after g t = min (g + t) most_count

-- the item of n gathered bytes, of which the last k are the boundary
unfoldable pub item_of : ℕ → ℕ → ℕ → Item
item_of limit k n = cond (eqb n k) Empty (cond (leb (n - k) limit) (Message (n - k)) TooLong)

-- the numbers of the items, of which 8 is the refusal of document 01 and the others are those of INTERFACES, and the length of a message
abbrev pub item_number : Item → ℕ
item_number NotYet = 0
item_number Empty = 1
item_number (Message n) = 2
item_number TooLong = 8

abbrev pub item_length : Item → ℕ
item_length NotYet = 0
item_length Empty = 0
item_length (Message n) = n
item_length TooLong = 0

-- What a call answers: 0, or the number of its refusal, how many bytes of the piece were taken, what they completed, and the two numbers to hold.
pub record Answer : Type 0 where
  pub refusal : ℕ
  pub taken : ℕ
  pub item : Item
  pub gathered : ℕ
  pub matched : ℕ

-- A refused call takes no byte and hands back the numbers that it was given.
abbrev pub refused_with : ℕ → ℕ → ℕ → Answer
refused_with number g m = record { refusal = number; taken = 0; item = NotYet; gathered = g; matched = m }

-- The answer to a cut. Both held numbers are 0 after an item.
unfoldable pub answered : ℕ → ℕ → ℕ → Cut → Answer
answered limit k g c =
    elim c.matched [
      | None ↦ record { refusal = 0; taken = c.taken; item = item_of limit k (count_after g c.taken); gathered = 0; matched = 0 }
      | Some m ↦ record { refusal = 0; taken = c.taken; item = NotYet; gathered = count_after g c.taken; matched = m }
    ]

-- what a call answers
unfoldable pub answer_of : ℕ → List ℕ → List ℕ → List ℕ → ℕ → ℕ → Answer
answer_of limit b s p g m =
    cond (eqb (refusal_of limit (length b) (length s) g m) 0)
    (answered limit (length b) g (cut_of b p m))
    (refused_with (refusal_of limit (length b) (length s) g m) g m)

-- how many of t bytes taken at the count g are stored: as many as lie below limit + k
abbrev pub kept : ℕ → ℕ → ℕ → ℕ → ℕ
kept limit k g t = min t (limit + k - g)

-- What a call leaves in the store: the bytes taken stand at the places from g on, as far as they are kept; every other place is as it was.
-- (`paste s g p n` is s with its places from g on overwritten by the first n bytes of p.)
unfoldable pub store_after : ℕ → List ℕ → List ℕ → List ℕ → ℕ → ℕ → List ℕ
store_after limit b s p g m =
    cond (eqb (refusal_of limit (length b) (length s) g m) 0)
    (paste s g p (kept limit (length b) g (cut_of b p m).taken))
    s

-- WHAT THE CODE SAYS

-- document 01's number of a refusal, and 0 where there is none
abbrev pub refusal_number : Refusal → ℕ
refusal_number BoundaryLength = 1
refusal_number StoreTooShort = 2
refusal_number HeldNumbers = 26

abbrev pub refusal_said : Result ⊤ Refusal → ℕ
refusal_said (Ok _) = 0
refusal_said (Err r) = refusal_number r

-- the answer that a call's result is, where the numbers held were h
abbrev pub taken_said : Taken → Answer
taken_said t = record { refusal = 0; taken = t.taken; item = t.item; gathered = t.held.gathered; matched = t.held.matched }

abbrev pub said : Held → Result Taken Refusal → Answer
said h (Ok t) = taken_said t
said h (Err r) = refused_with (refusal_number r) h.gathered h.matched
