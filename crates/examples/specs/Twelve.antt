-- Promise: the twelve examples of document 01 ("The strength asked of the statements"): one table, one statement. (proofs/Twelve)
-- Assumes nothing.
use Rattle.std.specs.Prelude.{◌≡◌, true, List, [], ◌∷◌, ◌++◌, map, ℕ, ◌+◌, ◌-◌, length, take, drop, replicate, Option, None, Some}
use Rattle.framing.specs.Cutting.{link_limit}
use Rattle.framing.specs.Stream.{joined, Part, StreamItem, empty, message as item_of, too_long, Held, fresh as nothingHeld, Calls, Lent, Right}
use Rattle.message.specs.Words.{codes}
use Rattle.message.specs.Class.{class_of}
use Rattle.message.specs.Limits.{link_limits}
use Rattle.message.specs.Reading.{Reading}
use Rattle.message.specs.Reading.Reading.{whole, refused}
use Rattle.message.specs.Messages.{kind_number, message, message_of, no_status, no_number, no_type}
use Rattle.message.specs.declared.Kind.TheVariants.{Ok}
use Rattle.message.specs.declared.Message.{Message}
use Rattle.conduct.specs.Lists.{flat, those}
use Rattle.conduct.specs.Session.{Session, usual, fresh}
use Rattle.conduct.specs.History.{Entry, history, session_after, ticks, about}
use Rattle.conduct.specs.Scripts.{Script, calls_of, to_up, push, advise, ticking, unreadable_message}
use Rattle.conduct.specs.declared.Event.{Event}

-- ---- streams

-- The calls over any pieces of the stream, from nothing held and with whatever store is lent: the items that they give, and the bytes for which what is held at
-- last is right. (That there are such calls is the framing's `CallsGoOn`.)
abbrev pub Gives : List ℕ → List ℕ → List StreamItem → List ℕ → Type 0
Gives boundary stream items waiting =
    (store : List ℕ) (pieces : List (List ℕ)) (given : List StreamItem) (last : Held)
    → Lent link_limit boundary store → joined pieces ≡ stream → Calls link_limit boundary (nothingHeld store) pieces given last
    → (given ≡ items) × Right link_limit boundary waiting last

-- ---- messages

-- an Ok whose number stands at a place and is so long
abbrev pub ok_with : ℕ → ℕ → Option ℕ → Message
ok_with place length number = message Ok no_status no_number (record { there = true; place = place; length = length; meaning = number }) no_number no_type

-- an Ok that names 7, with one element inside the other down to a level, the Ok itself being level 1
abbrev pub nested : ℕ → List ℕ
nested level =
    codes "<Ok inResponseTo='7'>"
    ++ (flat codes (replicate (level - 1) "<a>") ++ (flat codes (replicate (level - 1) "</a>") ++ codes "</Ok>"))

-- ---- lines of the listing

-- kind is the kind's number, 0 where it is not read; too long is 8 at place 0
pub record Line : Type 0 where
  pub bytes : ℕ
  pub kind : ℕ
  pub refusal : ℕ
  pub place : ℕ

abbrev pub line_of : ℕ → Reading Message → Line
line_of bytes (whole m) = record { bytes = bytes; kind = kind_number m.kind; refusal = 0; place = 0 }
line_of bytes (refused refusal place) = record { bytes = bytes; kind = 0; refusal = refusal; place = place }

abbrev pub lines_of : List StreamItem → List Line
lines_of [] = []
lines_of (empty ∷ items) = lines_of items
lines_of (item_of w ∷ items) = line_of (length w) (message_of class_of link_limits w) ∷ lines_of items
lines_of (too_long ∷ items) = record { bytes = 0; kind = 0; refusal = 8; place = 0 } ∷ lines_of items

-- ---- pushes

-- what is said of the push n in a history, each with the accepted ticks up to it
abbrev pub told_of : ℕ → ℕ → List Entry → List (ℕ × ℕ)
told_of n passed [] = []
told_of n passed (x ∷ xs) =
    map (λ (e : Event). (passed + ticks (x ∷ []), e.code)) (those (about n) x.events) ++ told_of n (passed + ticks (x ∷ [])) xs

-- a fresh session brought up; what is pushed then gets number 3
abbrev pub up : Session
up = session_after (fresh (usual 6000)) (calls_of to_up)

-- ---- the table

pub data Example : Type 0 where
  -- a boundary and a stream: its items, and the bytes waiting
  cutting : (boundary stream : List ℕ) (items : List StreamItem) (waiting : List ℕ) → Example
  -- any boundary behind any bytes of this number: their item
  limit : (bytes : ℕ) (item : List ℕ → StreamItem) → Example
  -- a boundary and a stream: the line of its item with this number, empty ones not counted
  listing : (boundary stream : List ℕ) (number : ℕ) (line : Line) → Example
  -- a message: its answer
  reading : (bytes : List ℕ) (answer : Reading Message) → Example
  -- what happens to a session that is up, beginning with a push: what is said of the push, by ticks and code
  pushing : (script : Script) (told : List (ℕ × ℕ)) → Example

abbrev pub Holds : Example → Type 0
Holds (cutting boundary stream items waiting) = Gives boundary stream items waiting
Holds (limit bytes item) = (boundary x : List ℕ) → length x ≡ bytes → Part boundary (x ++ boundary) → Gives boundary (x ++ boundary) (item x ∷ []) []
Holds (listing boundary stream number line) =
    (items : List StreamItem) × (waiting : List ℕ) × Gives boundary stream items waiting × (take 1 (drop (number - 1) (lines_of items)) ≡ line ∷ [])
Holds (reading bytes answer) = message_of class_of link_limits bytes ≡ answer
Holds (pushing script told) = told_of 3 0 (history up (calls_of script)) ≡ told

abbrev pub sample : List ℕ
sample = codes "<Ok inResponseTo=\"7\"/>####<Ok>##abc"

abbrev pub twelve : List Example
twelve =
    -- the two short boundaries
    cutting (codes "aab") (codes "aaab") (item_of (codes "a") ∷ []) []
    ∷ cutting (codes "aa") (codes "baaa") (item_of (codes "b") ∷ []) (codes "a")
    ∷  -- the two item limits
    limit 65520 (λ x. item_of x)
    ∷ limit 65521 (λ x. too_long)
    ∷  -- the two items of the listing's sample
    listing (codes "##") sample 1 (record { bytes = 22; kind = 4; refusal = 0; place = 0 })
    ∷ listing (codes "##") sample 2 (record { bytes = 4; kind = 0; refusal = 9; place = 4 })
    ∷  -- 007 names nothing
    reading (codes "<Ok inResponseTo='007'/>") (whole (ok_with 18 3 None))
    ∷  -- levels 32 and 33
    reading (nested 32) (whole (ok_with 18 1 (Some 7)))
    ∷ reading (nested 33) (refused 10 114)
    ∷  -- an Advisory is closed in tick 20
    pushing (advise 17 ∷ ticking 60 ∷ []) ((20, 11) ∷ [])
    ∷  -- a Response that could not be read after tick 5: sent again, and closed in tick 25
    pushing (push 17 ∷ ticking 5 ∷ unreadable_message 3 ∷ ticking 60 ∷ []) ((5, 5) ∷ (25, 11) ∷ [])
    ∷  -- one that nobody answers: sent again in tick 20, and closed in tick 40
    pushing (push 17 ∷ ticking 60 ∷ []) ((20, 5) ∷ (40, 11) ∷ [])
    ∷ []

abbrev pub AllHold : List Example → Type 0
AllHold [] = Unit
AllHold (example ∷ examples) = Holds example × AllHold examples

-- the twelve, no more and no fewer
abbrev pub TwelveExamples : Type 0
TwelveExamples = (length twelve ≡ 12) × AllHold twelve
