-- A turn of the program: one call of the framing, and what the line that it completes does and prints. Assumes nothing.
use Rattle.std.specs.Prelude.{List, [], ◌∷◌, ℕ, take}
use Rattle.texts.specs.Fields.{line_end}
use Rattle.framing.specs.Cutting.{Answer, link_limit, answer_of, store_after}
use Rattle.framing.specs.declared.Item.{Item}
use Rattle.framing.specs.declared.Item.TheVariants.{NotYet, Empty, Message, TooLong}
use Rattle.framing.specs.Stream as framing
use Rattle.replay.specs.declared.script.Line.TheVariants as lines
use Rattle.replay.specs.declared.runs.Run.{Run}
use Rattle.replay.specs.declared.Held.{Held}
use Rattle.replay.specs.declared.Turn.{Turn}
use Rattle.replay.specs.Script.{line_of}
use Rattle.replay.specs.Runs.{Done, silent, and_then, taken}

-- a line ends with an LF
abbrev pub boundary : List ℕ
boundary = line_end ∷ []

-- what one call of the framing gives to do; the bytes of a line are the first of the store
unfoldable pub taken_after : Run → Item → List ℕ → Done
taken_after run NotYet store = silent run
taken_after run Empty store = taken run lines.Nothing []
taken_after run (Message n) store = taken run (line_of (take n store)) (take n store)
taken_after run TooLong store = taken run lines.Bad []

-- s is the store, p the piece and h what is held
abbrev pub answer_in : List ℕ → List ℕ → Held → Answer
answer_in s p h = answer_of link_limit boundary s p h.gathered 0

unfoldable pub done_of_turn : List ℕ → List ℕ → Held → Done
done_of_turn s p h = taken_after h.run (answer_in s p h).item (store_after link_limit boundary s p h.gathered 0)

-- the bytes taken, and what is held then
unfoldable pub turn_of : List ℕ → List ℕ → Held → Turn
unfolding done_of_turn
turn_of s p h = record { taken = (answer_in s p h).taken; held = record { gathered = (answer_in s p h).gathered; run = (done_of_turn s p h).run } }

-- What the turns over a caller's calls (specs/Stream.antt of the framing) do and print: each call's turn, and then those of the calls after
-- it.
abbrev pub held_with : framing.Held → Run → Held
held_with h run = record { gathered = h.gathered; run = run }

abbrev pub turns : {h last : framing.Held} {pieces : List (List ℕ)} {items : List framing.StreamItem}
    → framing.Calls link_limit boundary h pieces items last → Run → Done
turns framing.over run = silent run
turns {h} (framing.used {p = p} accepted item rest) run = and_then (done_of_turn h.store p (held_with h run)) (turns rest)
turns {h} (framing.cut {p = p} accepted handed rest) run = and_then (done_of_turn h.store p (held_with h run)) (turns rest)
