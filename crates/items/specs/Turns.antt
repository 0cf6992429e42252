-- A turn of the program: one call of the framing, and what it gives to print. Assumes nothing.
use Rattle.std.specs.Prelude.{ℕ, List, [], ◌++◌}
use Rattle.framing.specs.Cutting.{link_limit, answer_of, store_after}
use Rattle.framing.specs.Stream as framing
use Rattle.items.specs.declared.turns.Held.{Held}
use Rattle.items.specs.declared.turns.Turn.{Turn}
use Rattle.items.specs.Lines.{line_after, number_after}

-- at first nothing is held, and the first line has number 1
abbrev pub fresh_held : Held
fresh_held = record { cut = record { gathered = 0; matched = 0 }; number = 1 }

-- b is the boundary, s the store, p the piece and h what is held: the line to print, which may be none
unfoldable pub line_of_turn : List ℕ → List ℕ → List ℕ → Held → List ℕ
line_of_turn b s p h =
    line_after h.number (answer_of link_limit b s p h.cut.gathered h.cut.matched).item (store_after link_limit b s p h.cut.gathered h.cut.matched)

-- the bytes taken, and what is held then
unfoldable pub turn_of : List ℕ → List ℕ → List ℕ → Held → Turn
turn_of b s p h =
    let answer = answer_of link_limit b s p h.cut.gathered h.cut.matched in
    record {
      taken = answer.taken;
      held = record { cut = record { gathered = answer.gathered; matched = answer.matched }; number = number_after h.number answer.item };
    }

-- What the turns over a caller's calls (specs/Stream.antt of the framing) print, the first line having the given number: each call's line, and then
-- those of the calls after it.
abbrev pub held_with : framing.Held → ℕ → Held
held_with h number = record { cut = record { gathered = h.gathered; matched = h.matched }; number = number }

abbrev pub printed : {b : List ℕ} {h last : framing.Held} {pieces : List (List ℕ)} {items : List framing.StreamItem}
    → framing.Calls link_limit b h pieces items last → ℕ → List ℕ
printed framing.over number = []
printed {b} {h} (framing.used {p = p} accepted item rest) number =
    line_of_turn b h.store p (held_with h number) ++ printed rest (turn_of b h.store p (held_with h number)).held.number
printed {b} {h} (framing.cut {p = p} accepted handed rest) number =
    line_of_turn b h.store p (held_with h number) ++ printed rest (turn_of b h.store p (held_with h number)).held.number
