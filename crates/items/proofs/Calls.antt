-- One call of the framing, for the proof of a turn: what a turn makes of the answer is what `specs/Turns.antt` says. Assumes nothing.
use Rattle.std.specs.Prelude.{Ok, Err}
use mathlib.Core.Path.{◌≡◌}
use mathlib.Core.List.{List, []}
use Prim.Native.Nat.{ℕ}
use Rattle.framing.specs.declared.Refusal.{Refusal}
use Rattle.framing.specs.declared.Taken.{Taken}
use Rattle.framing.specs.Cutting.{link_limit, said, answer_of, store_after}
use Rattle.items.specs.declared.turns.Held.{Held}
use Rattle.items.specs.declared.turns.Turn.{Turn}
use Rattle.items.specs.Lines.{line_after, number_after}
use Rattle.items.specs.Turns.{line_of_turn, turn_of}

module _ (b s p : List ℕ) (h : Held) where
  pub turn_is : (t : Taken) → said h.cut (Ok t) ≡ answer_of link_limit b s p h.cut.gathered h.cut.matched
      → {next : ℕ} → next ≡ number_after h.number t.item
      → ◌≡◌ {A = Turn} (record { taken = t.taken; held = record { cut = t.held; number = next } }) (turn_of b s p h)
  unfolding turn_of
  turn_is t is after = rw (after, ← is)

  pub line_is : {left : List ℕ} → left ≡ store_after link_limit b s p h.cut.gathered h.cut.matched
      → (t : Taken) → said h.cut (Ok t) ≡ answer_of link_limit b s p h.cut.gathered h.cut.matched
      → {line : List ℕ} → line ≡ line_after h.number t.item left → line ≡ line_of_turn b s p h
  unfolding line_of_turn
  line_is leaves t is line = rw (line, leaves, ← is)

  pub refused_turn_is : (r : Refusal) → said h.cut (Err r) ≡ answer_of link_limit b s p h.cut.gathered h.cut.matched
      → ◌≡◌ {A = Turn} (record { taken = 0; held = h }) (turn_of b s p h)
  unfolding turn_of
  refused_turn_is r is = rw (← is)

  pub refused_line_is : (r : Refusal) → said h.cut (Err r) ≡ answer_of link_limit b s p h.cut.gathered h.cut.matched
      → {line : List ℕ} → line ≡ [] → line ≡ line_of_turn b s p h
  unfolding line_of_turn line_after
  refused_line_is r is none = rw (none, ← is)
