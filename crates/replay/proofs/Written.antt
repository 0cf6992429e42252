-- LAWS on the lines of events that are written one behind the other. Assumes nothing.
use mathlib.Core.Path.{◌≡◌, sym, ap, ◌∙◌}
use mathlib.Core.List.{List, [], ◌∷◌, ◌++◌, append-nil, append_assoc}
use Prim.Native.Nat.{ℕ, ◌+◌, ◌<◌}
use native.Mathlib.Numerals.{add-one}
use lib.ListN.{length, take, get_or}
use lib.Seq.{take-suc}
use Rattle.conduct.specs.declared.Event.{Event}
use Rattle.session.specs.Rows.{no_event}
use Rattle.replay.specs.Lines.{event_line, event_lines}

module _ (call : ℕ) where
  lines_more : (es : List Event) (e : Event) → event_lines call es ++ event_line call e ≡ event_lines call (es ++ e ∷ [])
  lines_more [] e = sym (append-nil (event_line call e))
  lines_more (x ∷ es) e =
      append_assoc (event_line call x) (event_lines call es) (event_line call e) ∙ ap (λ (l : List ℕ). event_line call x ++ l) (lines_more es e)

  pub lines_next : (list : List Event) (i : ℕ) {w : List ℕ} → i < length list → w ≡ event_lines call (take i list)
      → w ++ event_line call (get_or list i no_event) ≡ event_lines call (take (i + 1) list)
  lines_next list i more so_far =
      ap (λ (l : List ℕ). l ++ event_line call (get_or list i no_event)) so_far ∙ lines_more (take i list) (get_or list i no_event)
      ∙ ap (event_lines call) (sym (ap (λ (n : ℕ). take n list) (add-one i) ∙ take-suc list i no_event more))
