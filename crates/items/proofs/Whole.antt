-- THEOREMS on a whole input. `turns_list`: the header, what the turns over the pieces of the stream print, and the last line are the listing of the
-- input. `stops`: so are the header and the line `stop 1` where the boundary is refused. Assumes nothing.
use mathlib.Core.Path.{◌≡◌, refl, ap, ◌∙◌}
use mathlib.Core.List.{List, ◌∷◌, ◌++◌}
use Prim.Native.Nat.{ℕ, suc}
use native.Mathlib.Omega.{arith}
use lib.ListN.{length, take, drop, length-take}
use Rattle.framing.specs.declared.Item.{Item}
use Rattle.framing.specs.Cutting.{link_limit, answer_of, store_after}
use Rattle.framing.specs.Stream.{StreamItem, items_of_parts, parts_of, waiting_of, Held, answer_to, held_after, Handed, an_empty, a_message, one_too_long as handed-too-long, Calls, over, used, cut}
use Rattle.framing.proofs.Cuts.{cut_once}
use Rattle.framing.proofs.Found.{cut_found}
use Rattle.framing.proofs.Link.{link_lent}
use Rattle.framing.proofs.Stream.{items_of_the_stream}
use Rattle.items.specs.Lines.{header_line, end_line, line_after, number_after}
use Rattle.items.specs.Listing.{boundary_end, item_lines, cut_lines, stream_lines, listing}
use Rattle.items.specs.Turns.{line_of_turn, turn_of, printed}
use Rattle.items.specs.Whole.{TurnsList, Stops}
use Rattle.items.proofs.FirstEnd.{end_found, accepted_end}

-- the line of an item as it is handed over, and the number after it
handed_line : {i : Item} {s : List ℕ} {x : StreamItem} → Handed i s x → (n : ℕ) (items : List StreamItem)
    → line_after n i s ++ item_lines (number_after n i) items ≡ item_lines n (x ∷ items)
unfolding line_after
handed_line an_empty n items = refl
handed_line a_message n items = refl
handed_line handed-too-long n items = refl

lines_of_calls : {b : List ℕ} {h last : Held} {pieces : List (List ℕ)} {items : List StreamItem} (calls : Calls link_limit b h pieces items last) (n : ℕ)
    → printed calls n ≡ item_lines n items
unfolding answer_to held_after line_of_turn turn_of line_after
lines_of_calls over n = refl
lines_of_calls (used accepted waits rest) n = rw waits (lines_of_calls rest n)
lines_of_calls {b} {h} (cut {p = p} {items = items} accepted handed rest) n =
    let item = (answer_of link_limit b h.store p h.gathered h.matched).item in
    let store = store_after link_limit b h.store p h.gathered h.matched in
    ap (λ (l : List ℕ). line_after n item store ++ l) (lines_of_calls rest (number_after n item)) ∙ handed_line handed n items

pub stops : Stops
unfolding listing
stops input refused = rw refused

pub turns_list : TurnsList
unfolding listing stream_lines cut_lines
turns_list input accepted s roomy pieces whole items last calls =
    let boundary = take (boundary_end input) input in
    let stream = drop (suc (boundary_end input)) input in
    let fits = accepted_end input accepted in
    let size : length boundary ≡ boundary_end input = omega (arith, length-take (boundary_end input) input, end_found input fits) in
    let d = items_of_the_stream link_limit boundary s (link_lent boundary s (omega (arith, fits, size)) (omega (arith, fits, size)) roomy) pieces items last calls in
    let mine = cut_found (length stream) boundary stream (omega (arith, fits, size)) (omega arith) in
    let same = cut_once boundary stream d.parts (parts_of (length stream) boundary stream) d.waiting (waiting_of (length stream) boundary stream) (rw whole at d.cuts) mine in
    let lines : printed calls 1 ++ end_line last.gathered ≡ cut_lines boundary d.parts d.waiting =
    ap (λ (l : List ℕ). l ++ end_line last.gathered) (lines_of_calls calls 1 ∙ ap (item_lines 1) d.gives)
    ∙ ap (λ (n : ℕ). item_lines 1 (items_of_parts link_limit boundary d.parts) ++ end_line n) d.holds.count in
    let cuts : cut_lines boundary d.parts d.waiting ≡ stream_lines boundary stream =
    ap (λ (q : List (List ℕ)). cut_lines boundary q d.waiting) same.0
    ∙ ap (λ (q : List ℕ). cut_lines boundary (parts_of (length stream) boundary stream) q) same.1 in
    rw accepted (ap (λ (l : List ℕ). header_line ++ l) (lines ∙ cuts))
