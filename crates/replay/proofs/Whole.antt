-- THEOREM `turns_replay`: the turns over the pieces of a script print what `Replay` says of the script (specs/Whole). A boundary of one byte
-- is never begun only, so that the match that the framing holds is 0, and the program need not hold it. Assumes nothing.
use mathlib.Core.Path.{◌≡◌, refl, sym, ap, ◌∙◌}
use mathlib.Core.Bool.{Bool, true, false}
use mathlib.Core.List.{List, [], ◌++◌}
use Prim.Native.Nat.{ℕ}
use native.Mathlib.Omega.{arith}
use lib.Dec.{leb}
use lib.ListN.{length, take, length-take}
use lib.Seq.{take_all}
use borrow.Author.Tests.{leb-true, leb-false}
use Rattle.framing.specs.declared.Item.{Item}
use Rattle.framing.specs.Cutting.{link_limit, answer_of, store_after}
use Rattle.framing.specs.Stream.{StreamItem, items_of_parts, Held, fresh, answer_to, held_after, Handed, an_empty, a_message, one_too_long, Calls, over, used, cut, Right}
use Rattle.framing.specs.Promises.{Outcome, waits, completes}
use Rattle.framing.proofs.Cuts.{cut_once}
use Rattle.framing.proofs.Link.{link_lent}
use Rattle.framing.proofs.OneCall.{match_below, nothing_gathered, every_call_right}
use Rattle.framing.proofs.Stream.{items_of_the_stream}
use Rattle.replay.specs.declared.runs.Run.{Run}
use Rattle.replay.specs.Runs.{Done, and_then, fresh_run}
use Rattle.replay.specs.Replay.{taken_item, taken_items, taken_rest, ended, replayed}
use Rattle.replay.specs.Turns.{boundary, taken_after, done_of_turn, held_with, turns}
use Rattle.replay.specs.Whole.{TurnsReplay}
use Rattle.replay.proofs.Turns.{too_long_rest}

-- ---- one turn

module _ (w : List ℕ) (h : Held) (right : Right link_limit boundary w h) where
  no_match : h.matched ≡ 0
  no_match = omega (arith, match_below link_limit boundary w h right)

  module _ (p : List ℕ) where
    -- what a call leaves is right again
    goes_on : (v : List ℕ) × Right link_limit boundary v (held_after link_limit boundary h p)
    goes_on = go (every_call_right link_limit boundary w h p right).outcome
      where
        go : Outcome link_limit boundary w h p → (v : List ℕ) × Right link_limit boundary v (held_after link_limit boundary h p)
        go (waits item taken next) = (w ++ p, next)
        go (completes part handed count match next) = ([], next)

    turn_done : (run : Run)
        → done_of_turn h.store p (held_with h run)
        ≡ taken_after run (answer_to link_limit boundary h p).item (held_after link_limit boundary h p).store
    unfolding done_of_turn answer_to held_after
    turn_done run =
        ap
        (λ (m : ℕ).
        taken_after run (answer_of link_limit boundary h.store p h.gathered m).item
        (store_after link_limit boundary h.store p h.gathered m))
        (sym no_match)

handed_done : {i : Item} {s : List ℕ} {x : StreamItem} → Handed i s x → (run : Run) → taken_after run i s ≡ taken_item run x
unfolding taken_after
handed_done an_empty run = refl
handed_done a_message run = refl
handed_done one_too_long run = refl

-- ---- all of them

and_then_lem : (d : Done) (f g : Run → Done) → f d.run ≡ g d.run → and_then d f ≡ and_then d g
and_then_lem d f g same = ap (λ (e : Done). record { run = e.run; printed = d.printed ++ e.printed }) same

calls_done : {h last : Held} {pieces : List (List ℕ)} {items : List StreamItem} (calls : Calls link_limit boundary h pieces items last)
    → (w : List ℕ) → Right link_limit boundary w h → (run : Run) → turns calls run ≡ taken_items run items
unfolding taken_after
calls_done over w right run = refl
calls_done {h} (used {p = p} accepted item rest) w right run =
    let next = goes_on w h right p in
    let store = (held_after link_limit boundary h p).store in
    ap (λ (d : Done). and_then d (turns rest)) (turn_done w h right p run ∙ ap (λ (i : Item). taken_after run i store) item)
    ∙ calls_done rest next.0 next.1 run
calls_done {h} (cut {p = p} {i = i} {items = items} accepted handed rest) w right run =
    let next = goes_on w h right p in
    let done = taken_item run i in
    ap (λ (d : Done). and_then d (turns rest)) (turn_done w h right p run ∙ handed_done handed run)
    ∙ and_then_lem done (turns rest) (λ r. taken_items r items) (calls_done rest next.0 next.1 done.run)

-- ---- what waits then

rest_done : (w : List ℕ) (h : Held) → Right link_limit boundary w h → (run : Run)
    → taken_rest run (take h.gathered h.store) ≡ taken_rest run w
rest_done w h right run = go (leb (length w) link_limit) refl
  where
    go : (t : Bool) → leb (length w) link_limit ≡ t → taken_rest run (take h.gathered h.store) ≡ taken_rest run w
    go true e =
        let few = leb-true (length w) link_limit e in
        let count : h.gathered ≡ length w = omega (arith, right.count) in
        let all : take 65521 w ≡ w = take_all 65521 w (omega arith) in
        ap (taken_rest run) (ap (λ (n : ℕ). take n h.store) count ∙ (rw all at right.stored))
    go false e =
        let many = leb-false (length w) link_limit e in
        let size = length-take h.gathered h.store in
        too_long_rest run (take h.gathered h.store) (omega (arith, right.count, right.lent.roomy)) ∙ sym (too_long_rest run w many)

pub turns_replay : TurnsReplay
unfolding replayed
turns_replay script parts waiting cuts s roomy pieces whole items last calls =
    let lent = link_lent boundary s (omega arith) (omega arith) roomy in
    let d = items_of_the_stream link_limit boundary s lent pieces items last calls in
    let same = cut_once boundary script d.parts parts d.waiting waiting (rw whole at d.cuts) cuts in
    let its = taken_items fresh_run (items_of_parts link_limit boundary parts) in
    let all : turns calls fresh_run ≡ its =
    calls_done calls [] (nothing_gathered link_limit boundary (fresh s) lent refl refl) fresh_run
    ∙ ap (taken_items fresh_run) (d.gives ∙ ap (items_of_parts link_limit boundary) same.0) in
    let rest : Run → Done = λ r. taken_rest r (take last.gathered last.store) in
    let left = rest_done d.waiting last d.holds its.run ∙ ap (taken_rest its.run) same.1 in
    ap ended (ap (λ (e : Done). and_then e rest) all ∙ and_then_lem its rest (λ r. taken_rest r waiting) left)
