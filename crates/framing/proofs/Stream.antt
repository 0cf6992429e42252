-- THEOREMS over a whole stream. `calls_go_on`: every list of pieces has its calls. `items_of_the_stream`: they give exactly the items of the stream,
-- and hold what is right for the bytes waiting. `pieces_do_not_matter`: how the stream was cut into pieces changes none of it. Assumes nothing.
use mathlib.Core.Path.{◌≡◌, refl, sym, ap, ◌∙◌}
use mathlib.Core.List.{List, [], ◌∷◌, ◌++◌, append_assoc, append-nil, cons-eq-cons}
use Prim.Native.Nat.{ℕ, zero, suc, ◌+◌, ◌≤◌, ◌<◌}
use native.Mathlib.Omega.{arith}
use lib.ListN.{length, take, drop, length-take, length-drop, take-append-drop}
use lib.Seq.{take-take}
use Rattle.framing.specs.declared.Item.{Item}
use Rattle.framing.specs.declared.Item.TheVariants.{NotYet}
use Rattle.framing.specs.Cutting.{item_number}
use Rattle.framing.specs.Stream.{joined, Part, StreamItem, item_of_part, items_of_parts, Held, fresh, answer_to, held_after, Handed, an_empty, a_message, one_too_long, Calls, over, used, cut, Lent, Right}
use Rattle.framing.specs.Promises.{gathered_now, Outcome, waits, completes, CallRight, CallsGoOn, Delivers, ItemsOfTheStream, SameHeld, PiecesDoNotMatter}
use Rattle.framing.proofs.Cuts.{cut_once, not_at_end}
use Rattle.framing.proofs.OneCall.{every_call_right, match_below, nothing_gathered}

-- before the first call nothing is gathered
fresh_right : (limit : ℕ) (b s : List ℕ) → Lent limit b s → Right limit b [] (fresh s)
fresh_right limit b s lent = nothing_gathered limit b (fresh s) lent refl refl

-- an item is handed over as one thing only, and where there is none yet nothing is
no_item : {item : Item} {s : List ℕ} {i : StreamItem} → Handed item s i → item ≡ NotYet → ⊥
no_item an_empty e = omega (arith, ap item_number e)
no_item a_message e = omega (arith, ap item_number e)
no_item one_too_long e = omega (arith, ap item_number e)

handed_once : {item : Item} {s : List ℕ} {i i' : StreamItem} → Handed item s i → Handed item s i' → i ≡ i'
handed_once an_empty an_empty = refl
handed_once a_message a_message = refl
handed_once one_too_long one_too_long = refl

-- A PART TAKES AT LEAST ONE BYTE of the piece, since none of it is complete before
takes_some : (limit : ℕ) (b w : List ℕ) (h : Held) (p : List ℕ) → Right limit b w h → Part b (gathered_now limit b w h p) → 0 < (answer_to limit b h p).taken
takes_some limit b w h p right part = go (answer_to limit b h p).taken refl
  where
    go : (t : ℕ) → (answer_to limit b h p).taken ≡ t → 0 < t
    go zero e = absurd (not_at_end b w right.free (part.closed.0, sym (append-nil w) ∙ rw e at part.closed.1))
    go (suc t) e = omega arith

-- THE CALLS GO ON over a piece where they do over every shorter rest of it, and over the later pieces; and so over all
abbrev Go : ℕ → List ℕ → Held → List (List ℕ) → Type 0
Go limit b h ps = (items : List StreamItem) × (last : Held) × Calls limit b h ps items last

module _ (limit : ℕ) (b : List ℕ) where
  one_piece : (ps : List (List ℕ)) (p w : List ℕ) (h : Held) → Right limit b w h
      → ((w' : List ℕ) (h' : Held) → Right limit b w' h' → Go limit b h' ps)
      → ((p' : List ℕ) → length p' < length p → (h' : Held) → Right limit b [] h' → Go limit b h' (p' ∷ ps))
      → Go limit b h (p ∷ ps)
  one_piece ps p w h right later shorter = go call.outcome
    where
      call : CallRight limit b w h p
      call = every_call_right limit b w h p right

      go : Outcome limit b w h p → Go limit b h (p ∷ ps)
      go (waits none all on) = let rest = later (w ++ p) _ on in (rest.0, rest.1, used call.accepted none rest.2)
      go (completes part handed _ _ anew) =
          let rest =
          shorter (drop (answer_to limit b h p).taken p)
          (simp length-drop (omega (arith, takes_some limit b w h p right part, call.taken))) _ anew in
          (_ ∷ rest.0, rest.1, cut call.accepted handed rest.2)

  over_piece : (n : ℕ) (ps : List (List ℕ)) → ((w : List ℕ) (h : Held) → Right limit b w h → Go limit b h ps)
      → (p w : List ℕ) (h : Held) → length p ≤ n → Right limit b w h → Go limit b h (p ∷ ps)
  over_piece zero ps later p w h short right = one_piece ps p w h right later (λ p' less h' r. absurd (omega arith))
  over_piece (suc n) ps later p w h short right = one_piece ps p w h right later (λ p' less h' r. over_piece n ps later p' [] h' (omega arith) r)

  over_pieces : (ps : List (List ℕ)) (w : List ℕ) (h : Held) → Right limit b w h → Go limit b h ps
  over_pieces [] w h right = ([], h, over)
  over_pieces (p ∷ ps) w h right = over_piece (length p) ps (over_pieces ps) p w h (omega arith) right

pub calls_go_on : CallsGoOn
calls_go_on limit b s lent pieces = over_pieces limit b pieces [] (fresh s) (fresh_right limit b s lent)

-- THE ITEMS. Where w was gathered before the pieces, the calls give the items of w and then the pieces
module _ (limit : ℕ) (b : List ℕ) where
  after_item : (w : List ℕ) (h : Held) (p : List ℕ) (ps : List (List ℕ)) (i : StreamItem) (items : List StreamItem) (last : Held)
      → Handed (answer_to limit b h p).item (held_after limit b h p).store i
      → Part b (gathered_now limit b w h p)
      → Handed (answer_to limit b h p).item (held_after limit b h p).store (item_of_part limit b (gathered_now limit b w h p))
      → Delivers limit b (drop (answer_to limit b h p).taken p ++ joined ps) items last
      → Delivers limit b (w ++ (p ++ joined ps)) (i ∷ items) last
  after_item w h p ps i items last given part handed rest =
      record {
        parts = q ∷ rest.parts;
        waiting = rest.waiting;
        cuts = record { whole = whole; each = (part, rest.cuts.each); left = rest.cuts.left };
        gives = cons-eq-cons.1 (handed_once given handed, rest.gives);
        holds = rest.holds;
      }
    where
      t : ℕ
      t = (answer_to limit b h p).taken

      q : List ℕ
      q = gathered_now limit b w h p

      whole : w ++ (p ++ joined ps) ≡ q ++ joined rest.parts ++ rest.waiting
      whole =
          ap (λ (l : List ℕ). w ++ (l ++ joined ps)) (sym (take-append-drop t p))
          ∙ ap (λ (l : List ℕ). w ++ l) (append_assoc (take t p) (drop t p) (joined ps))
          ∙ sym (append_assoc w (take t p) (drop t p ++ joined ps))
          ∙ ap (λ (l : List ℕ). w ++ take t p ++ l) rest.cuts.whole
          ∙ sym (append_assoc (w ++ take t p) (joined rest.parts) rest.waiting)

  items_from : (w : List ℕ) (h : Held) (ps : List (List ℕ)) (items : List StreamItem) (last : Held) → Right limit b w h
      → Calls limit b h ps items last → Delivers limit b (w ++ joined ps) items last
  items_from w h ps items last right over =
      record { parts = []; waiting = w; cuts = record { whole = append-nil w; each = tt; left = right.free }; gives = refl; holds = right }
  items_from w h ps items last right (used {p = p} {ps = qs} ok none rest) = go (every_call_right limit b w h p right).outcome (λ on. items_from (w ++ p) _ qs items last on rest)
    where
      go : Outcome limit b w h p → (Right limit b (w ++ p) (held_after limit b h p) → Delivers limit b (w ++ p ++ joined qs) items last)
          → Delivers limit b (w ++ (p ++ joined qs)) items last
      go (waits _ all on) more = rw append_assoc at (more on)
      go (completes part handed _ _ anew) more = absurd (no_item handed none)
  items_from w h ps items last right (cut {p = p} {ps = qs} {i = i} {items = later} ok given rest) =
      go (every_call_right limit b w h p right).outcome (λ anew. items_from [] _ (drop (answer_to limit b h p).taken p ∷ qs) later last anew rest)
    where
      go : Outcome limit b w h p → (Right limit b [] (held_after limit b h p) → Delivers limit b (drop (answer_to limit b h p).taken p ++ joined qs) later last)
          → Delivers limit b (w ++ (p ++ joined qs)) (i ∷ later) last
      go (waits none all on) more = absurd (no_item given none)
      go (completes part handed _ _ anew) more = after_item w h p qs i later last given part handed (more anew)

pub items_of_the_stream : ItemsOfTheStream
items_of_the_stream limit b s lent pieces items last calls = items_from limit b [] (fresh s) pieces items last (fresh_right limit b s lent) calls

-- WHAT IS HELD is determined by the bytes waiting
match_at_most : {limit : ℕ} {b w : List ℕ} {h h' : Held} → Right limit b w h → Right limit b w h' → h.matched ≤ h'.matched
match_at_most {limit} {b} {w} {h} right right' = right'.longest h.matched (omega (arith, match_below limit b w h right)) right.tail

same_held : {limit : ℕ} {b w : List ℕ} {h h' : Held} → Right limit b w h → Right limit b w h' → SameHeld limit b h h'
same_held {limit} {b} {w} {h} {h'} right right' =
    record {
      gathered = right.count ∙ sym right'.count;
      matched = omega (arith, match_at_most right right', match_at_most right' right);
      store = λ n gathered kept. first n gathered kept h right ∙ sym (first n gathered kept h' right');
    }
  where
    -- the first n bytes of a right store are the first n of w
    first : (n : ℕ) → n ≤ h.gathered → n ≤ limit + length b → (i : Held) → Right limit b w i → take n i.store ≡ take n w
    first n gathered kept i r =
        let few : n ≤ length (take (limit + length b) w) = simp length-take (omega (arith, right.count)) in
        sym (take-take n (length (take (limit + length b) w)) i.store few) ∙ ap (take n) r.stored ∙ take-take n (limit + length b) w kept

pub pieces_do_not_matter : PiecesDoNotMatter
pieces_do_not_matter limit b s s' lent lent' pieces pieces' items items' last last' calls calls' same =
    let d = items_of_the_stream limit b s lent pieces items last calls in
    let d' = items_of_the_stream limit b s' lent' pieces' items' last' calls' in
    let once = cut_once b (joined pieces) d.parts d'.parts d.waiting d'.waiting d.cuts (rw (← same) at d'.cuts) in
    (d.gives ∙ ap (items_of_parts limit b) once.0 ∙ sym d'.gives, same_held (rw once.1 at d.holds) d'.holds)
