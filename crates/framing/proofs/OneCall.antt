-- THEOREM `every_call_right`: a call on what is right for the bytes gathered goes as document 01 says, and leaves what is right for those gathered
-- then. Assumes nothing.
use mathlib.Core.Path.{◌≡◌, refl, sym, ap, ◌∙◌}
use mathlib.Core.Bool.{Bool, true, false}
use mathlib.Core.List.{List, [], ◌++◌}
use Prim.Native.Nat.{ℕ, suc, ◌+◌, ◌-◌, ◌≤◌, ◌<◌, min}
use native.Mathlib.Omega.{arith}
use lib.ListN.{length, take, drop, length-append, length-take}
use lib.Seq.{take_all, take-append-add, take-append-le, take-nil, paste, paste-zero}
use lib.Dec.{leb}
use borrow.Author.Tests.{leb-true, leb-false, le-leb, lt-leb}
use Rattle.std.proofs.lemmas.Bool.{both_ways, false_from_ne_true}
use Rattle.laws.specs.Bytes.{Ends, ends_with}
use Rattle.laws.proofs.Search.{least_passes, least_below, greatest_is}
use Rattle.laws.proofs.Tails.{ends_of_test, test_of_ends, ends_shorter, ends_nil}
use Rattle.std.specs.Prelude.{None, Some}
use Rattle.framing.specs.declared.Cut.{Cut}
use Rattle.framing.specs.declared.Item.TheVariants.{NotYet}
use Rattle.framing.specs.Cutting.{Answer, refusal_of, longest_match, item_end, cut_over, cut_of, count_after, item_of, answered, kept}
use Rattle.framing.specs.Refusals.{nothing}
use Rattle.framing.specs.Stream.{Free, Part, item_of_part, Held, answer_to, held_after, Handed, Lent, Begins, Right}
use Rattle.framing.specs.Promises.{gathered_now, Outcome, waits, completes, CallRight, EveryCallRight}
use Rattle.framing.proofs.Refusals.{due_is}
use Rattle.framing.proofs.Matcher.{longest_ends, longest_most}
use Rattle.framing.proofs.Call.{Fit, cut_fits, answered_keeps, when_taken}
use Rattle.framing.proofs.GoesOn.{goes_on}
use Rattle.framing.proofs.Stored.{store_begins, store_rest}
use Rattle.framing.proofs.Places.{every_place_right}
use Rattle.framing.proofs.Cuts.{free_none, none_free, not_at_end, part_first}
use Rattle.framing.proofs.Handed.{handed_part}

-- a tail as long as the boundary, or longer, would be the boundary itself
tail_below : (b w : List ℕ) (j : ℕ) → Free b w → Ends (take j b) w → j < length b
tail_below b w j free tail = go (leb (length b) j) refl
  where
    go : (t : Bool) → leb (length b) j ≡ t → j < length b
    go true e = absurd (not_at_end b w free (rw (take_all j b (leb-true (length b) j e)) at tail))
    go false e = leb-false (length b) j e

pub match_below : (limit : ℕ) (b w : List ℕ) (h : Held) → Right limit b w h → h.matched < length b
match_below limit b w h right = tail_below b w h.matched right.free right.tail

-- two numbers that are 0 are right where nothing is gathered
pub nothing_gathered : (limit : ℕ) (b : List ℕ) (h : Held) → Lent limit b h.store → h.gathered ≡ 0 → h.matched ≡ 0 → Right limit b [] h
nothing_gathered limit b h lent no_count no_match =
    record {
      lent = lent;
      free = λ x y e. omega (arith, lent.some, ap length e, length-append x (b ++ y), length-append b y);
      count = no_count;
      tail = rw no_match (ends_nil []);
      longest = λ j within e. omega (arith, ends_shorter (take j b) [] e, length-take j b);
      stored = rw (take-nil (limit + length b));
    }

module _ (limit : ℕ) (b w : List ℕ) (h : Held) (p : List ℕ) (right : Right limit b w h) where
  abbrev k : ℕ
  k = length b

  abbrev s : List ℕ
  s = h.store

  abbrev g : ℕ
  g = h.gathered

  abbrev m : ℕ
  m = h.matched

  abbrev found : Cut
  found = cut_of b p m

  none : (e : ℕ) → e ≤ length w → ends_with b (take e w) ≡ false
  none = free_none b w right.free

  m_below : m < k
  m_below = match_below limit b w h right

  m_longest : longest_match k b w ≡ m
  unfolding longest_match
  m_longest =
      greatest_is (λ j. ends_with (take j b) w) k m m_below (test_of_ends (take m b) w right.tail)
      (λ j above below. false_from_ne_true _ (λ t. let most = right.longest j (omega arith) (ends_of_test (take j b) w t) in omega arith))

  m_within : m ≤ g
  m_within =
      let low = m_below in
      omega (arith, right.count, ends_shorter (take m b) w right.tail, length-take m b, right.lent.few)

  accepts : refusal_of limit k (length s) g m ≡ 0
  accepts =
      due_is limit k (length s) g m 0
      (nothing (record { some = right.lent.some; few = right.lent.few; roomy = right.lent.roomy; below = m_below; within = m_within }))

  answer_is : answer_to limit b h p ≡ answered limit k g found
  unfolding answer_to
  answer_is = sym (when_taken limit b s p g m 0 (sym accepts) refl).0

  fit : Fit b p m found
  fit = cut_fits b p m m_below

  -- the piece is cut as all that was gathered and then the piece would be
  found_over : found ≡ cut_over b p (length w) (w ++ p)
  found_over = ap (cut_of b p) (sym m_longest) ∙ goes_on b w p right.lent.some none

  -- THE STORE. A count that stopped growing stands past the limit, where nothing is stored
  stored_at : (t : ℕ) → paste s g p (kept limit k g t) ≡ paste s (length w) p (kept limit k (length w) t)
  stored_at t = go (leb (length w) 4294967295) refl
    where
      go : (r : Bool) → leb (length w) 4294967295 ≡ r → paste s g p (kept limit k g t) ≡ paste s (length w) p (kept limit k (length w) t)
      go true e =
          let same : g ≡ length w = omega (arith, right.count, leb-true (length w) 4294967295 e) in
          rw same
      go false e =
          let past = leb-false (length w) 4294967295 e in
          let nothing_at_g : kept limit k g t ≡ 0 = omega (arith, right.count, right.lent.few, right.lent.countable) in
          let nothing_at_w : kept limit k (length w) t ≡ 0 = omega (arith, right.lent.few, right.lent.countable) in
          rw (nothing_at_g, nothing_at_w) (sym (paste-zero s g p) ∙ paste-zero s (length w) p)

  store_is : (held_after limit b h p).store ≡ paste s (length w) p (kept limit k (length w) found.taken)
  unfolding held_after
  store_is = sym (when_taken limit b s p g m 0 (sym accepts) refl).1 ∙ stored_at found.taken

  taken_is : (answer_to limit b h p).taken ≡ found.taken
  taken_is = ap (λ (a : Answer). a.taken) answer_is ∙ (answered_keeps limit k g found).1

  reach_is : length (take (limit + k) (gathered_now limit b w h p)) ≡ min (limit + k) (length w + found.taken)
  reach_is = rw taken_is (simp (length-take, length-append) (omega (arith, fit.taken)))

  before : take (min (limit + k) (length w)) s ≡ take (limit + k) w
  before = rw length-take at right.stored

  room : limit + k ≤ length s
  room = omega (arith, right.lent.few, right.lent.roomy)

  begins : Begins limit b (gathered_now limit b w h p) (held_after limit b h p).store
  begins = rw (reach_is, store_is, taken_is) (store_begins limit k found.taken w p s fit.taken room before)

  later :
      drop (length (take (limit + k) (gathered_now limit b w h p))) (held_after limit b h p).store
      ≡ drop (length (take (limit + k) (gathered_now limit b w h p))) s
  later = rw (reach_is, store_is) (store_rest limit k found.taken w p s fit.taken room before)

  same_size : length (held_after limit b h p).store ≡ length s
  unfolding held_after
  same_size = (every_place_right limit b s p g m accepts).0

  still_lent : Lent limit b (held_after limit b h p).store
  still_lent =
      record {
        some = right.lent.some;
        few = right.lent.few;
        roomy = rw same_size right.lent.roomy;
        countable = right.lent.countable;
      }

  -- AN ITEM ENDS IN THE PIECE
  module _ (inside : item_end b (w ++ p) ≤ length (w ++ p)) where
    abbrev end : ℕ
    end = item_end b (w ++ p)

    ends : ends_with b (take end (w ++ p)) ≡ true
    unfolding item_end
    ends = least_passes (λ e. ends_with b (take e (w ++ p))) (suc (length (w ++ p))) (omega arith)

    fewer_do_not : (i : ℕ) → i < end → ends_with b (take i (w ++ p)) ≡ false
    unfolding item_end
    fewer_do_not = least_below (λ e. ends_with b (take e (w ++ p))) (suc (length (w ++ p)))

    past_w : length w < end
    past_w = go (leb end (length w)) refl
      where
        go : (t : Bool) → leb end (length w) ≡ t → length w < end
        go true e =
            let within = leb-true end (length w) e in
            absurd (both_ways _ (none end within) (rw (take-append-le end w p within) at ends))
        go false e = leb-false end (length w) e

    found_is : found ≡ record { taken = end - length w; matched = None }
    unfolding cut_over
    found_is = found_over ∙ rw (le-leb end (length (w ++ p)) inside)

    gathered_is : gathered_now limit b w h p ≡ take end (w ++ p)
    gathered_is =
        let far = past_w in
        let split : end ≡ length w + (end - length w) = omega arith in
        rw (taken_is, found_is) (sym (ap (λ (n : ℕ). take n (w ++ p)) split ∙ take-append-add w p (end - length w)))

    part : Part b (gathered_now limit b w h p)
    part = rw gathered_is (part_first b (w ++ p) end inside ends fewer_do_not)

    -- the count of the part's bytes, up to its largest
    count_is : count_after g found.taken ≡ min (length (gathered_now limit b w h p)) 4294967295
    count_is =
        let far = past_w in
        let size : length (gathered_now limit b w h p) ≡ end = rw gathered_is (simp length-take (omega arith)) in
        let taken : found.taken ≡ end - length w = ap (λ (c : Cut). c.taken) found_is in
        omega (arith, right.count)

    answer_item : answer_to limit b h p ≡ record { refusal = 0; taken = found.taken; item = item_of limit k (count_after g found.taken); gathered = 0; matched = 0 }
    unfolding answered
    answer_item = answer_is ∙ rw (ap (λ (c : Cut). c.matched) found_is)

    handed : Handed (answer_to limit b h p).item (held_after limit b h p).store (item_of_part limit b (gathered_now limit b w h p))
    handed =
        rw (ap (λ (a : Answer). a.item) answer_item, count_is)
        (handed_part limit b (gathered_now limit b w h p) (held_after limit b h p).store still_lent (ends_shorter b _ part.closed) begins)

    held_item : held_after limit b h p ≡ record { store = (held_after limit b h p).store; gathered = 0; matched = 0 }
    unfolding held_after
    held_item = rw answer_item

    no_count : (held_after limit b h p).gathered ≡ 0
    no_count = ap (λ (x : Held). x.gathered) held_item

    no_match : (held_after limit b h p).matched ≡ 0
    no_match = ap (λ (x : Held). x.matched) held_item

    anew : Right limit b [] (held_after limit b h p)
    anew = nothing_gathered limit b (held_after limit b h p) still_lent no_count no_match

  -- NO ITEM ENDS IN THE PIECE
  module _ (past : length (w ++ p) < item_end b (w ++ p)) where
    open_is : found ≡ record { taken = length p; matched = Some (longest_match k b (w ++ p)) }
    unfolding cut_over
    open_is = found_over ∙ rw (lt-leb (item_end b (w ++ p)) (length (w ++ p)) past)

    still_free : Free b (w ++ p)
    unfolding item_end
    still_free = none_free b (w ++ p) (λ e within. least_below (λ e. ends_with b (take e (w ++ p))) (suc (length (w ++ p))) e (omega arith))

    answer_open : answer_to limit b h p ≡ record { refusal = 0; taken = found.taken; item = NotYet; gathered = count_after g found.taken; matched = longest_match k b (w ++ p) }
    unfolding answered
    answer_open = answer_is ∙ rw (ap (λ (c : Cut). c.matched) open_is)

    all_taken : (answer_to limit b h p).taken ≡ length p
    all_taken = taken_is ∙ ap (λ (c : Cut). c.taken) open_is

    next_match : (held_after limit b h p).matched ≡ longest_match k b (w ++ p)
    unfolding held_after
    next_match = ap (λ (a : Answer). a.matched) answer_open

    next_count : (held_after limit b h p).gathered ≡ min (length (w ++ p)) 4294967295
    unfolding held_after
    next_count =
        let taken : found.taken ≡ length p = ap (λ (c : Cut). c.taken) open_is in
        ap (λ (a : Answer). a.gathered) answer_open ∙ omega (arith, right.count, length-append w p)

    on : Right limit b (w ++ p) (held_after limit b h p)
    on =
        record {
          lent = still_lent;
          free = still_free;
          count = next_count;
          tail = rw next_match (longest_ends k b (w ++ p));
          longest = λ j within e. rw next_match (longest_most k b (w ++ p) j (tail_below b (w ++ p) j still_free e) e);
          stored = rw (all_taken, take_all (length p) p (omega arith)) at begins;
        }

  outcome : Outcome limit b w h p
  outcome = go (leb (item_end b (w ++ p)) (length (w ++ p))) refl
    where
      go : (t : Bool) → leb (item_end b (w ++ p)) (length (w ++ p)) ≡ t → Outcome limit b w h p
      go true e = let inside = leb-true _ _ e in completes (part inside) (handed inside) (no_count inside) (no_match inside) (anew inside)
      go false e = let past = leb-false _ _ e in waits (ap (λ (a : Answer). a.item) (answer_open past)) (all_taken past) (on past)

  call_right : CallRight limit b w h p
  call_right =
      record {
        accepted = ap (λ (a : Answer). a.refusal) answer_is ∙ (answered_keeps limit k g found).0;
        taken = rw taken_is fit.taken;
        begins = begins;
        later = later;
        outcome = outcome;
      }

pub every_call_right : EveryCallRight
every_call_right = call_right
