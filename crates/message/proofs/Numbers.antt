-- The numbers of refusal of the readers that take the limits: what holds of 9, of 12 and of the number of each limit that is below the
-- message's length holds of all their refusals. Assumes nothing.
use Prim.Native.Nat.{ℕ, zero, suc, ◌+◌, ◌-◌, ◌<◌, ◌≤◌}
use mathlib.Core.Path.{◌≡◌}
use mathlib.Core.List.{List, [], ◌∷◌}
use native.Mathlib.Decide.{dec_lt}
use native.Mathlib.Omega.{arith}
use lib.ListN.{length, get_or}
use lib.Dec.{ltb, eqb}
use borrow.Author.Tests.{ltb-true, ltb-false}
use Rattle.std.proofs.lemmas.Bool.{cond_both}
use Rattle.message.specs.Class.{is_start, is_name, is_space}
use Rattle.message.specs.Reading.{Reading, is, has, ends, blanks}
use Rattle.message.specs.Reading.Reading.{whole}
use Rattle.message.specs.Names.{Named, short_at, part_at, name_at}
use Rattle.message.specs.Limits.{Limits}
use Rattle.message.specs.Elements.{part, Element, Start, is_known, ends_tag, fresh_at, attributes_at, with_name_at, start_at, end_part_at, end_name_at, end_tag_at, content_at, rest_at, too_deep_at, element_at, root_at, document_at}
use Rattle.message.proofs.Laws.{has_lt, ends_from, ends_le, ends_out}
use Rattle.message.proofs.Progress.{past_whole}
use Rattle.message.proofs.Trees.{one_cases, name_on, fresh_on, quoted_on, free_whole, past_start, element_on}
use Rattle.message.proofs.ByForm.{Refuses, refuses_after, refuses_then, form_one, form_word, form_start_end, form_end, form_quoted, form_declared, form_around, form_free}
use Rattle.message.proofs.ByForm.Refuses.{never, with}

-- what holds of the numbers: of a limit's, where it is below the message's length
pub record Holds (P : ℕ → Type 0) (s : List ℕ) (l : Limits) : Type 0 where
  pub eight : l.bytes < length s → P 8
  pub nine : P 9
  pub ten : l.levels < length s → P 10
  pub eleven : l.attributes < length s → P 11
  pub twelve : P 12
  pub fourteen : l.part < length s → P 14

module _ (P : ℕ → Type 0) (class : ℕ → ℕ) (s : List ℕ) (l : Limits) (holds : Holds P s l) where
  abbrev Told : {A : Type 0} → Reading A → Type 0
  Told = Refuses P

  -- ---- names: no run of bytes is longer than the message

  run_le : (at : ℕ) → ends (is_name class) s at - at ≤ length s
  run_le at =
      elim (dec_lt at (length s)) [
        | yes h ↦ omega (arith, ends_le (is_name class) s at (omega arith))
        | no h ↦ omega (arith, ends_out (is_name class) s at (omega arith))
      ]

  told_short : (at : ℕ) → Told (short_at class l.part s at)
  unfolding short_at
  told_short at =
      let run = ends (is_name class) s at - at in
      cond_both (ltb l.part run) _ _ Told (λ t. with (holds.fourteen (omega (arith, ltb-true l.part run t, run_le at)))) (λ t. never)

  told_part : (at : ℕ) → Told (part_at class l.part s at)
  unfolding part_at
  told_part at = refuses_then _ (form_one P holds.nine s (is_start class) at) (λ next. told_short at)

  told_name : (at : ℕ) → Told (name_at class l.part s at)
  unfolding name_at
  told_name at =
      refuses_then _ (told_part at) (λ first.
      cond_both (has (is 58) s first) _ _ Told (λ t. refuses_then _ (told_part (first + 1)) (λ last. never)) (λ t. never))

  -- ---- start tags: each attribute takes a byte at least, so there are fewer than bytes of the message

  told_fresh : (seen : List (List ℕ)) (at p : ℕ) → length seen < p → Told (fresh_at class s l seen at p)
  unfolding fresh_at
  told_fresh seen at p h =
      refuses_then _ (form_one P holds.nine s (is_space class) at) (λ space.
      one_cases Told (is_start class) s p _ (λ t.
      refuses_then _ (cond_both (ltb (length seen) l.attributes) _ _ Told (λ u. never) (λ u.
      with (holds.eleven (omega (arith, ltb-false (length seen) l.attributes u, has_lt (is_start class) s p t))))) (λ room.
      refuses_then _ (told_name p) (λ n. cond_both (is_known (part s p n.end) seen) _ _ Told (λ u. with holds.nine) (λ u. never))))
      (with holds.nine))

  told_attributes : (fuel : ℕ) (seen : List (List ℕ)) (at : ℕ) → length seen < at → Told (attributes_at class s l fuel seen at)
  unfolding attributes_at
  told_attributes zero seen at h = with holds.nine
  told_attributes (suc fuel) seen at h =
      let p = blanks class s at in
      cond_both (has ends_tag s p) _ _ Told (λ t. never) (λ t.
      refuses_after _ (told_fresh seen at p (omega (arith, ends_from (is_space class) s at))) (λ e q.
      refuses_after _ (form_quoted P holds.nine s class e) (λ v r.
      told_attributes fuel (part s p e ∷ seen) (v.to + 1)
      (omega (arith, ends_from (is_space class) s at, fresh_on class s l seen at q, quoted_on class s r)))))

  told_start : (at : ℕ) → Told (start_at class s l at)
  unfolding start_at with_name_at
  told_start at =
      one_cases Told (is 60) s at _ (λ t.
      refuses_after _ (told_name (at + 1)) (λ n q.
      let some : 0 < n.end = omega (arith, name_on class s l.part q) in
      refuses_then _ (told_attributes (length s) [] n.end some) (form_start_end P holds.nine s (at + 1) n))) (with holds.nine)

  -- ---- end tags

  told_end_part : (w : List ℕ) (at : ℕ) → Told (end_part_at class s l w at)
  unfolding end_part_at
  told_end_part w at =
      refuses_then _ (form_one P holds.nine s (is (get_or w 0 0)) at)
      (λ first. refuses_then _ (told_short at) (λ short. form_word P holds.nine s w at))

  told_end_tag : (b : ℕ) (n : Named) (at : ℕ) → Told (end_tag_at class s l b n at)
  unfolding end_tag_at end_name_at
  told_end_tag b n at =
      refuses_then _ (cond_both (eqb n.local b) _ _ Told (λ t. told_end_part (part s b n.end) at) (λ t.
      refuses_then _ (told_end_part (part s b (n.local - 1)) at) (λ i.
      refuses_then _ (form_one P holds.nine s (is 58) i) (told_end_part (part s n.local n.end)))))
      (λ i. form_one P holds.nine s (is 62) (blanks class s i))

  -- ---- elements: each level begins a byte further on at least, so there are fewer than bytes of the message

  -- of every child behind k it holds, and each goes on
  module _ (k : ℕ) (child : ℕ → Reading Element) (told : (at : ℕ) → k < at → Told (child at))
      (on : (at : ℕ) (e : Element) → child at ≡ whole e → at < e.tag.end) (st : Start) where
    told_content : (fuel at : ℕ) → k < at → Told (content_at class s l fuel child st at)
    unfolding content_at
    told_content zero at h = with holds.nine
    told_content (suc fuel) at h =
        refuses_after _ (form_free P holds.nine s class holds.twelve (length s) at) (λ stop q.
        let further : k < stop = omega (arith, free_whole class s at stop q) in
        cond_both (has (is 47) s (stop + 1)) _ _ Told (λ t. refuses_then _ (told_end_tag st.begin st.name (stop + 2)) (λ e. never)) (λ t.
        refuses_after _ (told stop further)
        (λ e r. refuses_then _ (told_content fuel e.tag.end (omega (arith, on stop e r))) (λ c. never))))

    told_rest : k < st.from → Told (rest_at class s l child st)
    unfolding rest_at
    told_rest h = cond_both st.empty _ _ Told (λ t. never) (λ t. refuses_then _ (told_content (length s) st.from h) (λ c. never))

  told_element : (depth at : ℕ) → l.levels ≤ depth + at → Told (element_at class s l depth at)
  unfolding element_at too_deep_at
  told_element zero at h =
      one_cases Told (is 60) s at _ (λ t.
      refuses_then _ (form_one P holds.nine s (is_start class) (at + 1)) (λ i. with (holds.ten (omega (arith, has_lt (is 60) s at t)))))
      (with holds.nine)
  told_element (suc depth) at h =
      refuses_after _ (told_start at) (λ st q.
      told_rest at (element_at class s l depth) (λ from g. told_element depth from (omega arith))
      (λ from e r. (element_on class s l depth from e r).0) st
      (past_whole (λ st. st.from) (length s) at q (past_start class s at l at (omega arith))).0)

  -- ---- messages

  pub told_document : (at : ℕ) → Told (document_at class s l at)
  unfolding document_at root_at
  told_document at =
      let around = form_around P holds.nine s class holds.twelve (suc (length s)) in
      cond_both (ltb l.bytes (length s)) _ _ Told (λ t. with (holds.eight (ltb-true l.bytes (length s) t))) (λ t.
      refuses_then _ (cond_both (eqb at 0) _ _ Told (λ u. form_declared P holds.nine s class) (λ u. never)) (λ from.
      refuses_then _ (around from) (λ begin.
      refuses_then _ (told_element l.levels begin (omega arith)) (λ root.
      refuses_then _ (around root.tag.end) (λ last.
      refuses_then _ (form_end P holds.nine s last) (λ end. never))))))
