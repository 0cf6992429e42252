-- First looks: what most often stands at a place, read at once, is what the longer way would read there too. Assumes nothing.
use Prim.Native.Nat.{ℕ, zero, suc, ◌+◌, ◌≤◌}
use mathlib.Core.Path.{◌≡◌, refl, sym, ◌∙◌, ap}
use mathlib.Core.Bool.{true, false, not, ◌&&◌}
use mathlib.Core.List.{List}
use native.Mathlib.Omega.{arith}
use lib.ListN.{length}
use borrow.Author.Tests.{not-true}
use Rattle.std.proofs.lemmas.Bool.{and_parts}
use Rattle.message.specs.Class.{is_plain, is_space}
use Rattle.message.specs.Reading.{Reading, is, has, ends}
use Rattle.message.specs.Reading.Reading.{whole, refused}
use Rattle.message.specs.Text.{text_at}
use Rattle.message.specs.Limits.{link_limits}
use Rattle.message.specs.Elements.{Start, ends_tag, free_at, start_end_at, with_name_at}
use Rattle.message.proofs.Laws.{went, cond_true, cond_false, one_yes, ends_out, ends_stop}
use Rattle.message.proofs.Runs.{has_known, ends_fails}
use Rattle.message.proofs.Loops.{left_first, left_done, text_step, texts}
use Rattle.elements.specs.Held.{tag_at, tag_ends_at}
use Rattle.elements.proofs.AttributeLaws.{attributes_none}
use Rattle.elements.proofs.EndTags.{tag_closes, tag_no_space}
use Rattle.elements.proofs.FreeLoop.{frees}

-- ---- between tags: plain text, up to `stop`

module _ (class : ℕ → ℕ) (s : List ℕ) (at stop : ℕ) (run : stop ≡ ends (is_plain class) s at) where
  -- where a tag begins there, the plain text is all that is read
  pub free_plain : tag_at s stop ≡ true → whole stop ≡ free_at class s (length s) at
  free_plain tag =
      let bang = has (is 33) s (stop + 1) in
      let query = has (is 63) s (stop + 1) in
      let less = (and_parts (has (is 60) s stop) (not bang && not query) tag).0 in
      let neither = (and_parts (has (is 60) s stop) (not bang && not query) tag).1 in
      let text = left_done (texts class s) (λ next. cond_true _ less) (left_first (texts class s) at run) in
      left_done (frees class s) (λ next.
      cond_false _ (not-true query (and_parts (not bang) (not query) neither).1)
      ∙ cond_false _ (not-true bang (and_parts (not bang) (not query) neither).0)
      ∙ went _ (sym text)) (left_first (frees class s) at refl)

  none : length s ≤ at → stop ≡ at
  none end = run ∙ ends_out (is_plain class) s at end

  no_more : ends (is_plain class) s stop ≡ ends (is_plain class) s at
  no_more = rw run (ends_stop (is_plain class) s (ends (is_plain class) s at) (ends_fails (is_plain class) s at))

  text_behind : (fuel : ℕ) → length s ≤ fuel + at → text_at class fuel s stop ≡ text_at class fuel s at
  unfolding text_at
  text_behind zero enough = ap (refused 9) (none (omega arith))
  text_behind (suc fuel) enough = ap (λ (i : ℕ). text_step class s i (text_at class fuel s)) no_more

  free_with : (fuel : ℕ) → length s ≤ fuel + at → free_at class s fuel stop ≡ free_at class s fuel at
  unfolding free_at
  free_with zero enough = ap (refused 9) (none (omega arith))
  free_with (suc fuel) enough = rw (text_behind (length s) (omega arith))

  -- in any case, what is read from behind it is what is read from its first byte on
  pub free_behind : free_at class s (length s) stop ≡ free_at class s (length s) at
  free_behind = free_with (length s) (omega arith)

-- ---- a start tag that has its `>` at once behind its name: it has no attributes, and is not empty

pub name_alone : (class : ℕ → ℕ) (s : List ℕ) (begin local e : ℕ) → tag_ends_at class s e ≡ true
    → ◌≡◌ {A = Reading Start} (whole (record { begin = begin; name = record { local = local; end = e }; from = e + 1; empty = false })) (with_name_at class s link_limits begin (record { local = local; end = e }))
unfolding with_name_at start_end_at
name_alone class s begin local e closes =
    let there = tag_closes class s e closes in
    let no-space = ends_stop (is_space class) s e (tag_no_space class s e closes) in
    went _ (one_yes (is 62) s e there)
    ∙ cond_false _ (has_known 62 s e there (is 47))
    ∙ went _ (sym (attributes_none class s link_limits e (sym no-space) (has_known 62 s e there ends_tag)))
