-- Laws of a name that an end tag repeats: how far it is repeated, and that a name which is repeated whole, with `>` behind it, is read as the end tag
-- reads it. Assumes nothing.
use Prim.Native.Nat.{ℕ, ◌+◌, ◌-◌, ◌<◌, ◌≤◌}
use mathlib.Core.Path.{◌≡◌, refl, sym, ◌∙◌, ap, subst}
use mathlib.Core.Bool.{true, false}
use mathlib.Core.List.{List, ◌∷◌}
use native.Mathlib.Omega.{arith}
use native.Mathlib.Decide.{dec_lt}
use lib.ListN.{length}
use lib.Seq.{length-slice}
use lib.Dec.{ltb}
use borrow.Author.Tests.{ltb-true, ltb-false, lt-leb, eq-eqb, ne_eqb}
use Rattle.std.proofs.lemmas.Bool.{and_parts, cond_both}
use Rattle.message.specs.Class.{is_start, is_name, is_space}
use Rattle.message.specs.Reading.{◌>>=◌, is_whole, is, has, one, ends, word_at}
use Rattle.message.specs.Reading.Reading.{whole}
use Rattle.message.specs.Names.{Named, short_at, part_at, name_at}
use Rattle.message.proofs.Laws.{went, cond_true, cond_false, has_lt, one_yes, ends_le, ends_stop}
use Rattle.message.proofs.Progress.{Every, every_then}
use Rattle.message.specs.Limits.{link_limits}
use Rattle.message.specs.Elements.{part, end_part_at, end_name_at, end_tag_at}
use Rattle.elements.specs.Held.{NameStands, tag_ends_at}
use Rattle.message.proofs.Parts.{part_some, part_split}
use Rattle.message.proofs.Runs.{byte_is, has_known, word_begins, ends_fails, start_in_name}
use Rattle.message.proofs.Trees.{one_cases}
use Rattle.elements.proofs.Repeats.{Repeated, part_by_word, part_passes, whole_first, word_append, word_on, word_repeated, word_within}

-- ---- a name that has been read

-- one part of it
record PartStands (class : ℕ → ℕ) (s : List ℕ) (b e : ℕ) : Type 0 where
  pub some : b < e
  pub within : e ≤ length s
  pub run : e ≡ ends (is_name class) s b
  pub short : e - b ≤ 64

module _ (class : ℕ → ℕ) (s : List ℕ) where
  part_every : (b : ℕ) → Every (PartStands class s b) (part_at class 64 s b)
  unfolding part_at short_at
  part_every b =
      one_cases (Every (PartStands class s b)) (is_start class) s b _ (λ t.
      cond_both (ltb 64 (ends (is_name class) s b - b)) _ _ (Every (PartStands class s b)) (λ u. tt) (λ u.
      record {
        some = start_in_name class s b t;
        within = ends_le (is_name class) s b (omega (arith, has_lt (is_start class) s b t));
        run = refl;
        short = ltb-false 64 (ends (is_name class) s b - b) u;
      })) tt

  name_every : (b : ℕ) → Every (NameStands class s b) (name_at class 64 s b)
  unfolding name_at
  name_every b =
      every_then (PartStands class s b) (NameStands class s b) _ (part_at class 64 s b) (part_every b) (λ first p.
      cond_both (has (is 58) s first) _ _ (Every (NameStands class s b)) (λ t.
      every_then (PartStands class s (first + 1)) (NameStands class s b) _ (part_at class 64 s (first + 1)) (part_every (first + 1)) (λ last p'.
      let m : first + 1 - 1 ≡ first = omega arith in
      record {
        within = p'.within;
        last = (p'.some, p'.run);
        first = λ two. (omega (arith, p.some), m ∙ p.run);
        ordered = omega (arith, p.some);
        short = p'.short;
        joined = λ two. (omega (arith, p.short), rw m t);
      })) (λ t.
      record {
        within = p.within;
        last = (p.some, p.run);
        first = λ two. absurd (two refl);
        ordered = omega arith;
        short = p.short;
        joined = λ two. absurd (two refl);
      }))

  pub name_stands : (b : ℕ) (name : Named) → name_at class 64 s b ≡ whole name → NameStands class s b name
  name_stands b name q = subst (Every (NameStands class s b)) q (name_every b)

-- ---- the `>` of a tag, which is neither a name byte nor white space

module _ (class : ℕ → ℕ) (s : List ℕ) (at : ℕ) (end : tag_ends_at class s at ≡ true) where
  pub tag_closes : has (is 62) s at ≡ true
  tag_closes = (and_parts (has (is 62) s at) (ltb (class 62) 3) end).0

  tag_low : class 62 < 3
  tag_low = ltb-true (class 62) 3 (and_parts (has (is 62) s at) (ltb (class 62) 3) end).1

  tag_no_name : has (is_name class) s at ≡ false
  tag_no_name = has_known 62 s at tag_closes (is_name class) ∙ lt-leb 4 (class 62) (omega (arith, tag_low))

  pub tag_no_space : has (is_space class) s at ≡ false
  tag_no_space = has_known 62 s at tag_closes (is_space class) ∙ ne_eqb (class 62) 3 (λ q. omega (arith, tag_low))

-- ---- a name that is repeated whole

module _ (class : ℕ → ℕ) (s : List ℕ) where
  part_again : (b e at : ℕ) → b < e → e ≤ length s → e ≡ ends (is_name class) s b → e - b ≤ 64 → is_whole (word_at (part s b e) s at) ≡ true → has (is_name class) s (at + (e - b)) ≡ false → end_part_at class s link_limits (part s b e) at ≡ whole (at + (e - b))
  part_again b e at some l q small w none =
      let size = length-slice b e s l in
      let r : Repeated (part s b e) s at (at + (e - b)) = subst (λ (n : ℕ). Repeated (part s b e) s at (at + n)) size (word_repeated s (part s b e) at w) in
      sym (part_by_word class (part s b e) s at r (omega arith) (part_passes s b e l class q) (omega (arith, ends_stop (is_name class) s (at + (e - b)) none)))
      ∙ r.full (omega (arith, size))

  module _ (b local e at : ℕ) (stands : NameStands class s b (record { local = local; end = e })) (again : is_whole (word_at (part s b e) s at) ≡ true) where
    pub again_within : at + (e - b) ≤ length s
    again_within =
        let size = length-slice b e s stands.within in
        omega (arith, size, stands.ordered, stands.last.0, word_within s (part s b e) at again (omega (arith, stands.ordered, stands.last.0)))

    module _ (none : has (is_name class) s (at + (e - b)) ≡ false) where
      one_part : local ≡ b → end_part_at class s link_limits (part s b e) at ≡ whole (at + (e - b))
      one_part q =
          part_again b e at (omega (arith, stands.last.0)) stands.within (stands.last.1 ∙ ap (ends (is_name class) s) q) (omega (arith, stands.short)) again none

      two_parts : (local ≡ b → ⊥) → (end_part_at class s link_limits (part s b (local - 1)) at >>= (λ i. one (is 58) s i >>= end_part_at class s link_limits (part s local e))) ≡ whole (at + (e - b))
      two_parts two =
          let m : ℕ = local - 1 in
          let i : ℕ = at + (m - b) in
          let first = stands.first two in
          let joined = stands.joined two in
          let m_within : m ≤ length s = omega (arith, stands.within, stands.last.0) in
          let split : word_at (part s b e) s at ≡ (word_at (part s b m) s at >>= word_at (part s m e) s) =
          ap (λ (w : List ℕ). word_at w s at) (part_split s b m e (omega (arith, first.0)) (omega (arith, stands.last.0)) stands.within)
          ∙ word_append s (part s b m) (part s m e) at in
          let first_again : is_whole (word_at (part s b m) s at) ≡ true = whole_first (word_at (part s b m) s at) (word_at (part s m e) s) (sym (ap is_whole split) ∙ again) in
          let first_is : word_at (part s b m) s at ≡ whole i =
          (word_repeated s (part s b m) at first_again).full (omega arith) ∙ ap (λ (n : ℕ). whole (at + n)) (length-slice b m s m_within) in
          let next : m + 1 ≡ local = omega (arith, first.0) in
          let behind : part s m e ≡ 58 ∷ part s local e =
          part_some s m e (omega (arith, stands.last.0)) stands.within
          ∙ ap (λ (x : ℕ). x ∷ part s (m + 1) e) (byte_is 58 s m joined.1)
          ∙ ap (λ (k : ℕ). 58 ∷ part s k e) next in
          let rest_again : is_whole (word_at (58 ∷ part s local e) s i) ≡ true =
          ap (λ (w : List ℕ). is_whole (word_at w s i)) (sym behind) ∙ ap is_whole (went (word_at (part s m e) s) first_is ∙ sym split) ∙ again in
          let colon : has (is 58) s i ≡ true = word_begins 58 (part s local e) s i rest_again in
          let last_again : is_whole (word_at (part s local e) s (i + 1)) ≡ true = ap is_whole (sym (word_on 58 (part s local e) s i colon)) ∙ rest_again in
          let no_name : has (is_name class) s m ≡ false = subst (λ (k : ℕ). has (is_name class) s k ≡ false) (sym first.1) (ends_fails (is_name class) s b) in
          let i_none : has (is_name class) s i ≡ false = has_known 58 s i colon (is_name class) ∙ sym (has_known 58 s m joined.1 (is_name class)) ∙ no_name in
          let same : i + 1 + (e - local) ≡ at + (e - b) = omega (arith, first.0, stands.last.0) in
          let last_none : has (is_name class) s (i + 1 + (e - local)) ≡ false = rw same none in
          sym (went _ (part_again b m at first.0 m_within first.1 joined.0 first_again i_none))
          ∙ sym (went _ (one_yes (is 58) s i colon))
          ∙ part_again local e (i + 1) stands.last.0 stands.within stands.last.1 stands.short last_again last_none
          ∙ ap whole same

      name_again : end_name_at class s link_limits b (record { local = local; end = e }) at ≡ whole (at + (e - b))
      unfolding end_name_at
      name_again =
          elim (dec_lt b local) [
            | no h ↦ let q : local ≡ b = omega (arith, stands.ordered) in sym (cond_true _ (eq-eqb local b q)) ∙ one_part q
            | yes h ↦ let two : local ≡ b → ⊥ = λ q. omega arith in sym (cond_false _ (ne_eqb local b two)) ∙ two_parts two
          ]

    -- with the `>` of the tag at once behind it
    pub tag_again : tag_ends_at class s (at + (e - b)) ≡ true → whole (at + (e - b) + 1) ≡ end_tag_at class s link_limits b (record { local = local; end = e }) at
    unfolding end_tag_at
    tag_again end =
        sym (one_yes (is 62) s (at + (e - b)) (tag_closes class s (at + (e - b)) end))
        ∙ ap (one (is 62) s) (sym (ends_stop (is_space class) s (at + (e - b)) (tag_no_space class s (at + (e - b)) end)))
        ∙ went _ (name_again (tag_no_name class s (at + (e - b)) end))
