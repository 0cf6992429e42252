-- The end tag repeats the start tag's name byte by byte, a name of two parts with its colon. Assumes nothing.
use Prim.Native.Nat.{ℕ, ◌+◌, ◌-◌, ◌≤◌, ◌<◌}
use mathlib.Core.Path.{◌≡◌, refl, sym, ◌∙◌, ap, subst}
use mathlib.Core.Bool.{true}
use mathlib.Core.List.{List, ◌∷◌, ◌++◌}
use native.Mathlib.Omega.{arith}
use lib.ListN.{length, get_or}
use lib.Seq.{length-slice}
use borrow.Author.Tests.{eq-eqb, ne_eqb}
use Rattle.std.proofs.lemmas.Bool.{cond_both}
use Rattle.message.specs.Class.{is_name, is_space}
use Rattle.message.specs.Reading.{Reading, ◌>>=◌, is, has, one, ends, byte_at, blanks}
use Rattle.message.specs.Reading.Reading.{whole}
use Rattle.message.specs.Names.{Named, short_at, name_at}
use Rattle.message.specs.Limits.{Limits}
use Rattle.message.specs.Elements.{part, end_part_at, end_name_at, end_tag_at}
use Rattle.message.proofs.Laws.{cond_true, cond_false, has_lt, one_has, ends_from}
use Rattle.message.proofs.Runs.{byte_is}
use Rattle.message.proofs.Trees.{name_on}
use Rattle.message.proofs.Parts.{part_parted}
use Rattle.message.proofs.Words.{word_part}
use Rattle.message.proofs.Facts.{then_whole}
use Rattle.message.proofs.Shapes.{name_is}

module _ (class : ℕ → ℕ) (s : List ℕ) (l : Limits) where
  end_part : (w : List ℕ) (at i : ℕ) → end_part_at class s l w at ≡ whole i → i ≤ length s → (at ≤ i) × (part s at i ≡ w)
  unfolding end_part_at
  end_part w at i q h =
      let x = then_whole _ (one (is (get_or w 0 0)) s at) i q in
      let y = then_whole _ (short_at class l.part s at) i x.2 in
      word_part s w at i y.2 h

  -- a name of one part, and of two
  end_one_part : (b e at i : ℕ) → end_name_at class s l b (record { local = b; end = e }) at ≡ whole i → i ≤ length s
      → (at ≤ i) × (part s at i ≡ part s b e)
  unfolding end_name_at
  end_one_part b e at i q h = end_part (part s b e) at i (cond_true _ (eq-eqb b b refl) ∙ q) h

  end_two_parts : (b first e at i : ℕ) → b ≤ first → first < e → e ≤ length s → has (is 58) s first ≡ true
      → end_name_at class s l b (record { local = first + 1; end = e }) at ≡ whole i → i ≤ length s → (at ≤ i) × (part s at i ≡ part s b e)
  unfolding end_name_at
  end_two_parts b first e at i after room within colon q h =
      let second : ℕ → Reading ℕ = λ j. one (is 58) s j >>= end_part_at class s l (part s (first + 1) e) in
      let x = then_whole second (end_part_at class s l (part s b (first + 1 - 1)) at) i
      (cond_false _ (ne_eqb (first + 1) b (λ z. omega arith)) ∙ q) in
      let y = then_whole (end_part_at class s l (part s (first + 1) e)) (one (is 58) s x.0) i x.2 in
      let o = one_has (is 58) s x.0 y.0 y.1 in
      let lead = end_part (part s b (first + 1 - 1)) at x.0 x.1 (omega (arith, has_lt (is 58) s x.0 o.0)) in
      let rest = end_part (part s (first + 1) e) y.0 i y.2 h in
      let back : first + 1 - 1 ≡ first = omega arith in
      let leads : part s at x.0 ≡ part s b first = lead.1 ∙ ap (part s b) back in
      let rests : part s (x.0 + 1) i ≡ part s (first + 1) e = ap (λ (j : ℕ). part s j i) (sym o.1) ∙ rest.1 in
      let colons : byte_at s x.0 ≡ byte_at s first = byte_is 58 s x.0 o.0 ∙ sym (byte_is 58 s first colon) in (
        omega (arith, lead.0, rest.0, o.1),
        part_parted s at x.0 i lead.0 (omega (arith, rest.0, o.1)) h
            ∙ (joined leads colons rests ∙ sym (part_parted s b first e after room within)),
      )
    where
      joined : {u u' v v' : List ℕ} {x x' : ℕ} → u ≡ u' → x ≡ x' → v ≡ v' → u ++ (x ∷ v) ≡ u' ++ (x' ∷ v')
      joined p q r = rw (p, q, r)

  end_name : (b : ℕ) (name : Named) → name_at class l.part s b ≡ whole name → name.end ≤ length s → (at i : ℕ)
      → end_name_at class s l b name at ≡ whole i → i ≤ length s → (at ≤ i) × (part s at i ≡ part s b name.end)
  end_name b name named within at i q h =
      let first = ends (is_name class) s b in
      let Repeats : Named → Type 0 =
      λ n. n.end ≤ length s → end_name_at class s l b n at ≡ whole i → (at ≤ i) × (part s at i ≡ part s b n.end) in
      subst Repeats (sym (name_is class s b l.part name named).1) (cond_both (has (is 58) s first) _ _ Repeats
      (λ t l' q'. end_two_parts b first (ends (is_name class) s (first + 1)) at i (ends_from (is_name class) s b)
      (omega (arith, ends_from (is_name class) s (first + 1))) l' t q' h)
      (λ t l' q'. end_one_part b first at i q' h)) within q

  -- an end tag begins with the start tag's name
  pub end_tag : (b : ℕ) (name : Named) → name_at class l.part s b ≡ whole name → (at e : ℕ) → end_tag_at class s l b name at ≡ whole e
      → part s at (at + (name.end - b)) ≡ part s b name.end
  unfolding end_tag_at
  end_tag b name named at e q =
      let x = then_whole _ (end_name_at class s l b name at) e q in
      let o = one_has (is 62) s (blanks class s x.0) e x.2 in
      let on = name_on class s l.part named in
      let i_in : x.0 ≤ length s = omega (arith, ends_from (is_space class) s x.0, has_lt (is 62) s (blanks class s x.0) o.0) in
      let r = end_name b name named on.1 at x.0 x.1 i_in in
      let lengths : x.0 - at ≡ name.end - b =
      sym (length-slice at x.0 s i_in) ∙ (ap length r.1 ∙ length-slice b name.end s on.1) in
      let stop : at + (name.end - b) ≡ x.0 = omega (arith, r.0) in
      ap (part s at) stop ∙ r.1
