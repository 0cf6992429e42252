-- A word that is read at a place is what stands there, and the other way round; and the openings of 12 said in both ways. Assumes nothing.
use Prim.Native.Nat.{ℕ, suc, ◌+◌, ◌-◌, ◌≤◌, min}
use mathlib.Core.Path.{◌≡◌, sym, ◌∙◌, ap}
use mathlib.Core.Logic.{⊎_elim}
use mathlib.Core.Bool.{Bool, true, false, not, ◌&&◌, ◌||◌, true≢false}
use mathlib.Core.List.{List, [], ◌∷◌}
use native.Mathlib.Nat.{min-le_left, min-le_right}
use native.Mathlib.Omega.{arith}
use lib.ListN.{length}
use borrow.Author.Tests.{eq-eqb, not-true}
use Rattle.std.proofs.lemmas.Bool.{and_parts, false_from_ne_true, or_cases, or_right}
use Rattle.message.specs.Class.{class_of, is_start, is_space}
use Rattle.message.specs.Reading.{is_whole, is, byte_at, has, word_at}
use Rattle.message.specs.Reading.Reading.{whole}
use Rattle.message.specs.Markup as markup
use Rattle.message.specs.Markup.{declares}
use Rattle.message.specs.Words.{codes}
use Rattle.message.specs.Limits.{Limits}
use Rattle.message.specs.Elements.{part}
use Rattle.message.specs.Readable.{Spelled}
use Rattle.message.specs.Due.{Declares, Opening, doctype, cdata, instruction}
use Rattle.message.proofs.Laws.{and_true, or_true, has_in, has_lt, one_yes}
use Rattle.message.proofs.Runs.{has_known}
use Rattle.message.proofs.Bytes.{bang_no_start, question_no_start}
use Rattle.message.proofs.Parts.{part_length, part_some}
use Rattle.message.proofs.Facts.{whole_is}
use Rattle.message.proofs.Words.{word_first, word_ends, word_within, word_part}
use Rattle.laws.proofs.Tests.{not_both}
use Rattle.message.proofs.Automaton.{Ground}
use Rattle.message.proofs.Dues.{is_first, opening}

module _ (s : List ℕ) where
  pub word_spelled : (w : List ℕ) (p e : ℕ) → word_at w s p ≡ whole e → p ≤ length s → Spelled w s p
  word_spelled w p e q within =
      ap (part s p) (sym (word_ends s w p e q)) ∙ (word_part s w p e q (word_within s w p e q within)).1

  pub spelled_word : (w : List ℕ) (p : ℕ) → Spelled w s p → word_at w s p ≡ whole (p + length w)
  unfolding word_at
  spelled_word [] p h = let none : p ≡ p + 0 = omega arith in ap whole none
  spelled_word (b ∷ w) p h =
      let many : suc (length w) ≡ min (p + suc (length w)) (length s) - p = sym (ap length h) ∙ part_length s p (p + suc (length w)) in
      let within : p + suc (length w) ≤ length s =
      omega (arith, many, min-le_right (p + suc (length w)) (length s), min-le_left (p + suc (length w)) (length s)) in
      let split = sym (part_some s p (p + suc (length w)) (omega arith) within) ∙ h in
      let first : byte_at s p ≡ b = cc in
      let others : part s (p + 1) (p + suc (length w)) ≡ w = cc in
      let far : p + 1 + length w ≡ p + suc (length w) = omega arith in
      let stands : has (is b) s p ≡ true = has_in (is b) s p (omega arith) ∙ eq-eqb (byte_at s p) b first in
      rw (one_yes (is b) s p stands) (spelled_word w (p + 1) (ap (part s (p + 1)) far ∙ others) ∙ ap whole far)

  -- the first byte of a word that stands there
  pub spelled_first : (b : ℕ) (w : List ℕ) (p : ℕ) → Spelled (b ∷ w) s p → has (is b) s p ≡ true
  spelled_first b w p h = (word_first s b w p (p + length (b ∷ w)) (spelled_word (b ∷ w) p h)).0

  -- ---- the declaration

  declares_is : Declares s → declares class_of s ≡ true
  declares_is d = rw (ap is_whole (spelled_word markup.xml 0 d.0)) d.1

  is_declares : declares class_of s ≡ true → Declares s
  is_declares h =
      let x = whole_is (word_at markup.xml s 0) (and_parts (is_whole (word_at markup.xml s 0)) (has (is_space class_of) s 5) h).0 in
      (word_spelled markup.xml 0 x.0 x.1 (omega arith), (and_parts (is_whole (word_at markup.xml s 0)) (has (is_space class_of) s 5) h).1)

  -- ---- the openings of 12, by their words and by what is due in a state

  module _ (l : Limits) (g : Ground) (p : ℕ) where
    two_on : p + 1 + 1 ≡ p + 2
    two_on = omega arith

    bang : (w : List ℕ) → has (is 60) s p ≡ true → has (is 33) s (p + 1) ≡ true → is_whole (word_at w s (p + 2)) ≡ true
        → Spelled (60 ∷ 33 ∷ w) s p
    unfolding word_at
    bang w tag b h =
        let x = whole_is (word_at w s (p + 2)) h in
        word_spelled (60 ∷ 33 ∷ w) p x.0 (rw (one_yes (is 60) s p tag, one_yes (is 33) s (p + 1) b, two_on) x.1)
        (omega (arith, has_lt (is 60) s p tag))

    question : has (is 60) s p ≡ true → has (is 63) s (p + 1) ≡ true → Spelled (codes "<?") s p
    unfolding word_at
    question tag mark =
        word_spelled (codes "<?") p (p + 1 + 1) (rw (one_yes (is 60) s p tag, one_yes (is 63) s (p + 1) mark))
        (omega (arith, has_lt (is 60) s p tag))

    abbrev words : Bool
    words = is_whole (word_at markup.doctype s (p + 2)) || is_whole (word_at markup.cdata s (p + 2))

    abbrev banging : Bool
    banging = has (is 33) s (p + 1) && words

    abbrev asking : Bool
    asking = has (is 63) s (p + 1) && not (is_first g && declares class_of s)

    pub opening_stands : (p ≡ 0 → is_first g ≡ true) → has (is 60) s p ≡ true → opening l s g p ≡ true → Opening s p
    opening_stands start tag h = ⊎_elim banged questioned (or_cases banging asking h)
      where
        banged : banging ≡ true → Opening s p
        banged b =
            let mark = (and_parts (has (is 33) s (p + 1)) words b).0 in
            ⊎_elim (λ d. doctype (bang markup.doctype tag mark d)) (λ c. cdata (bang markup.cdata tag mark c))
            (or_cases (is_whole (word_at markup.doctype s (p + 2))) (is_whole (word_at markup.cdata s (p + 2)))
            (and_parts (has (is 33) s (p + 1)) words b).1)

        questioned : asking ≡ true → Opening s p
        questioned b =
            let mark = (and_parts (has (is 63) s (p + 1)) (not (is_first g && declares class_of s)) b).0 in
            let plain = not-true (is_first g && declares class_of s)
            (and_parts (has (is 63) s (p + 1)) (not (is_first g && declares class_of s)) b).1 in
            instruction (question tag mark)
            (λ none d. true≢false (sym (sym (and_true (declares class_of s) (start none)) ∙ declares_is d) ∙ plain))

    pub stands_opening : (is_first g ≡ true → p ≡ 0) → Opening s p → (has (is 60) s p ≡ true) × (opening l s g p ≡ true)
    stands_opening start (doctype h) =
        let x = word_first s 60 (33 ∷ markup.doctype) p (p + 9) (spelled_word (60 ∷ 33 ∷ markup.doctype) p h) in
        let y = word_first s 33 markup.doctype (p + 1) (p + 9) x.1 in
        (x.0, rw (y.0, ap is_whole (ap (word_at markup.doctype s) (sym two_on) ∙ y.1)))
    stands_opening start (cdata h) =
        let x = word_first s 60 (33 ∷ markup.cdata) p (p + 9) (spelled_word (60 ∷ 33 ∷ markup.cdata) p h) in
        let y = word_first s 33 markup.cdata (p + 1) (p + 9) x.1 in (
          x.0,
          sym (or_true asking (sym (and_true words y.0) ∙ or_right (is_whole (word_at markup.doctype s (p + 2))) _ (ap is_whole (ap (word_at markup.cdata s) (sym two_on) ∙ y.1)))),
        )
    stands_opening start (instruction h other) =
        let x = word_first s 60 (63 ∷ []) p (p + 2) (spelled_word (codes "<?") p h) in
        let y = word_first s 63 [] (p + 1) (p + 2) x.1 in (
          x.0,
          or_right banging _ (sym (and_true (not (is_first g && declares class_of s)) y.0)
              ∙ not_both (is_first g) (λ f. false_from_ne_true (declares class_of s) (λ d. other (start f) (is_declares d)))),
        )

    -- no name begins behind the `<` of an opening
    pub opening_no_start : opening l s g p ≡ true → has (is_start class_of) s (p + 1) ≡ true → ⊥
    opening_no_start h start =
        ⊎_elim (λ b. other 33 bang_no_start (and_parts (has (is 33) s (p + 1)) words b).0)
        (λ b. other 63 question_no_start (and_parts (has (is 63) s (p + 1)) (not (is_first g && declares class_of s)) b).0)
        (or_cases banging asking h)
      where
        other : (b : ℕ) → is_start class_of b ≡ false → has (is b) s (p + 1) ≡ true → ⊥
        other b no_start stands = true≢false (sym start ∙ has_known b s (p + 1) stands (is_start class_of) ∙ no_start)
