-- THEOREM `figures_by_their_words`: a line sets a figure exactly if it is its word and a number of any size behind it (specs/Settings). Assumes nothing.
use Rattle.std.specs.Prelude.{Option, None, Some}
use mathlib.Core.Path.{◌≡◌, refl, sym, ap, subst, ◌∙◌}
use mathlib.Core.Logic.{inl, inr}
use mathlib.Core.Bool.{true, false, ◌&&◌}
use mathlib.Core.List.{List, [], ◌∷◌, ◌++◌}
use Prim.Native.Nat.{ℕ, suc, ◌+◌, ◌-◌, ◌*◌}
use native.Mathlib.Omega.{arith}
use lib.Dec.{leb, eqb}
use lib.ListN.{length, take, drop, take-append-drop}
use lib.Seq.{take_at, drop_at}
use borrow.Author.Tests.{ne_eqb}
use Rattle.std.proofs.lemmas.Bool.{and_parts, and_right, cond_both}
use Rattle.laws.specs.Bytes.{same_bytes}
use Rattle.laws.proofs.Tails.{same_refl, same_eq}
use Rattle.message.proofs.Laws.{and_true}
use Rattle.message.specs.Class.{between}
use Rattle.message.specs.Words.{codes}
use Rattle.message.specs.Values.{leading_zero, decimal_from, decimal_of, number_flag, number_named}
use Rattle.conduct.specs.Lists.{all}
use Rattle.replay.specs.declared.script.Line.{Line}
use Rattle.replay.specs.declared.script.Line.TheVariants as lines
use Rattle.replay.specs.declared.script.Setting.{Setting}
use Rattle.replay.specs.declared.script.Setting.TheVariants as settings
use Rattle.replay.specs.Script.{is_word, begins, is_digit, is_decimal, figure_of, figure_behind, numbered_of, worded_of, line_of}
use Rattle.replay.proofs.Words.{by_number, numbered_each, line_each}
use Rattle.replay.specs.Settings.{Says, ByItsWord, FiguresByTheirWords}

-- ---- a number of 32 bits is one of any size

unnamed : {n : ℕ} → None ≡ Some n → ⊥
unnamed e = omega (arith, ap number_flag e)

digits_from : (n : ℕ) (text : List ℕ) {m : ℕ} → decimal_from n text ≡ Some m → all is_digit text ≡ true
unfolding decimal_from
digits_from n [] = λ _. refl
digits_from n (d ∷ text) {m} =
    let next : ℕ = n * 10 + (d - 48) in
    cond_both (between 48 57 d && leb next 4294967295) (decimal_from next text) None Digits
    (λ h e. sym (and_true (all is_digit text) (and_parts (between 48 57 d) (leb next 4294967295) h).0) ∙ digits_from next text e)
    (λ _ e. absurd (unnamed e))
  where
    Digits : Option ℕ → Type 0
    Digits x = x ≡ Some m → all is_digit (d ∷ text) ≡ true

is_decimal_lem : (text : List ℕ) {n : ℕ} → decimal_of text ≡ Some n → is_decimal text ≡ true
unfolding decimal_of
is_decimal_lem [] = λ e. absurd (unnamed e)
is_decimal_lem (d ∷ text) {n} =
    cond_both (leading_zero (d ∷ text)) None (decimal_from 0 (d ∷ text)) Decimal (λ _ e. absurd (unnamed e))
    (λ h e. rw h (digits_from 0 (d ∷ text) e))
  where
    Decimal : Option ℕ → Type 0
    Decimal x = x ≡ Some n → is_decimal (d ∷ text) ≡ true

-- ---- the figure that a text says

module _ (text : List ℕ) where
  figure_fits : {n : ℕ} → decimal_of text ≡ Some n → figure_of text ≡ Some n
  figure_fits e = rw e

  figure_too_long : decimal_of text ≡ None → is_decimal text ≡ true → figure_of text ≡ Some 4294967295
  figure_too_long e long = rw (e, long)

  figure_only : (n : ℕ) → figure_of text ≡ Some n → Says text n
  figure_only n =
      by_number Said (decimal_of text) Some _ (λ m e f. (is_decimal_lem text e, inl (e ∙ f)))
      (λ e. cond_both (is_decimal text) _ _ Said (λ h f. (h, inr (e, sym (ap number_named f)))) (λ _ f. absurd (unnamed f)))
    where
      Said : Option ℕ → Type 0
      Said x = x ≡ Some n → Says text n

-- ---- the word before it

module _ (word : List ℕ) where
  behind_word : (text : List ℕ) → figure_behind word (word ++ text) ≡ figure_of text
  behind_word text = rw (take_at word text (length word) refl, same_refl word, drop_at word text (length word) refl)

  word_before : (w : List ℕ) (n : ℕ) → figure_behind word w ≡ Some n → (text : List ℕ) × (w ≡ word ++ text) × Says text n
  word_before w n =
      cond_both (begins word w) (figure_of text) None Said (λ h e. (text, split h, figure_only text n e)) (λ _ e. absurd (unnamed e))
    where
      text : List ℕ
      text = drop (length word) w

      Said : Option ℕ → Type 0
      Said x = x ≡ Some n → (text : List ℕ) × (w ≡ word ++ text) × Says text n

      split : begins word w ≡ true → w ≡ word ++ drop (length word) w
      split h = sym (take-append-drop (length word) w) ∙ ap (λ (l : List ℕ). l ++ drop (length word) w) (same_eq (take (length word) w) word h)

-- ---- what a line says: each figure stands behind its own word

abbrev Heard : List ℕ → Setting → Type 0
Heard w (settings.Interval n) = figure_behind (codes "interval ") w ≡ Some n
Heard w (settings.Conduct conduct) = Unit
Heard w (settings.Resends n) = figure_behind (codes "resends ") w ≡ Some n

abbrev HeardIn : List ℕ → Line → Type 0
HeardIn w lines.Nothing = Unit
HeardIn w (lines.Set setting) = Heard w setting
HeardIn w (lines.Ticks count) = Unit
HeardIn w (lines.Other call) = Unit
HeardIn w lines.Message = Unit
HeardIn w (lines.Last last) = Unit
HeardIn w lines.Bad = Unit

heard_worded : (w : List ℕ) → HeardIn w (worded_of w)
unfolding worded_of
heard_worded w =
    cond_both (is_word (codes "conduct new") w) _ _ (HeardIn w) (λ _. tt)
    (λ _. cond_both (is_word (codes "conduct old") w) _ _ (HeardIn w) (λ _. tt)
    (λ _. numbered_each (HeardIn w) w (λ n e. e) (λ n e. e) (λ n. tt) (λ c. tt) (λ n. tt) tt))

heard : (w : List ℕ) → HeardIn w (line_of w)
heard w = line_each (HeardIn w) w tt (λ n. tt) (λ c. tt) (λ _. tt) (heard_worded w)

-- ---- and what a line is that begins as no other does: a word with a number

module _ (b : ℕ) (rest : List ℕ) where
  begins_not : (c : ℕ) (word : List ℕ) → eqb b c ≡ false → begins (c ∷ word) (b ∷ rest) ≡ false
  unfolding same_bytes
  begins_not c word e = rw e

  is_not : (c : ℕ) (word : List ℕ) → eqb b c ≡ false → is_word (c ∷ word) (b ∷ rest) ≡ false
  is_not c word e = and_right (eqb (length (b ∷ rest)) (length (c ∷ word))) _ (begins_not c word e)

  alone : eqb b 116 ≡ false → eqb b 99 ≡ false → eqb b 108 ≡ false → eqb b 115 ≡ false → eqb b 109 ≡ false
      → line_of (b ∷ rest) ≡ numbered_of (b ∷ rest)
  unfolding line_of worded_of
  alone t c l s m =
      rw (
        ne_eqb (suc (length rest)) 0 (λ e. omega arith),
        is_not 116 (codes "ick") t,
        is_not 99 (codes "onnected") c,
        is_not 108 (codes "ost") l,
        is_not 115 (codes "top") s,
        begins_not 109 (codes "essage ") m,
        is_not 99 (codes "onduct new") c,
        is_not 99 (codes "onduct old") c,
      )

interval_line : (text : List ℕ) (n : ℕ) → figure_of text ≡ Some n → line_of (codes "interval " ++ text) ≡ lines.Set (settings.Interval n)
unfolding numbered_of
interval_line text n e =
    alone 105 (codes "nterval " ++ text) refl refl refl refl refl
    ∙ rw (behind_word (codes "interval ") text ∙ e)

resends_line : (text : List ℕ) (n : ℕ) → figure_of text ≡ Some n → line_of (codes "resends " ++ text) ≡ lines.Set (settings.Resends n)
unfolding numbered_of
resends_line text n e =
    alone 114 (codes "esends " ++ text) refl refl refl refl refl
    ∙ rw (begins_not 114 (codes "esends " ++ text) 105 (codes "nterval ") refl, behind_word (codes "resends ") text ∙ e)

by_its_word : (word : List ℕ) (say : ℕ → Setting)
    → ((text : List ℕ) (n : ℕ) → figure_of text ≡ Some n → line_of (word ++ text) ≡ lines.Set (say n))
    → ((w : List ℕ) (n : ℕ) → Heard w (say n) → figure_behind word w ≡ Some n) → ByItsWord word say
by_its_word word say said own =
    record {
      fits = λ text n e. said text n (figure_fits text e);
      too_long = λ text e long. said text 4294967295 (figure_too_long text e long);
      only = λ w n e. word_before word w n (own w n (subst (HeardIn w) e (heard w)));
    }

pub figures_by_their_words : FiguresByTheirWords
figures_by_their_words = (
  by_its_word (codes "interval ") settings.Interval interval_line (λ w n e. e),
  by_its_word (codes "resends ") settings.Resends resends_line (λ w n e. e),
)
