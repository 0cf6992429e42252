-- LAWS on the word that a line is or begins with, and on the number behind it. Assumes nothing.
use Rattle.std.specs.Prelude.{Option, None, Some, nat_eq}
use mathlib.Core.Path.{◌≡◌, refl, sym, ap, ◌∙◌}
use mathlib.Core.Bool.{Bool, true, ◌&&◌}
use mathlib.Core.List.{List, [], ◌∷◌}
use Prim.Native.Nat.{ℕ, ◌≤◌, zero-le}
use native.Mathlib.Omega.{arith}
use lib.Dec.{leb, eqb}
use lib.ListN.{length, take, length-take}
use lib.Pointwise.{pointwise, bytes_decides}
use lib.Seq.{take_all}
use borrow.Author.Tests.{eqb-true, eq-eqb}
use Rattle.std.proofs.lemmas.Bool.{and_parts, cond_both}
use Rattle.laws.proofs.Tails.{same_refl, same_eq}
use Rattle.laws.proofs.Tests.{iff_same}
use Rattle.message.specs.Words.{codes}
use Rattle.conduct.specs.declared.Call.{Call}
use Rattle.replay.specs.declared.script.Line.{Line}
use Rattle.replay.specs.declared.script.Line.TheVariants as lines
use Rattle.std.specs.List.{list_all}
use Rattle.conduct.specs.Lists.{all}
use Rattle.replay.specs.Script.{is_digit, is_word, begins, behind, or_else, ticks_of, figure_behind, an_interval, some_resends, numbered_of, worded_of, line_of, bytes_of_word}

-- a line that is the same as a word
pub equal_words : (line word : List ℕ) → pointwise nat_eq line word ≡ is_word word line
equal_words line word = iff_same _ _ same equal
  where
    same : pointwise nat_eq line word ≡ true → is_word word line ≡ true
    same h = rw ((bytes_decides line word).0 h, eq-eqb (length word) (length word) refl, take_all (length word) word (omega arith)) (same_refl word)

    equal : is_word word line ≡ true → pointwise nat_eq line word ≡ true
    equal h =
        let size : length line ≡ length word = eqb-true _ _ (and_parts (eqb (length line) (length word)) _ h).0 in
        let word_is : take (length word) line ≡ word = same_eq _ _ (and_parts (eqb (length line) (length word)) _ h).1 in
        (bytes_decides line word).1 (sym (take_all (length word) line (omega (arith, size))) ∙ word_is)

-- std's test of all bytes, for digits
pub list_all_is : (text : List ℕ) → list_all is_digit text ≡ all is_digit text
list_all_is [] = refl
list_all_is (d ∷ text) = ap (λ (t : Bool). is_digit d && t) (list_all_is text)

pub begins_long : (word line : List ℕ) → begins word line ≡ true → length word ≤ length line
begins_long word line is =
    omega (arith, ap length (same_eq (take (length word) line) word is), length-take (length word) line)

-- ---- what holds of each line that a word with a number can stand for

pub by_number : {A : Type 0} (P : A → Type 0) (x : Option ℕ) (of : ℕ → A) (other : A) → ((n : ℕ) → x ≡ Some n → P (of n))
    → (x ≡ None → P other) → P (or_else x of other)
by_number P None of other each rest = rest refl
by_number P (Some n) of other each rest = each n refl

module _ (P : Line → Type 0) (line : List ℕ) where
  pub numbered_each : ((n : ℕ) → figure_behind (codes "interval ") line ≡ Some n → P (an_interval n))
      → ((n : ℕ) → figure_behind (codes "resends ") line ≡ Some n → P (some_resends n))
      → ((n : ℕ) → P (lines.Ticks n)) → ((c : Call) → P (lines.Other c)) → ((n : ℕ) → P (lines.Last n))
      → P lines.Bad → P (numbered_of line)
  unfolding numbered_of
  numbered_each interval resends ticks other last bad =
      by_number P (figure_behind (codes "interval ") line) an_interval _ interval
      (λ _. by_number P (figure_behind (codes "resends ") line) some_resends _ resends
      (λ _. by_number P (behind (codes "tick ") line) ticks_of _
      (λ n _. cond_both (leb 1 n && leb n 1000000) _ _ P (λ _. ticks n) (λ _. bad))
      (λ _. by_number P (behind (codes "push ") line) _ _ (λ n _. other _)
      (λ _. by_number P (behind (codes "advise ") line) _ _ (λ n _. other _)
      (λ _. by_number P (behind (codes "unreadable ") line) _ _ (λ n _. other _)
      (λ _. by_number P (behind (codes "last ") line) _ _ (λ n _. last n) (λ _. bad)))))))

  -- and of each line at all
  pub line_each : P lines.Nothing → ((n : ℕ) → P (lines.Ticks n)) → ((c : Call) → P (lines.Other c))
      → (begins (codes "message ") line ≡ true → P lines.Message) → P (worded_of line) → P (line_of line)
  unfolding line_of
  line_each nothing ticks other message worded =
      cond_both (eqb (length line) 0) _ _ P (λ _. nothing)
      (λ _. cond_both (is_word (codes "tick") line) _ _ P (λ _. ticks 1)
      (λ _. cond_both (is_word (codes "connected") line) _ _ P (λ _. other _)
      (λ _. cond_both (is_word (codes "lost") line) _ _ P (λ _. other _)
      (λ _. cond_both (is_word (codes "stop") line) _ _ P (λ _. other _)
      (λ _. cond_both (begins (codes "message ") line) _ _ P message (λ _. worded))))))

-- ---- a line that is a message has the bytes of its word

worded_short : (line : List ℕ) → bytes_of_word (worded_of line) ≤ 0
unfolding worded_of
worded_short line =
    cond_both (is_word (codes "conduct new") line) _ _ Short (λ _. zero-le)
    (λ _. cond_both (is_word (codes "conduct old") line) _ _ Short (λ _. zero-le)
    (λ _. numbered_each Short line (λ n _. zero-le) (λ n _. zero-le) (λ n. zero-le) (λ c. zero-le) (λ n. zero-le) zero-le))
  where
    Short : Line → Type 0
    Short l = bytes_of_word l ≤ 0

pub word_within : (line : List ℕ) → bytes_of_word (line_of line) ≤ length line
word_within line =
    line_each Within line zero-le (λ n. zero-le) (λ c. zero-le) (λ is. begins_long (codes "message ") line is) (omega (arith, worded_short line))
  where
    Within : Line → Type 0
    Within l = bytes_of_word l ≤ length line
