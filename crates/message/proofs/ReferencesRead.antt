-- What is read behind an `&` is a reference, so no other name or number is read there. Assumes nothing.
use Prim.Native.Nat.{ℕ, zero, suc, ◌+◌, ◌-◌, ◌*◌, ◌<◌}
use mathlib.Core.Path.{◌≡◌, refl, sym, ◌∙◌, ap, subst}
use mathlib.Core.Bool.{true}
use mathlib.Core.List.{List, [], ◌∷◌, ◌++◌}
use native.Mathlib.Omega.{arith}
use native.Mathlib.Decide.{dec_lt}
use lib.ListN.{length, length-append}
use lib.Dec.{leb, eqb}
use borrow.Author.Tests.{le-leb, lt-leb, eq-eqb}
use Rattle.std.proofs.lemmas.Bool.{and_parts, cond_both}
use Rattle.message.specs.Reading.{is, byte_at, has, one, word_at}
use Rattle.message.specs.Reading.Reading.{whole}
use Rattle.message.specs.Characters.{Character, legal, digit_of, is_digit, digits_at, closes, numbered_at, stands_at, predefined_at, reference_at}
use Rattle.message.specs.Text.{special_at}
use Rattle.message.specs.Words.{codes}
use Rattle.message.specs.Readable.{Spelled}
use Rattle.message.specs.Meanings.{Digit, Digits, Reference, ReferencesMean}
use Rattle.message.specs.Meanings.Digit.{figure, capital, small}
use Rattle.message.specs.Meanings.Digits.{first, further}
use Rattle.message.specs.Meanings.Reference.{less, greater, ampersand, apostrophe, quotation, decimal, hexadecimal}
use Rattle.message.proofs.Laws.{cond_true, has_in, has_lt, has_byte, one_has}
use Rattle.message.proofs.Digits.{hex_from, hex_capital, hex_small, digit_hex, digit_below}
use Rattle.message.proofs.Progress.{Every, every_on, every_so}
use Rattle.message.proofs.Words.{word_before, word_joined, word_ends}
use Rattle.message.proofs.Spelling.{word_spelled}
use Rattle.message.proofs.References.{reference_read}

-- ---- digits

same_digit : {base x y d e : ℕ} → x ≡ y → d ≡ e → Digit base y e → Digit base x d
same_digit p q digit = rw (p, q) digit

digit_is : (base x : ℕ) → is_digit base x ≡ true → Digit base x (digit_of x)
digit_is base x h =
    let hex = digit_hex x base h in
    let below = digit_below x base h in
    elim (dec_lt 57 x) [
      | no k ↦
          let d : digit_of x ≡ x - 48 = rw (le-leb x 57 (omega arith)) in
          let low = hex_from x hex in
          same_digit (omega arith) d (figure (x - 48) (omega arith) (omega arith))
      | yes k ↦
          elim (dec_lt 70 x) [
            | no j ↦
                let d : digit_of x ≡ x - 55 = rw (lt-leb x 57 k, le-leb x 70 (omega arith)) in
                let low = hex_capital x hex k in
                same_digit (omega arith) d (capital (x - 55) (omega arith) (omega arith))
            | yes j ↦
                let d : digit_of x ≡ x - 87 = rw (lt-leb x 57 k, lt-leb x 70 j) in
                let low = hex_small x hex j in
                same_digit (omega arith) d (small (x - 87) (omega arith) (omega arith))
          ]
    ]

module _ (s : List ℕ) where
  -- a word of one byte, and the one that stands there
  last : (x p : ℕ) → has (is x) s p ≡ true → word_at (x ∷ []) s p ≡ whole (p + 1)
  unfolding word_at
  last x p there = word_before s x [] p (p + 1) (p + 1) there refl refl

  itself : (p : ℕ) → p < length s → has (is (byte_at s p)) s p ≡ true
  itself p inside = has_in (is (byte_at s p)) s p inside ∙ eq-eqb (byte_at s p) (byte_at s p) refl

  -- ---- numbers

  module _ (base from : ℕ) where
    -- from the place on stand the digits of the number, up to where it ends
    abbrev Counted : Character → Type 0
    Counted c = (word : List ℕ) × Digits base c.code word × (word_at word s from ≡ whole c.end)

    counted : (fuel n p : ℕ) (word : List ℕ) → Digits base n word → word_at word s from ≡ whole p → Every Counted (digits_at fuel base n s p)
    unfolding digits_at
    counted zero n p word digits q = tt
    counted (suc fuel) n p word digits q =
        let x = byte_at s p in
        cond_both (has (is_digit base) s p) _ _ (Every Counted)
        (λ t. cond_both (leb (n * base + digit_of x) 1114111) _ _ (Every Counted)
        (λ u. counted fuel (n * base + digit_of x) (p + 1) (word ++ (x ∷ [])) (further x (digit_of x) (digit_is base x (has_byte (is_digit base) s p t)) digits)
        (word_joined s word (x ∷ []) from p (p + 1) q (last x p (itself p (has_lt (is_digit base) s p t)))))
        (λ u. tt))
        (λ t. (word, digits, q))

    counted_first : (fuel : ℕ) → has (is_digit base) s from ≡ true → Every Counted (digits_at (suc fuel) base 0 s from)
    unfolding digits_at
    counted_first fuel t =
        let x = byte_at s from in
        let one_digit : Digits base (digit_of x) (x ∷ []) = first x (digit_of x) (digit_is base x (has_byte (is_digit base) s from t)) in
        let none : digit_of x ≡ 0 * base + digit_of x = omega arith in
        cond_both (has (is_digit base) s from) _ _ (Every Counted)
        (λ u. cond_both (leb (0 * base + digit_of x) 1114111) _ _ (Every Counted)
        (λ v. counted fuel (0 * base + digit_of x) (from + 1) (x ∷ []) (subst (λ (n : ℕ). Digits base n (x ∷ [])) none one_digit)
        (last x from (itself from (has_lt (is_digit base) s from t))))
        (λ v. tt))
        (λ u. cc)

    -- with the `;` behind them
    abbrev Numbered : Character → Type 0
    Numbered c = (word : List ℕ) × Digits base c.code word × (legal c.code ≡ true) × (word_at (word ++ codes ";") s from ≡ whole c.end)

    numbered : Every Numbered (numbered_at base s from)
    unfolding numbered_at
    numbered =
        every_on Numbered _ (one (is_digit base) s from) (λ i q.
        every_on Numbered _ (digits_at (suc (length s)) base 0 s from) (λ number r.
        every_on Numbered _ (one (closes number.code) s number.end) (λ e u.
        let digit = one_has (is_digit base) s from i q in
        let c = subst (Every Counted) r (counted_first (length s) digit.0) in
        let close = one_has (closes number.code) s number.end e u in
        let both = has_byte (closes number.code) s number.end close.0 in
        let stands : has (is 59) s number.end ≡ true =
        has_in (is 59) s number.end (has_lt (closes number.code) s number.end close.0)
        ∙ (and_parts (eqb (byte_at s number.end) 59) (legal number.code) both).0 in (
          c.0,
          c.1,
          (and_parts (eqb (byte_at s number.end) 59) (legal number.code) both).1,
          word_joined s c.0 (codes ";") from number.end e c.2 (last 59 number.end stands ∙ ap whole (sym close.1)),
        ))))

  -- ---- from the `&` on

  module _ (at : ℕ) (opens : has (is 38) s at ≡ true) where
    abbrev Refers : Character → Type 0
    Refers = Reference s at

    -- what was read stands there, and ends where it does
    stood : (word : List ℕ) (c e : ℕ) → (Spelled word s at → Refers (record { end = at + length word; code = c })) → word_at word s at ≡ whole e
        → Refers (record { end = e; code = c })
    stood word c e make q =
        subst (λ (k : ℕ). Refers (record { end = k; code = c })) (sym (word_ends s word at e q))
        (make (word_spelled s word at e q (omega (arith, has_lt (is 38) s at opens))))

    -- the rest of a name, behind what has been read of it
    by_name : (word rest : List ℕ) (p c : ℕ) → ((e : ℕ) → word_at rest s p ≡ whole e → word_at word s at ≡ whole e)
        → (Spelled word s at → Refers (record { end = at + length word; code = c })) → Every Refers (stands_at rest c s p)
    unfolding stands_at
    by_name word rest p c all make = every_on Refers _ (word_at rest s p) (λ e q. stood word c e make (all e q))

    module _ (i : ℕ) (on : i ≡ at + 1) where
      named : Every Refers (predefined_at s i)
      unfolding predefined_at
      named =
          cond_both (has (is 108) s i) _ _ (Every Refers)
          (λ t. by_name (codes "&lt;") (codes "lt;") i 60 (λ e. word_before s 38 (codes "lt;") at i e opens on) less) (λ t.
          cond_both (has (is 103) s i) _ _ (Every Refers)
          (λ u. by_name (codes "&gt;") (codes "gt;") i 62 (λ e. word_before s 38 (codes "gt;") at i e opens on) greater) (λ u.
          cond_both (has (is 113) s i) _ _ (Every Refers)
          (λ v. by_name (codes "&quot;") (codes "quot;") i 34 (λ e. word_before s 38 (codes "quot;") at i e opens on) quotation) (λ v.
          every_on Refers _ (one (is 97) s i) (λ j q.
          let a = one_has (is 97) s i j q in
          cond_both (has (is 109) s j) _ _ (Every Refers)
          (λ w. by_name (codes "&amp;") (codes "mp;") j 38
          (λ e r. word_before s 38 (codes "amp;") at i e opens on (word_before s 97 (codes "mp;") i j e a.0 a.1 r)) ampersand)
          (λ w. by_name (codes "&apos;") (codes "pos;") j 39
          (λ e r. word_before s 38 (codes "apos;") at i e opens on (word_before s 97 (codes "pos;") i j e a.0 a.1 r)) apostrophe)))))

      in_decimal : has (is 35) s i ≡ true → Every Refers (numbered_at 10 s (i + 1))
      in_decimal hash =
          every_so (Numbered 10 (i + 1)) Refers (λ c n.
          let tail = n.0 ++ codes ";" in
          let far : at + length (codes "&#" ++ tail) ≡ at + (3 + length n.0) = omega (arith, length-append n.0 (codes ";")) in
          stood (codes "&#" ++ tail) c.code c.end
          (λ h. subst (λ (k : ℕ). Refers (record { end = k; code = c.code })) (sym far) (decimal c.code n.0 n.1 n.2 h))
          (word_before s 38 (35 ∷ tail) at i c.end opens on (word_before s 35 tail i (i + 1) c.end hash refl n.3)))
          (numbered_at 10 s (i + 1)) (numbered 10 (i + 1))

      in_hexadecimal : has (is 35) s i ≡ true → has (is 120) s (i + 1) ≡ true → Every Refers (numbered_at 16 s (i + 2))
      in_hexadecimal hash ex =
          every_so (Numbered 16 (i + 2)) Refers (λ c n.
          let tail = n.0 ++ codes ";" in
          let far : at + length (codes "&#x" ++ tail) ≡ at + (4 + length n.0) = omega (arith, length-append n.0 (codes ";")) in
          stood (codes "&#x" ++ tail) c.code c.end
          (λ h. subst (λ (k : ℕ). Refers (record { end = k; code = c.code })) (sym far) (hexadecimal c.code n.0 n.1 n.2 h))
          (word_before s 38 (35 ∷ 120 ∷ tail) at i c.end opens on
          (word_before s 35 (120 ∷ tail) i (i + 1) c.end hash refl (word_before s 120 tail (i + 1) (i + 2) c.end ex (omega arith) n.3))))
          (numbered_at 16 s (i + 2)) (numbered 16 (i + 2))

    refers : Every Refers (reference_at s at)
    unfolding reference_at
    refers =
        every_on Refers _ (one (is 38) s at) (λ i q.
        let on = (one_has (is 38) s at i q).1 in
        cond_both (has (is 35) s i) _ _ (Every Refers)
        (λ hash. cond_both (has (is 120) s (i + 1)) _ _ (Every Refers) (in_hexadecimal i on hash) (λ plain. in_decimal i on hash))
        (λ plain. named i on))

read_reference : (s : List ℕ) (at : ℕ) (c : Character) → has (is 38) s at ≡ true → special_at s at ≡ whole c → Reference s at c
unfolding special_at
read_reference s at c opens q = subst (Every (Reference s at)) (cond_true _ opens ∙ q) (refers s at opens)

pub references_mean : ReferencesMean
references_mean s at c = record { read = read_reference s at c; reads = reference_read s at }
