-- Every reference is read: the five names, and numbers in decimal and in hexadecimal. Assumes nothing.
use Prim.Native.Nat.{ℕ, suc, ◌+◌, ◌-◌, ◌*◌, ◌<◌, ◌≤◌}
use mathlib.Core.Path.{◌≡◌, refl, sym, ◌∙◌, ap}
use mathlib.Core.Bool.{true, false, cond}
use mathlib.Core.List.{List, [], ◌∷◌, ◌++◌}
use native.Mathlib.Omega.{arith}
use lib.ListN.{length, length-append}
use borrow.Author.Tests.{le-leb, lt-leb, ne_eqb}
use Rattle.std.proofs.lemmas.Bool.Decides.{nat_tests}
use Rattle.message.specs.Reading.{Reading, is, has, word_at}
use Rattle.message.specs.Reading.Reading.{whole}
use Rattle.message.specs.Characters.{Character, legal, digit_of, is_digit, digits_at, closes, numbered_at, stands_at, predefined_at, reference_at}
use Rattle.message.specs.Text.{special_at}
use Rattle.message.specs.Words.{codes}
use Rattle.message.specs.Readable.{Spelled}
use Rattle.message.specs.Meanings.{Digit, Digits, Reference}
use Rattle.message.specs.Meanings.Digit.{figure, capital, small}
use Rattle.message.specs.Meanings.Digits.{first, further}
use Rattle.message.specs.Meanings.Reference.{less, greater, ampersand, apostrophe, quotation, decimal, hexadecimal}
use Rattle.message.proofs.Laws.{has_lt, one_yes}
use Rattle.message.proofs.Runs.{has_known, byte_is}
use Rattle.message.proofs.Words.{word_first}
use Rattle.message.proofs.Legal.{legal_small}
use Rattle.message.proofs.Spelling.{spelled_word}

-- ---- digits

-- a digit by its byte: it is one, and counts for d
abbrev Counts : ℕ → ℕ → ℕ → Type 0
Counts base x d = (is_digit base x ≡ true) × (digit_of x ≡ d)

-- from its place among the hexadecimal digits and what it counts for
counts : (base x d : ℕ) → d < base → 48 ≤ x → x ≤ 102 → (57 < x → 65 ≤ x) → (70 < x → 97 ≤ x) → digit_of x ≡ d → Counts base x d
counts base x d below low high upper lower same = grind (arith, nat_tests)

digit_counts : {base x d : ℕ} → base ≤ 16 → Digit base x d → Counts base x d
digit_counts {base} fits (figure d ten below) =
    counts base (48 + d) d below (omega arith) (omega arith) (λ h. absurd (omega arith)) (λ h. absurd (omega arith))
    (rw (le-leb (48 + d) 57 (omega arith)) (omega arith))
digit_counts {base} fits (capital d ten below) =
    counts base (55 + d) d below (omega arith) (omega arith) (λ h. omega arith) (λ h. absurd (omega arith))
    (rw (lt-leb (55 + d) 57 (omega arith), le-leb (55 + d) 70 (omega arith)) (omega arith))
digit_counts {base} fits (small d ten below) =
    counts base (87 + d) d below (omega arith) (omega arith) (λ h. omega arith) (λ h. omega arith)
    (rw (lt-leb (87 + d) 57 (omega arith), lt-leb (87 + d) 70 (omega arith)) (omega arith))

-- a number begins with a digit
abbrev Leads : ℕ → List ℕ → Type 0
Leads base word = (x : ℕ) × (rest : List ℕ) × (d : ℕ) × (word ≡ x ∷ rest) × Digit base x d

leads : {base n : ℕ} {word : List ℕ} → Digits base n word → Leads base word
leads (first x d digit) = (x, [], d, refl, digit)
leads (further x d digit before) =
    let lead = leads before in
    (lead.0, lead.1 ++ (x ∷ []), lead.2, ap (λ (word : List ℕ). word ++ (x ∷ [])) lead.3, lead.4)

-- a digit of ten is no `x`
no_x : {x d : ℕ} → Digit 10 x d → is 120 x ≡ false
no_x (figure d ten below) = ne_eqb (48 + d) 120 (λ same. omega arith)
no_x (capital d ten below) = absurd (omega arith)
no_x (small d ten below) = absurd (omega arith)

abbrev character : ℕ → ℕ → Reading Character
character e c = whole (record { end = e; code = c })

module _ (s : List ℕ) where
  -- a word that is read is read part by part
  word_parts : (w v : List ℕ) (p e : ℕ) → word_at (w ++ v) s p ≡ whole e
      → (word_at w s p ≡ whole (p + length w)) × (word_at v s (p + length w) ≡ whole e)
  unfolding word_at
  word_parts [] v p e q = let none : p ≡ p + 0 = omega arith in (ap whole none, ap (word_at v s) (sym none) ∙ q)
  word_parts (b ∷ w) v p e q =
      let x = word_first s b (w ++ v) p e q in
      let more = word_parts w v (p + 1) e x.1 in
      let far : p + 1 + length w ≡ p + suc (length w) = omega arith in
      (rw (one_yes (is b) s p x.0) (more.0 ∙ ap whole far), ap (word_at v s) (sym far) ∙ more.1)

  -- ---- numbers

  -- the first digit of one that stands there
  begins : {base n : ℕ} {word : List ℕ} → Digits base n word → (v : List ℕ) (p e : ℕ) → word_at (word ++ v) s p ≡ whole e
      → (x : ℕ) × (d : ℕ) × Digit base x d × (has (is x) s p ≡ true)
  begins digits v p e q =
      let lead = leads digits in
      let there = (word_first s lead.0 (lead.1 ++ v) p e (ap (λ (w : List ℕ). word_at (w ++ v) s p) (sym lead.3) ∙ q)).0 in
      (lead.0, lead.2, lead.4, there)

  module _ (base : ℕ) (fits : base ≤ 16) (grows : (n : ℕ) → n ≤ n * base) where
    -- one digit more makes the number m
    digits_on : (fuel n m p x d : ℕ) → Digit base x d → n * base + d ≡ m → m ≤ 1114111 → has (is x) s p ≡ true
        → digits_at (suc fuel) base n s p ≡ digits_at fuel base m s (p + 1)
    unfolding digits_at
    digits_on fuel n m p x d digit makes room there =
        let c = digit_counts fits digit in
        rw (has_known x s p there (is_digit base) ∙ c.0, ap digit_of (byte_is x s p there) ∙ c.1, makes, le-leb m 1114111 room)

    digits_end : (fuel n p : ℕ) → has (is 59) s p ≡ true → digits_at (suc fuel) base n s p ≡ character p n
    unfolding digits_at
    digits_end fuel n p there = rw (has_known 59 s p there (is_digit base))

    -- the digits of a number are gone through, whatever stands behind them
    digits_through : {n : ℕ} {word : List ℕ} → Digits base n word → n ≤ 1114111 → (p e : ℕ) → word_at word s p ≡ whole e → (fuel : ℕ)
        → digits_at (length word + fuel) base 0 s p ≡ digits_at fuel base n s (p + length word)
    digits_through (first x d digit) room p e q fuel =
        let fuels : 1 + fuel ≡ suc fuel = omega arith in
        ap (λ (f : ℕ). digits_at f base 0 s p) fuels ∙ digits_on fuel 0 d p x d digit (omega arith) room (word_first s x [] p e q).0
    digits_through (further {n} {word} x d digit before) room p e q fuel =
        let parts = word_parts word (x ∷ []) p e q in
        let far : p + length word + 1 ≡ p + length (word ++ (x ∷ [])) = omega (arith, length-append word (x ∷ [])) in
        let fuels : length (word ++ (x ∷ [])) + fuel ≡ length word + suc fuel = omega (arith, length-append word (x ∷ [])) in
        ap (λ (f : ℕ). digits_at f base 0 s p) fuels
        ∙ digits_through before (omega (arith, grows n)) p (p + length word) parts.0 (suc fuel)
        ∙ digits_on fuel n (n * base + d) (p + length word) x d digit refl room (word_first s x [] (p + length word) e parts.1).0
        ∙ ap (digits_at fuel base (n * base + d) s) far

    -- with the fuel that they are read with, up to a `;`
    digits_read : {n : ℕ} {word : List ℕ} → Digits base n word → n ≤ 1114111 → (p e : ℕ) → word_at word s p ≡ whole e
        → has (is 59) s (p + length word) ≡ true → digits_at (suc (length s)) base 0 s p ≡ character (p + length word) n
    digits_read {n} {word} digits room p e q closed =
        let left = length s - length word in
        let fuels : suc (length s) ≡ length word + suc left = omega (arith, has_lt (is 59) s (p + length word) closed) in
        ap (λ (f : ℕ). digits_at f base 0 s p) fuels
        ∙ digits_through digits room p e q (suc left)
        ∙ digits_end left n (p + length word) closed

    numbered : {n : ℕ} {word : List ℕ} → Digits base n word → legal n ≡ true → (p e : ℕ) → word_at (word ++ (59 ∷ [])) s p ≡ whole e
        → numbered_at base s p ≡ character (p + length word + 1) n
    unfolding numbered_at
    numbered {n} {word} digits fine p e q =
        let parts = word_parts word (59 ∷ []) p e q in
        let closed = (word_first s 59 [] (p + length word) e parts.1).0 in
        let lead = begins digits (59 ∷ []) p e q in
        let digit = has_known lead.0 s p lead.3 (is_digit base) ∙ (digit_counts fits lead.2).0 in
        let read = digits_read digits (legal_small n fine) p (p + length word) parts.0 closed in
        let ends = has_known 59 s (p + length word) closed (closes n) ∙ fine in
        rw (one_yes (is_digit base) s p digit, read, one_yes (closes n) s (p + length word) ends)

  -- ---- the five names

  module _ (i e : ℕ) where
    less_name : word_at (codes "lt;") s i ≡ whole e → predefined_at s i ≡ character e 60
    unfolding predefined_at stands_at
    less_name q = rw ((word_first s 108 (codes "t;") i e q).0, q)

    greater_name : word_at (codes "gt;") s i ≡ whole e → predefined_at s i ≡ character e 62
    unfolding predefined_at stands_at
    greater_name q =
        let there = (word_first s 103 (codes "t;") i e q).0 in
        rw (has_known 103 s i there (is 108), there, q)

    quotation_name : word_at (codes "quot;") s i ≡ whole e → predefined_at s i ≡ character e 34
    unfolding predefined_at stands_at
    quotation_name q =
        let there = (word_first s 113 (codes "uot;") i e q).0 in
        rw (has_known 113 s i there (is 108), has_known 113 s i there (is 103), there, q)

    -- `amp;` and `apos;` begin alike
    with_a : has (is 97) s i ≡ true
        → predefined_at s i ≡ cond (has (is 109) s (i + 1)) (stands_at (codes "mp;") 38 s (i + 1)) (stands_at (codes "pos;") 39 s (i + 1))
    unfolding predefined_at
    with_a there = rw (has_known 97 s i there (is 108), has_known 97 s i there (is 103), has_known 97 s i there (is 113), one_yes (is 97) s i there)

    ampersand_name : word_at (codes "amp;") s i ≡ whole e → predefined_at s i ≡ character e 38
    unfolding stands_at
    ampersand_name q =
        let x = word_first s 97 (codes "mp;") i e q in
        let y = word_first s 109 (codes "p;") (i + 1) e x.1 in
        with_a x.0 ∙ rw (y.0, x.1)

    apostrophe_name : word_at (codes "apos;") s i ≡ whole e → predefined_at s i ≡ character e 39
    unfolding stands_at
    apostrophe_name q =
        let x = word_first s 97 (codes "pos;") i e q in
        let y = word_first s 112 (codes "os;") (i + 1) e x.1 in
        with_a x.0 ∙ rw (has_known 112 s (i + 1) y.0 (is 109), x.1)

  -- ---- from the `&` on

  module _ (at : ℕ) where
    named : has (is 38) s at ≡ true → has (is 35) s (at + 1) ≡ false → special_at s at ≡ predefined_at s (at + 1)
    unfolding special_at reference_at
    named opens plain = rw (opens, one_yes (is 38) s at opens, plain)

    in_decimal : has (is 38) s at ≡ true → has (is 35) s (at + 1) ≡ true → has (is 120) s (at + 1 + 1) ≡ false
        → special_at s at ≡ numbered_at 10 s (at + 1 + 1)
    unfolding special_at reference_at
    in_decimal opens hash plain = rw (opens, one_yes (is 38) s at opens, hash, plain)

    in_hexadecimal : has (is 38) s at ≡ true → has (is 35) s (at + 1) ≡ true → has (is 120) s (at + 1 + 1) ≡ true
        → special_at s at ≡ numbered_at 16 s (at + 1 + 2)
    unfolding special_at reference_at
    in_hexadecimal opens hash ex = rw (opens, one_yes (is 38) s at opens, hash, ex)

    -- by a name whose first letter is b, which the reader after `&` reads as c
    by_name : (b : ℕ) (w : List ℕ) (c : ℕ) → is 35 b ≡ false → ((i e : ℕ) → word_at (b ∷ w) s i ≡ whole e → predefined_at s i ≡ character e c)
        → Spelled (38 ∷ b ∷ w) s at → special_at s at ≡ character (at + length (38 ∷ b ∷ w)) c
    by_name b w c other name h =
        let e = at + length (38 ∷ b ∷ w) in
        let x = word_first s 38 (b ∷ w) at e (spelled_word s (38 ∷ b ∷ w) at h) in
        let y = word_first s b w (at + 1) e x.1 in
        named x.0 (has_known b s (at + 1) y.0 (is 35) ∙ other) ∙ name (at + 1) e x.1

    by_decimal : (n : ℕ) (word : List ℕ) → Digits 10 n word → legal n ≡ true → Spelled (codes "&#" ++ (word ++ codes ";")) s at
        → special_at s at ≡ character (at + (3 + length word)) n
    by_decimal n word digits fine h =
        let tail = word ++ codes ";" in
        let e = at + length (codes "&#" ++ tail) in
        let x = word_first s 38 (35 ∷ tail) at e (spelled_word s (38 ∷ 35 ∷ tail) at h) in
        let y = word_first s 35 tail (at + 1) e x.1 in
        let lead = begins digits (codes ";") (at + 1 + 1) e y.1 in
        in_decimal x.0 y.0 (has_known lead.0 s (at + 1 + 1) lead.3 (is 120) ∙ no_x lead.2)
        ∙ numbered 10 (omega arith) (λ m. omega arith) digits fine (at + 1 + 1) e y.1
        ∙ ap (λ (p : ℕ). character p n) (omega arith)

    by_hexadecimal : (n : ℕ) (word : List ℕ) → Digits 16 n word → legal n ≡ true → Spelled (codes "&#x" ++ (word ++ codes ";")) s at
        → special_at s at ≡ character (at + (4 + length word)) n
    by_hexadecimal n word digits fine h =
        let tail = word ++ codes ";" in
        let e = at + length (codes "&#x" ++ tail) in
        let x = word_first s 38 (35 ∷ 120 ∷ tail) at e (spelled_word s (38 ∷ 35 ∷ 120 ∷ tail) at h) in
        let y = word_first s 35 (120 ∷ tail) (at + 1) e x.1 in
        let z = word_first s 120 tail (at + 1 + 1) e y.1 in
        let on : at + 1 + 1 + 1 ≡ at + 1 + 2 = omega arith in
        in_hexadecimal x.0 y.0 z.0
        ∙ numbered 16 (omega arith) (λ m. omega arith) digits fine (at + 1 + 2) e (ap (word_at tail s) (sym on) ∙ z.1)
        ∙ ap (λ (p : ℕ). character p n) (omega arith)

    pub reference_read : {c : Character} → Reference s at c → special_at s at ≡ whole c
    reference_read (less h) = by_name 108 (codes "t;") 60 refl less_name h
    reference_read (greater h) = by_name 103 (codes "t;") 62 refl greater_name h
    reference_read (ampersand h) = by_name 97 (codes "mp;") 38 refl ampersand_name h
    reference_read (apostrophe h) = by_name 97 (codes "pos;") 39 refl apostrophe_name h
    reference_read (quotation h) = by_name 113 (codes "uot;") 34 refl quotation_name h
    reference_read (decimal n word digits fine h) = by_decimal n word digits fine h
    reference_read (hexadecimal n word digits fine h) = by_hexadecimal n word digits fine h
