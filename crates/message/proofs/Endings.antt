-- Each state of the machine can be brought to an end: bytes are given that lead from it behind the root. Assumes nothing.
use Prim.Native.Nat.{ℕ, zero, suc, ◌+◌, ◌*◌, ◌<◌, ◌≤◌}
use mathlib.Core.Path.{◌≡◌, refl, sym, ◌∙◌}
use mathlib.Core.Bool.{Bool, true, false, cond}
use mathlib.Core.List.{List, [], ◌∷◌, ◌++◌}
use native.Mathlib.Omega.{arith}
use native.Mathlib.Decide.{dec_lt}
use lib.ListN.{length, length-append}
use lib.Dec.{ltb, leb, eqb}
use borrow.Author.Tests.{eq-eqb, eqb-true, eqb-false, ltb-true, ltb-false, leb-true, le-leb}
use Rattle.std.proofs.lemmas.Bool.{cond_both}
use Rattle.message.specs.Class.{class_of, is_space}
use Rattle.message.specs.Reading.{is}
use Rattle.message.specs.Characters.{legal, is_digit, digit_of}
use Rattle.message.specs.Elements.{is_known}
use Rattle.message.specs.Readable.{end_tags}
use Rattle.message.proofs.Legal.{legal_low, legal_over}
use Rattle.message.proofs.Parts.{other_length}
use Rattle.message.proofs.Automaton.{Test, exact, exactly, second_three, third_three, Ground, first, before, behind, inside, State, ground, opened, expect, blanks, declared, version_quote, encoding_quote, versioned, encoding_name, note, second, ampersand, ampersand_a, hash, first_digit, number, name, colon, in_tag, slash, attribute, attribute_colon, quote, value, close, goes, expecting, after, closing, declared_end, base, step, steps}
use Rattle.message.proofs.Ways.{steps_on, numbered_small}

-- ---- the bytes

-- `<a/>`
abbrev an_element : List ℕ
an_element = 60 ∷ 97 ∷ 47 ∷ 62 ∷ []

abbrev samples : List Test → List ℕ → List ℕ
samples [] u = u
samples (t ∷ ts) u = t.sample ∷ samples ts u

abbrev total : List (List ℕ) → ℕ
total [] = 0
total (n ∷ names) = length n + total names

-- `a` so often, then `=""/>` and the end tags
abbrev longer : ℕ → List (List ℕ) → List ℕ
longer zero o = 61 ∷ 34 ∷ 34 ∷ 47 ∷ 62 ∷ end_tags o
longer (suc m) o = 97 ∷ longer m o

abbrev finish_ground : Ground → List ℕ
finish_ground first = an_element
finish_ground before = an_element
finish_ground behind = []
finish_ground (inside b v o) = end_tags (v ∷ o)

abbrev finish_opened : Ground → List ℕ
finish_opened first = 97 ∷ 47 ∷ 62 ∷ []
finish_opened before = 97 ∷ 47 ∷ 62 ∷ []
finish_opened behind = 33 ∷ 45 ∷ 45 ∷ 45 ∷ 45 ∷ 62 ∷ []
finish_opened (inside b v o) = 47 ∷ (v ++ (62 ∷ end_tags o))

abbrev finish_note : ℕ → List ℕ → List ℕ
finish_note zero u = 45 ∷ 45 ∷ 62 ∷ u
finish_note (suc zero) u = 45 ∷ 62 ∷ u
finish_note (suc (suc h)) u = 62 ∷ u

-- `;` where the number is legal, otherwise behind digits that make it so
abbrev finish_number : ℕ → List ℕ → List ℕ
finish_number n u = cond (legal n) (59 ∷ u) (cond (eqb n 0) (57 ∷ 59 ∷ u) (cond (ltb n 32) (48 ∷ 48 ∷ 59 ∷ u) (48 ∷ 59 ∷ u)))

abbrev pub finish : State → List ℕ
finish (ground g) = finish_ground g
finish (opened g) = finish_opened g
finish (expect t ts k) = samples (t ∷ ts) (finish k)
finish (blanks t solid ts k) = samples (t ∷ ts) (finish k)
finish declared = 32 ∷ 118 ∷ 101 ∷ 114 ∷ 115 ∷ 105 ∷ 111 ∷ 110 ∷ 61 ∷ 34 ∷ 49 ∷ 46 ∷ 48 ∷ 34 ∷ 63 ∷ 62 ∷ an_element
finish version_quote = 34 ∷ 49 ∷ 46 ∷ 48 ∷ 34 ∷ 63 ∷ 62 ∷ an_element
finish encoding_quote = 34 ∷ 85 ∷ 84 ∷ 70 ∷ 45 ∷ 56 ∷ 34 ∷ 63 ∷ 62 ∷ an_element
finish (versioned spaced) = 63 ∷ 62 ∷ an_element
finish (encoding_name q) = 85 ∷ 84 ∷ 70 ∷ 45 ∷ 56 ∷ q ∷ 63 ∷ 62 ∷ an_element
finish (note h k) = finish_note h (finish k)
finish (second lead k) = (second_three lead).sample ∷ 128 ∷ finish k
finish (ampersand k) = 108 ∷ 116 ∷ 59 ∷ finish k
finish (ampersand_a k) = 109 ∷ 112 ∷ 59 ∷ finish k
finish (hash k) = 57 ∷ 59 ∷ finish k
finish (first_digit hex k) = 57 ∷ 59 ∷ finish k
finish (number hex n small k) = finish_number n (finish k)
finish (name t n o) = 47 ∷ 62 ∷ end_tags o
finish (colon n o) = 97 ∷ 47 ∷ 62 ∷ end_tags o
finish (in_tag spaced n seen o) = 47 ∷ 62 ∷ end_tags o
finish (slash o) = 62 ∷ end_tags o
finish (attribute t a n seen o) = longer (suc (total seen)) o
finish (attribute_colon a n seen o) = longer (suc (total seen)) o
finish (quote n seen o) = 34 ∷ 34 ∷ 47 ∷ 62 ∷ end_tags o
finish (value q n seen o) = q ∷ 47 ∷ 62 ∷ end_tags o
finish (close y w fresh o) = y ∷ (w ++ (62 ∷ end_tags o))

-- ---- they lead to the end

abbrev Ends : State → List ℕ → Type 0
Ends st u = steps st u ≡ goes (ground behind)

-- by a step
on : (st : State) {next : State} (x : ℕ) (u : List ℕ) → step st x ≡ goes next → Ends next u → Ends st (x ∷ u)
on st x u e h = steps_on st x u e ∙ h

ends_expecting : (ts : List Test) (k : State) (u : List ℕ) → Ends k u → Ends (expecting ts k) (samples ts u)
ends_expecting [] k u h = h
ends_expecting (t ∷ ts) k u h = on _ t.sample (samples ts u) (rw t.fits) (ends_expecting ts k u h)

ends_blanks : (t : Test) (solid : is_space class_of t.sample ≡ false) (ts : List Test) (k : State) (u : List ℕ) → Ends k u
    → Ends (blanks t solid ts k) (samples (t ∷ ts) u)
ends_blanks t solid ts k u h = on _ t.sample (samples ts u) (rw (solid, t.fits)) (ends_expecting ts k u h)

-- ---- end tags

ends_close : (w : List ℕ) (fresh : Bool) (o : List (List ℕ)) (u : List ℕ) → Ends (after o) u → Ends (closing w fresh o) (w ++ (62 ∷ u))
unfolding steps class_of
ends_close [] fresh o u h = h
ends_close (y ∷ w) fresh o u h = on (close y w fresh o) y (w ++ (62 ∷ u)) (rw (eq-eqb y y refl)) (ends_close w (is 58 y) o u h)

ends_after : (o : List (List ℕ)) → Ends (after o) (end_tags o)
unfolding steps class_of
ends_after [] = refl
ends_after (v ∷ o) = ends_close v true o (end_tags o) (ends_after o)

-- ---- the name of an attribute, which may stand already

not_known : (a : List ℕ) (seen : List (List ℕ)) → total seen < length a → is_known a seen ≡ false
not_known a [] h = refl
not_known a (n ∷ seen) h = rw (sym (other_length a n (λ e. absurd (omega arith)))) (not_known a seen (omega arith))

ends_attribute : (m : ℕ) (t : Bool) (a n : List ℕ) (seen o : List (List ℕ)) → total seen < length a + m
    → Ends (attribute t a n seen o) (longer m o)
unfolding steps class_of
ends_attribute zero t a n seen o h =
    on (attribute t a n seen o) {next = quote n (a ∷ seen) o} 61 (34 ∷ 34 ∷ 47 ∷ 62 ∷ end_tags o) (rw (not_known a seen (omega arith)))
    (ends_after o)
ends_attribute (suc m) t a n seen o h = ends_attribute m t (a ++ (97 ∷ [])) n seen o (omega (arith, length-append a (97 ∷ [])))

-- ---- a number

not_legal : (n : ℕ) → 32 ≤ n → n ≤ 1114111 → legal n ≡ false → (55296 ≤ n) × (n ≤ 65535)
not_legal n low high e = (
  elim (dec_lt n 55296) [ yes h ↦ absurd (clash (legal_low n low (omega arith))) | no h ↦ omega arith ],
  elim (dec_lt 65535 n) [ yes h ↦ absurd (clash (legal_over n (omega arith) high)) | no h ↦ omega arith ],
)
  where
    clash : legal n ≡ true → ⊥
    clash q = cc

module _ (k : State) (u : List ℕ) where
  -- with one more digit
  ends_digit : (hex : Bool) (n d : ℕ) (small : leb n 1114111 ≡ true) → is_digit (base hex) d ≡ true → n * base hex + digit_of d ≤ 1114111
      → ((e : leb (n * base hex + digit_of d) 1114111 ≡ true) → Ends (number hex (n * base hex + digit_of d) e k) u)
      → Ends (number hex n small k) (d ∷ u)
  ends_digit hex n d small is_digit h more =
      let went = numbered_small hex (n * base hex + digit_of d) k (leb (n * base hex + digit_of d) 1114111) refl
      (le-leb (n * base hex + digit_of d) 1114111 h) in
      on (number hex n small k) d u (rw is_digit went.1) (more went.0)

  ends_legal : (hex : Bool) (n : ℕ) (small : leb n 1114111 ≡ true) → legal n ≡ true → Ends k u → Ends (number hex n small k) (59 ∷ u)
  ends_legal hex n small e h = on (number hex n small k) 59 u (rw e) h

module _ (k : State) (u : List ℕ) (h : Ends k u) where
  ends_nine : (hex : Bool) (n : ℕ) (small : leb n 1114111 ≡ true) → n ≡ 0 → Ends (number hex n small k) (57 ∷ 59 ∷ u)
  ends_nine true n small z =
      ends_digit k (59 ∷ u) true n 57 small refl (omega arith)
      (λ e. ends_legal k u true (n * 16 + 9) e (rw (eq-eqb (n * 16 + 9) 9 (omega arith))) h)
  ends_nine false n small z =
      ends_digit k (59 ∷ u) false n 57 small refl (omega arith)
      (λ e. ends_legal k u false (n * 10 + 9) e (rw (eq-eqb (n * 10 + 9) 9 (omega arith))) h)

  ends_two : (hex : Bool) (n : ℕ) (small : leb n 1114111 ≡ true) → 1 ≤ n → n < 32 → Ends (number hex n small k) (48 ∷ 48 ∷ 59 ∷ u)
  ends_two true n small low high =
      ends_digit k (48 ∷ 59 ∷ u) true n 48 small refl (omega arith)
      (λ e. ends_digit k (59 ∷ u) true (n * 16 + 0) 48 e refl (omega arith)
      (λ e'. ends_legal k u true ((n * 16 + 0) * 16 + 0) e' (legal_low ((n * 16 + 0) * 16 + 0) (omega arith) (omega arith)) h))
  ends_two false n small low high =
      ends_digit k (48 ∷ 59 ∷ u) false n 48 small refl (omega arith)
      (λ e. ends_digit k (59 ∷ u) false (n * 10 + 0) 48 e refl (omega arith)
      (λ e'. ends_legal k u false ((n * 10 + 0) * 10 + 0) e' (legal_low ((n * 10 + 0) * 10 + 0) (omega arith) (omega arith)) h))

  ends_one : (hex : Bool) (n : ℕ) (small : leb n 1114111 ≡ true) → 55296 ≤ n → n ≤ 65535 → Ends (number hex n small k) (48 ∷ 59 ∷ u)
  ends_one true n small low high =
      ends_digit k (59 ∷ u) true n 48 small refl (omega arith)
      (λ e. ends_legal k u true (n * 16 + 0) e (legal_over (n * 16 + 0) (omega arith) (omega arith)) h)
  ends_one false n small low high =
      ends_digit k (59 ∷ u) false n 48 small refl (omega arith)
      (λ e. ends_legal k u false (n * 10 + 0) e (legal_over (n * 10 + 0) (omega arith) (omega arith)) h)

  ends_number : (hex : Bool) (n : ℕ) (small : leb n 1114111 ≡ true) → Ends (number hex n small k) (finish_number n u)
  ends_number hex n small =
      cond_both (legal n) _ _ (Ends (number hex n small k)) (λ e. ends_legal k u hex n small e h)
      (λ e. cond_both (eqb n 0) _ _ (Ends (number hex n small k)) (λ z. ends_nine hex n small (eqb-true n 0 z))
      (λ z. cond_both (ltb n 32) _ _ (Ends (number hex n small k)) (λ low. ends_two hex n small (omega (arith, nonzero z)) (ltb-true n 32 low))
      (λ low. let far = not_legal n (ltb-false n 32 low) (leb-true n 1114111 small) e in ends_one hex n small far.0 far.1)))
    where
      nonzero : eqb n 0 ≡ false → 1 ≤ n
      nonzero z = elim (dec_lt 0 n) [ yes q ↦ q | no q ↦ absurd (eqb-false n 0 z (omega arith)) ]

-- ---- all of them

ends_ground : (g : Ground) → Ends (ground g) (finish_ground g)
unfolding steps class_of
ends_ground first = refl
ends_ground before = refl
ends_ground behind = refl
ends_ground (inside b v o) = ends_close v true o (end_tags o) (ends_after o)

ends_opened : (g : Ground) → Ends (opened g) (finish_opened g)
unfolding steps class_of
ends_opened first = refl
ends_opened before = refl
ends_opened behind = refl
ends_opened (inside b v o) = ends_close v true o (end_tags o) (ends_after o)

ends_note : (h : ℕ) (k : State) (u : List ℕ) → Ends k u → Ends (note h k) (finish_note h u)
unfolding steps
ends_note zero k u e = e
ends_note (suc zero) k u e = e
ends_note (suc (suc h)) k u e = e

pub finishes : (st : State) → steps st (finish st) ≡ goes (ground behind)
unfolding steps class_of
finishes (ground g) = ends_ground g
finishes (opened g) = ends_opened g
finishes (expect t ts k) = ends_expecting (t ∷ ts) k (finish k) (finishes k)
finishes (blanks t solid ts k) = ends_blanks t solid ts k (finish k) (finishes k)
finishes declared = refl
finishes version_quote = refl
finishes encoding_quote = refl
finishes (versioned spaced) = refl
finishes (encoding_name q) = ends_expecting (exact 84 ∷ exactly (70 ∷ 45 ∷ 56 ∷ q ∷ [])) declared_end (63 ∷ 62 ∷ an_element) refl
finishes (note h k) = ends_note h k (finish k) (finishes k)
finishes (second lead k) =
    on (second lead k) {next = expect (third_three lead (second_three lead).sample) [] k} (second_three lead).sample (128 ∷ finish k)
    (rw (second_three lead).fits)
    (ends_expecting (third_three lead (second_three lead).sample ∷ []) k (finish k) (finishes k))
finishes (ampersand k) = finishes k
finishes (ampersand_a k) = finishes k
finishes (hash k) = finishes k
finishes (first_digit true k) = finishes k
finishes (first_digit false k) = finishes k
finishes (number hex n small k) = ends_number k (finish k) (finishes k) hex n small
finishes (name t n o) = ends_after o
finishes (colon n o) = ends_after o
finishes (in_tag spaced n seen o) = ends_after o
finishes (slash o) = ends_after o
finishes (attribute t a n seen o) = ends_attribute (suc (total seen)) t a n seen o (omega arith)
finishes (attribute_colon a n seen o) = ends_attribute (total seen) true (a ++ (97 ∷ [])) n seen o (omega (arith, length-append a (97 ∷ [])))
finishes (quote n seen o) = ends_after o
finishes (value q n seen o) =
    on (value q n seen o) {next = in_tag false n seen o} q (47 ∷ 62 ∷ end_tags o) (rw (eq-eqb q q refl)) (ends_after o)
finishes (close y w fresh o) = ends_close (y ∷ w) fresh o (end_tags o) (ends_after o)
