-- A machine that goes through a message byte by byte, with the names of the open elements. Each of its states can be brought to an end, so
-- the first byte on which it dies is the first that no continuation can follow. Assumes nothing.
use Prim.Native.Nat.{ℕ, zero, suc, ◌+◌, ◌*◌}
use mathlib.Core.Path.{◌≡◌, refl}
use mathlib.Core.Bool.{Bool, true, false, cond, not, ◌&&◌}
use mathlib.Core.List.{List, [], ◌∷◌, ◌++◌}
use native.Mathlib.Omega.{arith}
use lib.Dec.{leb, eqb}
use borrow.Author.Tests.{eq-eqb, eqb-true}
use Rattle.message.specs.Class.{class_of, between, is_start, is_name, is_space, is_text, is_plain_note}
use Rattle.message.specs.Reading.{is, is_quote}
use Rattle.message.specs.Characters.{later, second_of_three, third_of_three, second_of_four, is_digit, digit_of, closes}
use Rattle.message.specs.Elements.{is_known}
use Rattle.message.proofs.Laws.{between_yes}
use Rattle.message.proofs.Bytes.{solid_equals, solid_greater, solid_question, solid_v}

-- ---- bytes that have to come

-- a test of a byte, with a byte that passes it
pub record Test : Type 0 where
  pub passes : ℕ → Bool
  pub sample : ℕ
  pub fits : passes sample ≡ true

abbrev pub exact : ℕ → Test
exact b = record { passes = is b; sample = b; fits = eq-eqb b b refl }

abbrev pub exactly : List ℕ → List Test
exactly [] = []
exactly (b ∷ word) = exact b ∷ exactly word

abbrev pub later_test : Test
later_test = record { passes = later; sample = 128; fits = between_yes 128 191 128 (omega arith) (omega arith) }

-- the second of four bytes, and the second and the third of three
pub second_four_fits : (lead : ℕ) (t u : Bool) → eqb lead 240 ≡ t → eqb lead 244 ≡ u
    → between (cond t 144 128) (cond u 143 191) (cond t 144 128) ≡ true
second_four_fits lead true true e q = absurd (omega (arith, eqb-true lead 240 e, eqb-true lead 244 q))
second_four_fits lead true false e q = between_yes 144 191 144 (omega arith) (omega arith)
second_four_fits lead false true e q = between_yes 128 143 128 (omega arith) (omega arith)
second_four_fits lead false false e q = between_yes 128 191 128 (omega arith) (omega arith)

abbrev pub second_four : ℕ → Test
second_four lead = record {
  passes = second_of_four lead;
  sample = cond (eqb lead 240) 144 128;
  fits = second_four_fits lead (eqb lead 240) (eqb lead 244) refl refl;
}

pub second_three_fits : (lead : ℕ) (t u : Bool) → eqb lead 224 ≡ t → eqb lead 237 ≡ u
    → between (cond t 160 128) (cond u 159 191) (cond t 160 128) ≡ true
second_three_fits lead true true e q = absurd (omega (arith, eqb-true lead 224 e, eqb-true lead 237 q))
second_three_fits lead true false e q = between_yes 160 191 160 (omega arith) (omega arith)
second_three_fits lead false true e q = between_yes 128 159 128 (omega arith) (omega arith)
second_three_fits lead false false e q = between_yes 128 191 128 (omega arith) (omega arith)

abbrev pub second_three : ℕ → Test
second_three lead = record {
  passes = second_of_three lead;
  sample = cond (eqb lead 224) 160 128;
  fits = second_three_fits lead (eqb lead 224) (eqb lead 237) refl refl;
}

pub third_fits : (t : Bool) → between 128 (cond t 189 191) 128 ≡ true
third_fits true = between_yes 128 189 128 (omega arith) (omega arith)
third_fits false = between_yes 128 191 128 (omega arith) (omega arith)

abbrev pub third_three : ℕ → ℕ → Test
third_three lead x = record { passes = third_of_three lead x; sample = 128; fits = third_fits (eqb lead 239 && eqb x 191) }

-- ---- the states

-- Where markup may begin: at the very start of the message, before the root, behind it, or inside an element, with how many `]` stand just
-- before the place (two for more), its name, and the names of those around it, from the inside.
pub data Ground : Type 0 where
  first before behind : Ground
  inside : ℕ → List ℕ → List (List ℕ) → Ground

-- Where a state is the last argument of another, that is where the machine goes on behind it.
pub data State : Type 0 where
  ground : Ground → State
  -- behind a `<`
  opened : Ground → State
  -- bytes that have to come, and the same behind white space or none
  expect : Test → List Test → State → State
  blanks : (t : Test) → is_space class_of t.sample ≡ false → List Test → State → State
  -- the declaration: behind `<?xml`; before the version's quotation mark and behind its value, with white space or not; the same of the
  -- encoding's
  declared version_quote encoding_quote : State
  versioned : Bool → State
  encoding_name : ℕ → State
  -- a comment, with how many `-` stand just before the place
  note : ℕ → State → State
  -- the second of three bytes of a character
  second : ℕ → State → State
  -- a reference: behind `&`, `&a`, `&#`; before the first digit; behind a number that is not too great
  ampersand ampersand_a hash : State → State
  first_digit : Bool → State → State
  number : Bool → (n : ℕ) → leb n 1114111 ≡ true → State → State
  -- a start tag: in its name, whether in the second part; behind the colon; behind a name or a value, with white space or not, with the
  -- names of the attributes seen; behind the `/`
  name : Bool → List ℕ → List (List ℕ) → State
  colon : List ℕ → List (List ℕ) → State
  in_tag : Bool → List ℕ → List (List ℕ) → List (List ℕ) → State
  slash : List (List ℕ) → State
  -- an attribute: the same in its name; before its quotation mark; in its value
  attribute : Bool → List ℕ → List ℕ → List (List ℕ) → List (List ℕ) → State
  attribute_colon : List ℕ → List ℕ → List (List ℕ) → List (List ℕ) → State
  quote : List ℕ → List (List ℕ) → List (List ℕ) → State
  value : ℕ → List ℕ → List (List ℕ) → List (List ℕ) → State
  -- an end tag: the byte of the name that has to come, those behind it, and whether a part begins
  close : ℕ → List ℕ → Bool → List (List ℕ) → State

pub data Next : Type 0 where
  dead : Next
  goes : State → Next

-- ---- a step

abbrev pub only : Bool → State → Next
only t st = cond t (goes st) dead

abbrev pub expecting : List Test → State → State
expecting [] k = k
expecting (t ∷ ts) k = expect t ts k

-- behind a comment
abbrev pub rest : Ground → Ground
rest first = before
rest before = before
rest behind = behind
rest (inside b v o) = inside 0 v o

-- behind an element
abbrev pub after : List (List ℕ) → State
after [] = ground behind
after (v ∷ o) = ground (inside 0 v o)

-- what is left of an end tag's name, and the `>`
abbrev pub closing : List ℕ → Bool → List (List ℕ) → State
closing [] fresh o = blanks (exact 62) solid_greater [] (after o)
closing (y ∷ w) fresh o = close y w fresh o

abbrev pub comment : Ground → State
comment g = expect (exact 45) (exact 45 ∷ []) (note 0 (ground (rest g)))

-- `=` and the quotation mark
abbrev pub equals : State → State
equals k = blanks (exact 61) solid_equals [] k

abbrev pub version_word : State
version_word = blanks (exact 118) solid_v (exactly (101 ∷ 114 ∷ 115 ∷ 105 ∷ 111 ∷ 110 ∷ [])) (equals version_quote)

abbrev pub encoding_word : State
encoding_word = expect (exact 110) (exactly (99 ∷ 111 ∷ 100 ∷ 105 ∷ 110 ∷ 103 ∷ [])) (equals encoding_quote)

abbrev pub declared_end : State
declared_end = blanks (exact 63) solid_question (exact 62 ∷ []) (ground before)

-- a byte that begins a character of more than one, or a reference
abbrev pub leads : State → ℕ → Next
leads k x =
    cond (between 194 223 x) (goes (expect later_test [] k))
    (cond (between 224 239 x) (goes (second x k)) (only (between 240 244 x) (expect (second_four x) (later_test ∷ later_test ∷ []) k)))

abbrev pub special : State → ℕ → Next
special k x = cond (is 38 x) (goes (ampersand k)) (leads k x)

abbrev pub brackets : ℕ → ℕ
brackets zero = 1
brackets (suc b) = 2

abbrev pub text : ℕ → List ℕ → List (List ℕ) → ℕ → Next
text b v o x =
    cond (is 93 x) (goes (ground (inside (brackets b) v o)))
    (cond (is_text class_of x) (cond (eqb b 2 && is 62 x) dead (goes (ground (inside 0 v o)))) (special (ground (inside 0 v o)) x))

abbrev pub between_tags : Ground → ℕ → Next
between_tags first x = only (is_space class_of x) (ground before)
between_tags before x = only (is_space class_of x) (ground before)
between_tags behind x = only (is_space class_of x) (ground behind)
between_tags (inside b v o) x = text b v o x

abbrev pub named : List (List ℕ) → ℕ → Next
named o x = only (is_start class_of x) (name false (x ∷ []) o)

-- behind a `<`, no `!`
abbrev pub tag : Ground → ℕ → Next
tag first x = cond (is 63 x) (goes (expect (exact 120) (exactly (109 ∷ 108 ∷ [])) declared)) (named [] x)
tag before x = named [] x
tag behind x = dead
tag (inside b v o) x = cond (is 47 x) (goes (closing v true o)) (named (v ∷ o) x)

abbrev pub step_note : ℕ → State → ℕ → Next
step_note zero k x = cond (is 45 x) (goes (note 1 k)) (cond (is_plain_note class_of x) (goes (note 0 k)) (leads (note 0 k) x))
step_note (suc zero) k x = cond (is 45 x) (goes (note 2 k)) (cond (is_plain_note class_of x) (goes (note 0 k)) (leads (note 0 k) x))
step_note (suc (suc h)) k x = only (is 62 x) k

abbrev pub base : Bool → ℕ
base hex = cond hex 16 10

abbrev pub numbered : (hex : Bool) (n : ℕ) (t : Bool) → leb n 1114111 ≡ t → State → Next
numbered hex n true e k = goes (number hex n e k)
numbered hex n false e k = dead

abbrev pub digit : Bool → ℕ → State → ℕ → Next
digit hex n k x = numbered hex (n * base hex + digit_of x) (leb (n * base hex + digit_of x) 1114111) refl k

abbrev pub step_ampersand : State → ℕ → Next
step_ampersand k x =
    cond (is 35 x) (goes (hash k))
    (cond (is 108 x) (goes (expect (exact 116) (exact 59 ∷ []) k))
    (cond (is 103 x) (goes (expect (exact 116) (exact 59 ∷ []) k))
    (cond (is 113 x) (goes (expect (exact 117) (exactly (111 ∷ 116 ∷ 59 ∷ [])) k)) (only (is 97 x) (ampersand_a k)))))

abbrev pub step_blanks : (t : Test) → is_space class_of t.sample ≡ false → List Test → State → ℕ → Next
step_blanks t solid ts k x = cond (is_space class_of x) (goes (blanks t solid ts k)) (only (t.passes x) (expecting ts k))

abbrev pub step_in_tag : Bool → List ℕ → List (List ℕ) → List (List ℕ) → ℕ → Next
step_in_tag spaced n seen o x =
    cond (is_space class_of x) (goes (in_tag true n seen o))
    (cond (is 47 x) (goes (slash o))
    (cond (is 62 x) (goes (ground (inside 0 n o))) (only (spaced && is_start class_of x) (attribute false (x ∷ []) n seen o))))

abbrev pub step_attribute : Bool → List ℕ → List ℕ → List (List ℕ) → List (List ℕ) → ℕ → Next
step_attribute t a n seen o x =
    cond (is_name class_of x) (goes (attribute t (a ++ (x ∷ [])) n seen o))
    (cond (is 58 x && not t) (goes (attribute_colon (a ++ (58 ∷ [])) n seen o))
    (cond (is_known a seen) dead (step_blanks (exact 61) solid_equals [] (quote n (a ∷ seen) o) x)))

abbrev pub step : State → ℕ → Next
step (ground g) x = cond (is 60 x) (goes (opened g)) (between_tags g x)
step (opened g) x = cond (is 33 x) (goes (comment g)) (tag g x)
step (expect t ts k) x = only (t.passes x) (expecting ts k)
step (blanks t solid ts k) x = step_blanks t solid ts k x
step declared x = only (is_space class_of x) version_word
step version_quote x =
    cond (is_space class_of x) (goes version_quote)
    (only (is_quote x) (expect (exact 49) (exact 46 ∷ exact 48 ∷ exact x ∷ []) (versioned false)))
step encoding_quote x = cond (is_space class_of x) (goes encoding_quote) (only (is_quote x) (encoding_name x))
step (versioned spaced) x =
    cond (is_space class_of x) (goes (versioned true))
    (cond (is 63 x) (goes (expect (exact 62) [] (ground before))) (only (spaced && is 101 x) encoding_word))
step (encoding_name q) x =
    cond (is 117 x) (goes (expect (exact 116) (exactly (102 ∷ 45 ∷ 56 ∷ q ∷ [])) declared_end))
    (only (is 85 x) (expect (exact 84) (exactly (70 ∷ 45 ∷ 56 ∷ q ∷ [])) declared_end))
step (note h k) x = step_note h k x
step (second lead k) x = only (second_of_three lead x) (expect (third_three lead x) [] k)
step (ampersand k) x = step_ampersand k x
step (ampersand_a k) x =
    cond (is 109 x) (goes (expect (exact 112) (exact 59 ∷ []) k)) (only (is 112 x) (expect (exact 111) (exactly (115 ∷ 59 ∷ [])) k))
step (hash k) x = cond (is 120 x) (goes (first_digit true k)) (cond (is_digit 10 x) (digit false 0 k x) dead)
step (first_digit hex k) x = cond (is_digit (base hex) x) (digit hex 0 k x) dead
step (number hex n small k) x = cond (is_digit (base hex) x) (digit hex n k x) (only (closes n x) k)
step (name t n o) x =
    cond (is_name class_of x) (goes (name t (n ++ (x ∷ [])) o))
    (cond (is 58 x && not t) (goes (colon (n ++ (58 ∷ [])) o)) (step_in_tag false n [] o x))
step (colon n o) x = only (is_start class_of x) (name true (n ++ (x ∷ [])) o)
step (in_tag spaced n seen o) x = step_in_tag spaced n seen o x
step (slash o) x = only (is 62 x) (after o)
step (attribute t a n seen o) x = step_attribute t a n seen o x
step (attribute_colon a n seen o) x = only (is_start class_of x) (attribute true (a ++ (x ∷ [])) n seen o)
step (quote n seen o) x = cond (is_space class_of x) (goes (quote n seen o)) (only (is_quote x) (value x n seen o))
step (value q n seen o) x =
    cond (is q x) (goes (in_tag false n seen o)) (cond (is_text class_of x) (goes (value q n seen o)) (special (value q n seen o) x))
step (close y w fresh o) x = only (is y x) (closing w (is 58 y) o)

-- ---- the machine alone, from a state on

unfoldable pub steps : State → List ℕ → Next
steps st [] = goes st
steps st (x ∷ xs) = elim (step st x) [ dead ↦ dead | goes st' ↦ steps st' xs ]
