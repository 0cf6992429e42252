-- What the letters of a value mean, one by one: each letter that is read ends past its place and within the message, so the loops over a value end,
-- and the fuel of its meaning is enough. Assumes nothing.
use Rattle.std.specs.Prelude.{Option, None, Some}
use Prim.Native.Nat.{ℕ, zero, suc, ◌+◌, ◌-◌, ◌*◌, ◌<◌, ◌≤◌}
use mathlib.Core.Path.{◌≡◌, refl, sym, ◌∙◌, ap}
use mathlib.Core.Logic.{◌⊎◌, ⊎_elim}
use mathlib.Core.Bool.{Bool, false}
use mathlib.Core.List.{List, [], ◌∷◌}
use native.Mathlib.Omega.{arith}
use lib.ListN.{length}
use lib.Dec.{eqb}
use Rattle.std.proofs.lemmas.List.{nil_from_length}
use borrow.Author.Tests.{lt-ltb, le-ltb, le-leb, lt-leb, eq-eqb, ne_eqb}
use Rattle.laws.specs.Bytes.{same_bytes}
use Rattle.message.specs.Class.{between}
use Rattle.message.specs.Reading.{Reading}
use Rattle.message.specs.Reading.Reading.{whole, refused}
use Rattle.message.specs.Characters.{Character}
use Rattle.message.proofs.Laws.{between_yes}
use Rattle.values.specs.Pieces.{behind}
use Rattle.message.specs.Values.{attribute_letter_at, attribute_meaning, means, decimal_from, number_from, decimal_of, number_of}

-- ---- a letter of an attribute's value, and what the letters behind it mean

module _ (class : ℕ → ℕ) (s : List ℕ) (to at : ℕ) where
  module _ (inside : at < to) where
    pub attribute_goes : {c : Character} → attribute_letter_at class s at ≡ whole c → (fuel : ℕ) → attribute_meaning class s (suc fuel) to at ≡ behind (Some c.code) (attribute_meaning class s fuel to c.end)
    unfolding attribute_meaning
    attribute_goes q fuel = rw (lt-ltb at to inside, q)

    pub attribute_stops : {n p : ℕ} → attribute_letter_at class s at ≡ refused n p → (fuel : ℕ) → attribute_meaning class s (suc fuel) to at ≡ refused n p
    unfolding attribute_meaning
    attribute_stops q fuel = rw (lt-ltb at to inside, q)

  pub attribute_ends : to ≤ at → (fuel : ℕ) → attribute_meaning class s (suc fuel) to at ≡ whole []
  unfolding attribute_meaning
  attribute_ends over fuel = rw (le-ltb at to over)

-- ---- What a loop over the letters keeps: it judges what they mean, j being what is left to be judged by, from a place on. With some fuel that is
-- enough it comes to the answer. There is fuel for one turn even where none is left.

pub record Judged {J B : Type 0} (judge : J → Reading (List ℕ) → B) (n : ℕ) (reads : ℕ → ℕ → Reading (List ℕ)) (answer : B) (j : J) (at : ℕ) : Type 0 where
  pub fuel : ℕ
  pub enough : n ≤ fuel + at
  pub comes : judge j (reads (suc fuel) at) ≡ answer

module _ {J B : Type 0} {judge : J → Reading (List ℕ) → B} {n : ℕ} {reads : ℕ → ℕ → Reading (List ℕ)} {answer : B} {j : J} {at : ℕ} (judged : Judged judge n reads answer j at) where
  -- one step of the reader further on, to be judged by j'
  judged_on : (j' : J) {e : ℕ} → (at < e) × (e ≤ n) → ((fuel : ℕ) → judge j (reads (suc fuel) at) ≡ judge j' (reads fuel e)) → Judged judge n reads answer j' e
  judged_on j' {e} further goes = go judged.fuel judged.enough judged.comes
    where
      go : (fuel : ℕ) → n ≤ fuel + at → judge j (reads (suc fuel) at) ≡ answer → Judged judge n reads answer j' e
      go zero enough comes = absurd (omega arith)
      go (suc fuel) enough comes = record { fuel = fuel; enough = omega arith; comes = sym (goes (suc fuel)) ∙ comes }

  judged_done : {x : B} → ((fuel : ℕ) → judge j (reads (suc fuel) at) ≡ x) → x ≡ answer
  judged_done gives = sym (gives judged.fuel) ∙ judged.comes

-- ---- whether the letters are those of a word

next_same : (code : ℕ) (word : List ℕ) (others : Reading (List ℕ)) → means (code ∷ word) (behind (Some code) others) ≡ means word others
unfolding same_bytes
next_same code word (whole codes) = rw (eq-eqb code code refl)
next_same code word (refused number place) = refl

next_other : (code b : ℕ) (word : List ℕ) → (code ≡ b → ⊥) → (others : Reading (List ℕ)) → means (b ∷ word) (behind (Some code) others) ≡ false
unfolding same_bytes
next_other code b word h (whole codes) = rw (ne_eqb code b h)
next_other code b word h (refused number place) = refl

one_more : (code : ℕ) (others : Reading (List ℕ)) → means [] (behind (Some code) others) ≡ false
unfolding same_bytes
one_more code (whole codes) = refl
one_more code (refused number place) = refl

no_more : (word : List ℕ) → means word (whole []) ≡ eqb (length word) 0
unfolding same_bytes
no_more [] = refl
no_more (b ∷ word) = sym (ne_eqb (suc (length word)) 0 (λ e. omega arith))

module _ {n : ℕ} {reads : ℕ → ℕ → Reading (List ℕ)} {answer : Bool} {word : List ℕ} {at : ℕ} (spelled : Judged means n reads answer word at) where
  pub spelled_refused : {number place : ℕ} → ((fuel : ℕ) → reads (suc fuel) at ≡ refused number place) → false ≡ answer
  spelled_refused stops = judged_done spelled (λ fuel. ap (means word) (stops fuel))

  pub spelled_all : ((fuel : ℕ) → reads (suc fuel) at ≡ whole []) → eqb (length word) 0 ≡ answer
  spelled_all ends = judged_done spelled (λ fuel. ap (means word) (ends fuel) ∙ no_more word)

  -- past what means nothing
  pub spelled_past : {e : ℕ} → (at < e) × (e ≤ n) → ((fuel : ℕ) → reads (suc fuel) at ≡ reads fuel e) → Judged means n reads answer word e
  spelled_past further goes = judged_on spelled word further (λ fuel. ap (means word) (goes fuel))

  -- the next letter, whose number is the code
  module _ (code e : ℕ) (goes : (fuel : ℕ) → reads (suc fuel) at ≡ behind (Some code) (reads fuel e)) where
    read_as : {w : List ℕ} → word ≡ w → (fuel : ℕ) → means word (reads (suc fuel) at) ≡ means w (behind (Some code) (reads fuel e))
    read_as word_is fuel = ap (means word) (goes fuel) ∙ ap (λ (w : List ℕ). means w (behind (Some code) (reads fuel e))) word_is

    pub spelled_more : length word ≡ 0 → false ≡ answer
    spelled_more none = judged_done spelled (λ fuel. read_as (nil_from_length word none) fuel ∙ one_more code (reads fuel e))

    pub spelled_other : {b : ℕ} {rest : List ℕ} → word ≡ b ∷ rest → (code ≡ b → ⊥) → false ≡ answer
    spelled_other {b} {rest} word_is h = judged_done spelled (λ fuel. read_as word_is fuel ∙ next_other code b rest h (reads fuel e))

    pub spelled_same : {b : ℕ} {rest : List ℕ} → word ≡ b ∷ rest → code ≡ b → (at < e) × (e ≤ n) → Judged means n reads answer rest e
    spelled_same {rest = rest} word_is same further =
        judged_on spelled rest further (λ fuel. read_as (word_is ∙ ap (λ (b : ℕ). b ∷ rest) (sym same)) fuel ∙ next_same code rest (reads fuel e))

-- ---- the number that digits make, behind those that make m

module _ (m code : ℕ) where
  next_digit : 48 ≤ code → code ≤ 57 → m * 10 + (code - 48) ≤ 4294967295 → (others : Reading (List ℕ)) → number_from m (behind (Some code) others) ≡ number_from (m * 10 + (code - 48)) others
  unfolding decimal_from
  next_digit low high h (whole codes) = rw (between_yes 48 57 code low high, le-leb (m * 10 + (code - 48)) 4294967295 h)
  next_digit low high h (refused number place) = refl

  too_large : 48 ≤ code → code ≤ 57 → 4294967295 < m * 10 + (code - 48) → (others : Reading (List ℕ)) → number_from m (behind (Some code) others) ≡ None
  unfolding decimal_from
  too_large low high h (whole codes) = rw (between_yes 48 57 code low high, lt-leb (m * 10 + (code - 48)) 4294967295 h)
  too_large low high h (refused number place) = refl

  no_digit : between 48 57 code ≡ false → (others : Reading (List ℕ)) → number_from m (behind (Some code) others) ≡ None
  unfolding decimal_from
  no_digit h (whole codes) = rw h
  no_digit h (refused number place) = refl

module _ {n : ℕ} {reads : ℕ → ℕ → Reading (List ℕ)} {answer : Option ℕ} {m at : ℕ} (counted : Judged number_from n reads answer m at) where
  pub counted_refused : {number place : ℕ} → ((fuel : ℕ) → reads (suc fuel) at ≡ refused number place) → None ≡ answer
  counted_refused stops = judged_done counted (λ fuel. ap (number_from m) (stops fuel))

  pub counted_all : ((fuel : ℕ) → reads (suc fuel) at ≡ whole []) → Some m ≡ answer
  unfolding decimal_from
  counted_all ends = judged_done counted (λ fuel. ap (number_from m) (ends fuel))

  -- the next letter, whose number is the code
  module _ (code e : ℕ) (goes : (fuel : ℕ) → reads (suc fuel) at ≡ behind (Some code) (reads fuel e)) where
    pub counted_none : between 48 57 code ≡ false → None ≡ answer
    counted_none h = judged_done counted (λ fuel. ap (number_from m) (goes fuel) ∙ no_digit m code h (reads fuel e))

    pub counted_large : 48 ≤ code → code ≤ 57 → 4294967295 < m * 10 + (code - 48) → None ≡ answer
    counted_large low high h = judged_done counted (λ fuel. ap (number_from m) (goes fuel) ∙ too_large m code low high h (reads fuel e))

    pub counted_digit : 48 ≤ code → code ≤ 57 → m * 10 + (code - 48) ≤ 4294967295 → (at < e) × (e ≤ n) → Judged number_from n reads answer (m * 10 + (code - 48)) e
    counted_digit low high h further =
        judged_on counted (m * 10 + (code - 48)) further (λ fuel. ap (number_from m) (goes fuel) ∙ next_digit m code low high h (reads fuel e))

-- ---- A zero that leads others makes no number; otherwise all digits are counted from 0.

two_digits : (d : ℕ) (others : Reading (List ℕ)) → number_of (behind (Some 48) (behind (Some d) others)) ≡ None
unfolding decimal_of
two_digits d (whole codes) = refl
two_digits d (refused number place) = refl

not_zero : (code : ℕ) → (code ≡ 48 → ⊥) → (others : Reading (List ℕ)) → number_from 0 (behind (Some code) others) ≡ number_of (behind (Some code) others)
unfolding decimal_of
not_zero code h (whole []) = refl
not_zero code h (whole (d ∷ codes)) = rw (ne_eqb code 48 h)
not_zero code h (refused number place) = refl

module _ (class : ℕ → ℕ) (s : List ℕ) (to at : ℕ) where
  pub number_empty : to ≤ at → (fuel : ℕ) → None ≡ number_of (attribute_meaning class s (suc fuel) to at)
  unfolding decimal_of
  number_empty over fuel = sym (ap number_of (attribute_ends class s to at over fuel))

  leading_zero_lem : at < to → (fuel : ℕ) → number_of (behind (Some 48) (attribute_meaning class s fuel to at)) ≡ None
  unfolding attribute_meaning
  leading_zero_lem inside zero = refl
  leading_zero_lem inside (suc fuel) = go (attribute_letter_at class s at) refl
    where
      go : (a : Reading Character) → attribute_letter_at class s at ≡ a → number_of (behind (Some 48) (attribute_meaning class s (suc fuel) to at)) ≡ None
      go (whole c) q =
          ap (λ (a : Reading (List ℕ)). number_of (behind (Some 48) a)) (attribute_goes class s to at inside q fuel)
          ∙ two_digits c.code (attribute_meaning class s fuel to c.end)
      go (refused number place) q = ap (λ (a : Reading (List ℕ)). number_of (behind (Some 48) a)) (attribute_stops class s to at inside q fuel)

  -- the last letter is the first
  alone : to ≤ at → (code fuel : ℕ) → number_from 0 (behind (Some code) (attribute_meaning class s fuel to at)) ≡ number_of (behind (Some code) (attribute_meaning class s fuel to at))
  unfolding attribute_meaning decimal_of
  alone over code zero = refl
  alone over code (suc fuel) = rw (le-ltb at to over)

module _ (class : ℕ → ℕ) (s : List ℕ) (to at : ℕ) (inside : at < to) where
  pub number_refused : {number place : ℕ} → attribute_letter_at class s at ≡ refused number place → (fuel : ℕ) → None ≡ number_of (attribute_meaning class s (suc fuel) to at)
  number_refused q fuel = sym (ap number_of (attribute_stops class s to at inside q fuel))

  module _ {c : Character} (q : attribute_letter_at class s at ≡ whole c) (fuel : ℕ) where
    pub number_leading : c.code ≡ 48 → c.end < to → None ≡ number_of (attribute_meaning class s (suc fuel) to at)
    number_leading is_zero more =
        sym (
        ap number_of (attribute_goes class s to at inside q fuel)
        ∙ ap (λ (d : ℕ). number_of (behind (Some d) (attribute_meaning class s fuel to c.end))) is_zero
        ∙ leading_zero_lem class s to c.end more fuel)

    pub number_counted : ((c.code ≡ 48) × (to ≤ c.end)) ⊎ (c.code ≡ 48 → ⊥) → number_from 0 (attribute_meaning class s (suc fuel) to at) ≡ number_of (attribute_meaning class s (suc fuel) to at)
    number_counted cases =
        ap (number_from 0) (attribute_goes class s to at inside q fuel)
        ∙ ⊎_elim (λ w. alone class s to c.end w.1 c.code fuel) (λ h. not_zero c.code h (attribute_meaning class s fuel to c.end)) cases
        ∙ sym (ap number_of (attribute_goes class s to at inside q fuel))
