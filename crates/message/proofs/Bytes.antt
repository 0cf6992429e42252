-- Single bytes, known by a test that they pass: which bytes they are not, and what else they pass or fail. Assumes nothing.
use Prim.Native.Nat.{ℕ}
use mathlib.Core.Path.{◌≡◌, refl, sym, ◌∙◌, ap, subst}
use mathlib.Core.Logic.{⊎_elim}
use mathlib.Core.Bool.{Bool, true, false, ◌||◌}
use mathlib.Core.List.{List}
use native.Mathlib.Omega.{arith}
use lib.Dec.{eqb}
use borrow.Author.Tests.{eqb-true, ne_eqb, leb-true, le-leb}
use Rattle.std.proofs.lemmas.Bool.{both_ways, or_cases}
use Rattle.std.proofs.lemmas.Bool.Decides.{nat_tests}
use Rattle.message.specs.Class.{class_of, is_start, is_name, is_space, is_text, is_plain, is_plain_note}
use Rattle.message.specs.Reading.{is, byte_at, has, is_quote}
use Rattle.message.specs.Elements.{ends_tag}
use Rattle.message.proofs.Laws.{has_in, has_lt, has_byte, or_true}

-- ---- any test

-- a byte that passes a test is none that fails it
pub other_than : (test : ℕ → Bool) (b : ℕ) → test b ≡ false → (x : ℕ) → test x ≡ true → is b x ≡ false
other_than test b fails x passes = ne_eqb x b (λ e. both_ways _ (ap test e ∙ fails) passes)

pub has_other : (test : ℕ → Bool) (b : ℕ) → test b ≡ false → (s : List ℕ) (i : ℕ) → has test s i ≡ true → has (is b) s i ≡ false
has_other test b fails s i h = has_in (is b) s i (has_lt test s i h) ∙ other_than test b fails (byte_at s i) (has_byte test s i h)

-- where each byte that passes one test fails another
pub has_fails : (f g : ℕ → Bool) → ((x : ℕ) → f x ≡ true → g x ≡ false) → (s : List ℕ) (i : ℕ) → has f s i ≡ true → has g s i ≡ false
has_fails f g fails s i h = has_in g s i (has_lt f s i h) ∙ fails (byte_at s i) (has_byte f s i h)

-- what holds of two bytes holds of each that is one of them
of_two : (P : ℕ → Type 0) (b c : ℕ) → P b → P c → (x : ℕ) → (eqb x b || eqb x c) ≡ true → P x
of_two P b c p q x h = ⊎_elim (λ e. subst P (sym (eqb-true x b e)) p) (λ e. subst P (sym (eqb-true x c e)) q) (or_cases (eqb x b) (eqb x c) h)

-- ---- bytes that are no white space

pub solid_equals : is_space class_of 61 ≡ false
unfolding class_of
solid_equals = refl

pub solid_greater : is_space class_of 62 ≡ false
unfolding class_of
solid_greater = refl

pub solid_question : is_space class_of 63 ≡ false
unfolding class_of
solid_question = refl

pub solid_v : is_space class_of 118 ≡ false
unfolding class_of
solid_v = refl

-- white space is no `<`
pub space_no_tag : (x : ℕ) → is_space class_of x ≡ true → is 60 x ≡ false
unfolding class_of
space_no_tag = other_than (is_space class_of) 60 refl

-- ---- bytes that begin no name

pub bang_no_start : is_start class_of 33 ≡ false
unfolding class_of
bang_no_start = refl

pub slash_no_start : is_start class_of 47 ≡ false
unfolding class_of
slash_no_start = refl

pub colon_no_start : is_start class_of 58 ≡ false
unfolding class_of
colon_no_start = refl

pub greater_no_start : is_start class_of 62 ≡ false
unfolding class_of
greater_no_start = refl

pub question_no_start : is_start class_of 63 ≡ false
unfolding class_of
question_no_start = refl

pub start_no_space : (x : ℕ) → is_start class_of x ≡ true → is_space class_of x ≡ false
start_no_space x h = ne_eqb (class_of x) 3 (λ e. omega (arith, eqb-true (class_of x) 5 h))

pub space_no_start : (x : ℕ) → is_space class_of x ≡ true → is_start class_of x ≡ false
space_no_start x h = ne_eqb (class_of x) 5 (λ e. omega (arith, eqb-true (class_of x) 3 h))

pub end_no_start : (x : ℕ) → ends_tag x ≡ true → is_start class_of x ≡ false
end_no_start = of_two (λ (x : ℕ). is_start class_of x ≡ false) 47 62 slash_no_start greater_no_start

-- ---- bytes of names

pub colon_no_name : is_name class_of 58 ≡ false
unfolding class_of
colon_no_name = refl

-- a byte of a name, or the colon in it
abbrev is_letter : ℕ → Bool
is_letter x = is_name class_of x || eqb x 58

abbrev pub Letter : ℕ → Type 0
Letter x = is_letter x ≡ true

pub name_letter : (x : ℕ) → is_name class_of x ≡ true → Letter x
name_letter x h = sym (or_true (eqb x 58) h)

pub start_letter : (x : ℕ) → is_start class_of x ≡ true → Letter x
start_letter x h = name_letter x (rw (eqb-true (class_of x) 5 h))

pub colon_letter : Letter 58
unfolding class_of
colon_letter = refl

pub letter_not : (b : ℕ) → is_letter b ≡ false → (x : ℕ) → Letter x → is b x ≡ false
letter_not = other_than is_letter

pub letter_solid : (x : ℕ) → Letter x → is_space class_of x ≡ false
unfolding class_of
letter_solid x h = grind (arith, nat_tests)

-- ---- quotation marks

pub quote_no_space : (q : ℕ) → is_quote q ≡ true → is_space class_of q ≡ false
unfolding class_of
quote_no_space = of_two (λ (q : ℕ). is_space class_of q ≡ false) 34 39 refl refl

pub quote_no_plain : (q : ℕ) → is_quote q ≡ true → is_plain class_of q ≡ false
unfolding class_of
quote_no_plain = of_two (λ (q : ℕ). is_plain class_of q ≡ false) 34 39 refl refl

-- none is a `<`
pub quote_no_tag : (q : ℕ) → is_quote q ≡ true → is q 60 ≡ false
quote_no_tag = of_two (λ (q : ℕ). is q 60 ≡ false) 34 39 refl refl

-- ---- plain bytes, of text and of comments

pub tag_no_plain : is_plain class_of 60 ≡ false
unfolding class_of
tag_no_plain = refl

pub bracket_no_plain : is_plain class_of 93 ≡ false
unfolding class_of
bracket_no_plain = refl

pub plain_text : (x : ℕ) → is_plain class_of x ≡ true → is_text class_of x ≡ true
plain_text x h = le-leb 1 (class_of x) (omega (arith, leb-true 2 (class_of x) h))

pub note_no_hyphen : (x : ℕ) → is_plain_note class_of x ≡ true → is 45 x ≡ false
note_no_hyphen x h = grind (arith, nat_tests)
