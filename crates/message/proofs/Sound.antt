-- What holds in every state that the machine comes to: its names are made of bytes of names and colons, and no byte that it waits for is a
-- `<`. Assumes nothing.
use Prim.Native.Nat.{ℕ, zero, suc, ◌<◌}
use mathlib.Core.Path.{◌≡◌, refl, subst}
use mathlib.Core.Bool.{Bool, true, false, cond, not, ◌&&◌}
use mathlib.Core.List.{List, [], ◌∷◌, ◌++◌}
use native.Mathlib.Omega.{arith}
use lib.ListN.{length}
use lib.Dec.{ltb}
use Rattle.std.proofs.lemmas.Bool.{cond_both}
use Rattle.std.proofs.lemmas.Bool.Decides.{nat_tests}
use Rattle.message.specs.Class.{class_of, between, is_start, is_name, is_space, is_text, is_plain_note}
use Rattle.message.specs.Reading.{is, is_quote, byte_at}
use Rattle.message.specs.Characters.{second_of_three, is_digit, closes}
use Rattle.message.specs.Elements.{is_known}
use Rattle.message.specs.Limits.{Limits}
use Rattle.message.specs.Readable.{NameLike, EachNameLike}
use Rattle.message.proofs.Laws.{on_either}
use Rattle.message.proofs.Bytes.{quote_no_tag, Letter, name_letter, start_letter, colon_letter}
use Rattle.message.proofs.Automaton.{Test, exact, Ground, first, before, behind, inside, State, ground, opened, expect, blanks, declared, version_quote, encoding_quote, versioned, encoding_name, note, second, ampersand, ampersand_a, hash, first_digit, number, name, colon, in_tag, slash, attribute, attribute_colon, quote, value, close, Next, dead, goes, expecting, rest, after, closing, leads, special, text, between_tags, named, tag, step_note, base, digit, step_ampersand, step_blanks, step_in_tag, step_attribute, step}
use Rattle.message.proofs.Dues.{due, further, state_at, At}

-- ---- the states

-- none of the bytes that have to come is a `<`
abbrev Solid : List Test → Type 0
Solid [] = Unit {0}
Solid (t ∷ ts) = (t.passes 60 ≡ false) × Solid ts

abbrev SaneGround : Ground → Type 0
SaneGround first = Unit {0}
SaneGround before = Unit {0}
SaneGround behind = Unit {0}
SaneGround (inside b v o) = EachNameLike (v ∷ o)

abbrev pub Sane : State → Type 0
Sane (ground g) = SaneGround g
Sane (opened g) = SaneGround g
Sane (expect t ts k) = Solid (t ∷ ts) × Sane k
Sane (blanks t solid ts k) = Solid (t ∷ ts) × Sane k
Sane declared = Unit {0}
Sane version_quote = Unit {0}
Sane encoding_quote = Unit {0}
Sane (versioned spaced) = Unit {0}
Sane (encoding_name q) = is_quote q ≡ true
Sane (note h k) = Sane k
Sane (second lead k) = Sane k
Sane (ampersand k) = Sane k
Sane (ampersand_a k) = Sane k
Sane (hash k) = Sane k
Sane (first_digit hex k) = Sane k
Sane (number hex n small k) = Sane k
Sane (name t n o) = EachNameLike (n ∷ o)
Sane (colon n o) = EachNameLike (n ∷ o)
Sane (in_tag spaced n seen o) = EachNameLike (n ∷ o)
Sane (slash o) = EachNameLike o
Sane (attribute t a n seen o) = EachNameLike (n ∷ o)
Sane (attribute_colon a n seen o) = EachNameLike (n ∷ o)
Sane (quote n seen o) = EachNameLike (n ∷ o)
Sane (value q n seen o) = (is_quote q ≡ true) × EachNameLike (n ∷ o)
Sane (close y w fresh o) = EachNameLike ((y ∷ w) ∷ o)

abbrev SaneNext : Next → Type 0
SaneNext dead = Unit {0}
SaneNext (goes st) = Sane st

-- ---- tests

pub later_solid : (t : Bool) (low high : ℕ) → 60 < low → between (cond t low 128) high 60 ≡ false
later_solid t low high h = grind (arith, nat_tests)

-- ---- names

longer : (n : List ℕ) (x : ℕ) → NameLike n → Letter x → NameLike (n ++ (x ∷ []))
longer [] x h t = (t, tt)
longer (y ∷ n) x h t = (h.0, longer n x h.1 t)

-- ---- a step

expecting_sane : (ts : List Test) (k : State) → Solid ts → Sane k → Sane (expecting ts k)
expecting_sane [] k h so = so
expecting_sane (t ∷ ts) k h so = (h, so)

rest_sane : (g : Ground) → SaneGround g → SaneGround (rest g)
rest_sane first h = tt
rest_sane before h = tt
rest_sane behind h = tt
rest_sane (inside b v o) h = h

after_sane : (o : List (List ℕ)) → EachNameLike o → Sane (after o)
after_sane [] h = tt
after_sane (v ∷ o) h = h

closing_sane : (w : List ℕ) (fresh : Bool) (o : List (List ℕ)) → EachNameLike (w ∷ o) → Sane (closing w fresh o)
unfolding class_of
closing_sane [] fresh o h = ((refl, tt), after_sane o h.1)
closing_sane (y ∷ w) fresh o h = h

leads_sane : (k : State) (x : ℕ) → Sane k → SaneNext (leads k x)
leads_sane k x h = grind (arith, nat_tests)

special_sane : (k : State) (x : ℕ) → Sane k → SaneNext (special k x)
special_sane k x h = on_either SaneNext (is 38 x) h (leads_sane k x h)

text_sane : (b : ℕ) (v : List ℕ) (o : List (List ℕ)) (x : ℕ) → EachNameLike (v ∷ o) → SaneNext (text b v o x)
text_sane b v o x h = grind (arith, nat_tests)

between_sane : (g : Ground) (x : ℕ) → SaneGround g → SaneNext (between_tags g x)
between_sane first x h = on_either SaneNext (is_space class_of x) tt tt
between_sane before x h = on_either SaneNext (is_space class_of x) tt tt
between_sane behind x h = on_either SaneNext (is_space class_of x) tt tt
between_sane (inside b v o) x h = text_sane b v o x h

named_sane : (o : List (List ℕ)) (x : ℕ) → EachNameLike o → SaneNext (named o x)
named_sane o x h = cond_both (is_start class_of x) _ _ SaneNext (λ e. ((start_letter x e, tt), h)) (λ e. tt)

tag_sane : (g : Ground) (x : ℕ) → SaneGround g → SaneNext (tag g x)
tag_sane first x h = on_either SaneNext (is 63 x) ((refl, (refl, (refl, tt))), tt) (named_sane [] x tt)
tag_sane before x h = named_sane [] x tt
tag_sane behind x h = tt
tag_sane (inside b v o) x h = on_either SaneNext (is 47 x) (closing_sane v true o h) (named_sane (v ∷ o) x h)

note_sane : (h : ℕ) (k : State) (x : ℕ) → Sane k → SaneNext (step_note h k x)
note_sane zero k x so = on_either SaneNext (is 45 x) so (on_either SaneNext (is_plain_note class_of x) so (leads_sane (note 0 k) x so))
note_sane (suc zero) k x so = on_either SaneNext (is 45 x) so (on_either SaneNext (is_plain_note class_of x) so (leads_sane (note 0 k) x so))
note_sane (suc (suc h)) k x so = on_either SaneNext (is 62 x) so tt

digit_sane : (hex : Bool) (n : ℕ) (k : State) (x : ℕ) → Sane k → SaneNext (digit hex n k x)
digit_sane hex n k x h = grind (arith, nat_tests)

ampersand_sane : (k : State) (x : ℕ) → Sane k → SaneNext (step_ampersand k x)
ampersand_sane k x h =
    on_either SaneNext (is 35 x) h
    (on_either SaneNext (is 108 x) ((refl, (refl, tt)), h)
    (on_either SaneNext (is 103 x) ((refl, (refl, tt)), h)
    (on_either SaneNext (is 113 x) ((refl, (refl, (refl, (refl, tt)))), h) (on_either SaneNext (is 97 x) h tt))))

blanks_sane : (t : Test) (solid : is_space class_of t.sample ≡ false) (ts : List Test) (k : State) (x : ℕ) → Solid (t ∷ ts) → Sane k
    → SaneNext (step_blanks t solid ts k x)
blanks_sane t solid ts k x h so =
    on_either SaneNext (is_space class_of x) (h, so) (on_either SaneNext (t.passes x) (expecting_sane ts k h.1 so) tt)

in_tag_sane : (spaced : Bool) (n : List ℕ) (seen o : List (List ℕ)) (x : ℕ) → EachNameLike (n ∷ o) → SaneNext (step_in_tag spaced n seen o x)
in_tag_sane spaced n seen o x h =
    on_either SaneNext (is_space class_of x) h
    (on_either SaneNext (is 47 x) h.1 (on_either SaneNext (is 62 x) h (on_either SaneNext (spaced && is_start class_of x) h tt)))

attribute_sane : (t : Bool) (a n : List ℕ) (seen o : List (List ℕ)) (x : ℕ) → EachNameLike (n ∷ o) → SaneNext (step_attribute t a n seen o x)
unfolding class_of
attribute_sane t a n seen o x h =
    on_either SaneNext (is_name class_of x) h
    (on_either SaneNext (is 58 x && not t) h
    (on_either SaneNext (is_known a seen) tt (blanks_sane (exact 61) _ [] (quote n (a ∷ seen) o) x (refl, tt) h)))

next_sane : (st : State) (x : ℕ) → Sane st → SaneNext (step st x)
unfolding class_of
next_sane (ground g) x h = on_either SaneNext (is 60 x) h (between_sane g x h)
next_sane (opened g) x h = on_either SaneNext (is 33 x) ((refl, (refl, tt)), rest_sane g h) (tag_sane g x h)
next_sane (expect t ts k) x h = on_either SaneNext (t.passes x) (expecting_sane ts k h.0.1 h.1) tt
next_sane (blanks t solid ts k) x h = blanks_sane t solid ts k x h.0 h.1
next_sane declared x h =
    on_either SaneNext (is_space class_of x) ((refl, (refl, (refl, (refl, (refl, (refl, (refl, tt))))))), ((refl, tt), tt)) tt
next_sane version_quote x h =
    on_either SaneNext (is_space class_of x) tt
    (cond_both (is_quote x) _ _ SaneNext (λ e. ((refl, (refl, (refl, (quote_no_tag x e, tt)))), tt)) (λ e. tt))
next_sane encoding_quote x h = on_either SaneNext (is_space class_of x) tt (cond_both (is_quote x) _ _ SaneNext (λ e. e) (λ e. tt))
next_sane (versioned spaced) x h =
    on_either SaneNext (is_space class_of x) tt
    (on_either SaneNext (is 63 x) ((refl, tt), tt)
    (on_either SaneNext (spaced && is 101 x) ((refl, (refl, (refl, (refl, (refl, (refl, (refl, tt))))))), ((refl, tt), tt)) tt))
next_sane (encoding_name q) x h =
    on_either SaneNext (is 117 x) ((refl, (refl, (refl, (refl, (quote_no_tag q h, tt))))), ((refl, (refl, tt)), tt))
    (on_either SaneNext (is 85 x) ((refl, (refl, (refl, (refl, (quote_no_tag q h, tt))))), ((refl, (refl, tt)), tt)) tt)
next_sane (note hyphens k) x h = note_sane hyphens k x h
next_sane (second lead k) x h = on_either SaneNext (second_of_three lead x) ((refl, tt), h) tt
next_sane (ampersand k) x h = ampersand_sane k x h
next_sane (ampersand_a k) x h =
    on_either SaneNext (is 109 x) ((refl, (refl, tt)), h) (on_either SaneNext (is 112 x) ((refl, (refl, (refl, tt))), h) tt)
next_sane (hash k) x h = on_either SaneNext (is 120 x) h (on_either SaneNext (is_digit 10 x) (digit_sane false 0 k x h) tt)
next_sane (first_digit hex k) x h = on_either SaneNext (is_digit (base hex) x) (digit_sane hex 0 k x h) tt
next_sane (number hex n small k) x h =
    on_either SaneNext (is_digit (base hex) x) (digit_sane hex n k x h) (on_either SaneNext (closes n x) h tt)
next_sane (name t n o) x h =
    cond_both (is_name class_of x) _ _ SaneNext (λ e. (longer n x h.0 (name_letter x e), h.1))
    (λ e. on_either SaneNext (is 58 x && not t) (longer n 58 h.0 colon_letter, h.1) (in_tag_sane false n [] o x h))
next_sane (colon n o) x h = cond_both (is_start class_of x) _ _ SaneNext (λ e. (longer n x h.0 (start_letter x e), h.1)) (λ e. tt)
next_sane (in_tag spaced n seen o) x h = in_tag_sane spaced n seen o x h
next_sane (slash o) x h = on_either SaneNext (is 62 x) (after_sane o h) tt
next_sane (attribute t a n seen o) x h = attribute_sane t a n seen o x h
next_sane (attribute_colon a n seen o) x h = on_either SaneNext (is_start class_of x) h tt
next_sane (quote n seen o) x h = on_either SaneNext (is_space class_of x) h (cond_both (is_quote x) _ _ SaneNext (λ e. (e, h)) (λ e. tt))
next_sane (value q n seen o) x h =
    on_either SaneNext (is q x) h.1 (on_either SaneNext (is_text class_of x) h (special_sane (value q n seen o) x h))
next_sane (close y w fresh o) x h = on_either SaneNext (is y x) (closing_sane w (is 58 y) o (h.0.1, h.1)) tt

-- ---- many steps

module _ (l : Limits) (s : List ℕ) where
  further_sane : (n : Next) (i : ℕ) → SaneNext n → SaneNext (further l s n i)
  further_sane dead i h = tt
  further_sane (goes st) i h = on_either SaneNext (ltb i (length s) && not (due l s st i)) (next_sane st (byte_at s i) h) tt

  all_sane : (i : ℕ) → SaneNext (state_at l s i)
  unfolding state_at
  all_sane zero = tt
  all_sane (suc i) = further_sane (state_at l s i) i (all_sane i)

  pub sane_at : (i : ℕ) (st : State) → At l s st i → Sane st
  sane_at i st here = subst SaneNext here (all_sane i)
