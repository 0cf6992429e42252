-- No step leads back to the start of a message: the machine is in its first state there, and nowhere else. Assumes nothing.
use Prim.Native.Nat.{ℕ, zero, suc}
use mathlib.Core.Path.{◌≡◌, refl, sym, ◌∙◌, ap, subst}
use mathlib.Core.Bool.{Bool, true, false, not, ◌&&◌}
use mathlib.Core.List.{List, [], ◌∷◌}
use lib.Dec.{eqb}
use Rattle.std.proofs.lemmas.Bool.{both_ways}
use Rattle.std.proofs.lemmas.Bool.Decides.{nat_tests}
use native.Mathlib.Omega.{arith}
use Rattle.message.specs.Class.{class_of, between, is_start, is_name, is_space, is_text, is_plain_note}
use Rattle.message.specs.Reading.{is, byte_at, is_quote}
use Rattle.message.specs.Characters.{second_of_three, is_digit, closes}
use Rattle.message.specs.Elements.{is_known}
use Rattle.message.specs.Limits.{Limits}
use Rattle.message.proofs.Laws.{on_either}
use Rattle.message.proofs.Automaton.{Test, Ground, first, before, behind, inside, State, ground, opened, expect, blanks, declared, version_quote, encoding_quote, versioned, encoding_name, note, second, ampersand, ampersand_a, hash, first_digit, number, name, colon, in_tag, slash, attribute, attribute_colon, quote, value, close, Next, dead, goes, only, expecting, rest, after, closing, version_word, encoding_word, leads, special, between_tags, named, tag, step_note, base, digit, step_ampersand, step_in_tag, step}
use Rattle.message.proofs.Dues.{is_first, state_at, At}
use Rattle.message.proofs.Ways.{came, goes_same}

-- neither the start nor a state that goes on there
abbrev Past : State → Type 0
Past (ground g) = is_first g ≡ false
Past (opened g) = Unit {0}
Past (expect t ts k) = Past k
Past (blanks t solid ts k) = Past k
Past declared = Unit {0}
Past version_quote = Unit {0}
Past encoding_quote = Unit {0}
Past (versioned spaced) = Unit {0}
Past (encoding_name q) = Unit {0}
Past (note h k) = Past k
Past (second lead k) = Past k
Past (ampersand k) = Past k
Past (ampersand_a k) = Past k
Past (hash k) = Past k
Past (first_digit hex k) = Past k
Past (number hex n small k) = Past k
Past (name t n o) = Unit {0}
Past (colon n o) = Unit {0}
Past (in_tag spaced n seen o) = Unit {0}
Past (slash o) = Unit {0}
Past (attribute t a n seen o) = Unit {0}
Past (attribute_colon a n seen o) = Unit {0}
Past (quote n seen o) = Unit {0}
Past (value q n seen o) = Unit {0}
Past (close y w fresh o) = Unit {0}

abbrev PastNext : Next → Type 0
PastNext dead = Unit {0}
PastNext (goes st) = Past st

past_only : (t : Bool) (k : State) → Past k → PastNext (only t k)
past_only true k h = h
past_only false k h = tt

past_expecting : (ts : List Test) (k : State) → Past k → Past (expecting ts k)
past_expecting [] k h = h
past_expecting (t ∷ ts) k h = h

past_after : (o : List (List ℕ)) → Past (after o)
past_after [] = refl
past_after (v ∷ o) = refl

past_closing : (w : List ℕ) (fresh : Bool) (o : List (List ℕ)) → Past (closing w fresh o)
unfolding class_of
past_closing [] fresh o = past_after o
past_closing (y ∷ w) fresh o = tt

past_rest : (g : Ground) → Past (ground (rest g))
past_rest first = refl
past_rest before = refl
past_rest behind = refl
past_rest (inside b v o) = refl

past_leads : (k : State) (x : ℕ) → Past k → PastNext (leads k x)
past_leads k x h = on_either PastNext (between 194 223 x) h (on_either PastNext (between 224 239 x) h (past_only (between 240 244 x) _ h))

past_special : (k : State) (x : ℕ) → Past k → PastNext (special k x)
past_special k x h = on_either PastNext (is 38 x) h (past_leads k x h)

past_between : (g : Ground) (x : ℕ) → PastNext (between_tags g x)
past_between first x = past_only (is_space class_of x) (ground before) refl
past_between before x = past_only (is_space class_of x) (ground before) refl
past_between behind x = past_only (is_space class_of x) (ground behind) refl
past_between (inside b v o) x =
    on_either PastNext (is 93 x) refl
    (on_either PastNext (is_text class_of x) (on_either PastNext (eqb b 2 && is 62 x) tt refl) (past_special (ground (inside 0 v o)) x refl))

past_ground : (g : Ground) (x : ℕ) → PastNext (step (ground g) x)
past_ground g x = on_either PastNext (is 60 x) tt (past_between g x)

past_named : (o : List (List ℕ)) (x : ℕ) → PastNext (named o x)
past_named o x = past_only (is_start class_of x) (name false (x ∷ []) o) tt

past_tag : (g : Ground) (x : ℕ) → PastNext (tag g x)
past_tag first x = on_either PastNext (is 63 x) tt (past_named [] x)
past_tag before x = past_named [] x
past_tag behind x = tt
past_tag (inside b v o) x = on_either PastNext (is 47 x) (past_closing v true o) (past_named (v ∷ o) x)

past_note : (h : ℕ) (k : State) (x : ℕ) → Past k → PastNext (step_note h k x)
past_note zero k x e = on_either PastNext (is 45 x) e (on_either PastNext (is_plain_note class_of x) e (past_leads (note 0 k) x e))
past_note (suc zero) k x e = on_either PastNext (is 45 x) e (on_either PastNext (is_plain_note class_of x) e (past_leads (note 0 k) x e))
past_note (suc (suc h)) k x e = past_only (is 62 x) k e

past_digit : (hex : Bool) (n : ℕ) (k : State) (x : ℕ) → Past k → PastNext (digit hex n k x)
past_digit hex n k x h = grind (arith, nat_tests)

past_ampersand : (k : State) (x : ℕ) → Past k → PastNext (step_ampersand k x)
past_ampersand k x h =
    on_either PastNext (is 35 x) h
    (on_either PastNext (is 108 x) h
    (on_either PastNext (is 103 x) h (on_either PastNext (is 113 x) h (past_only (is 97 x) (ampersand_a k) h))))

past_in_tag : (spaced : Bool) (n : List ℕ) (seen o : List (List ℕ)) (x : ℕ) → PastNext (step_in_tag spaced n seen o x)
past_in_tag spaced n seen o x =
    on_either PastNext (is_space class_of x) tt
    (on_either PastNext (is 47 x) tt
    (on_either PastNext (is 62 x) refl (past_only (spaced && is_start class_of x) (attribute false (x ∷ []) n seen o) tt)))

past_step : (st : State) (x : ℕ) → Past st → PastNext (step st x)
unfolding class_of
past_step (ground g) x h = past_ground g x
past_step (opened g) x h = on_either PastNext (is 33 x) (past_rest g) (past_tag g x)
past_step (expect t ts k) x h = past_only (t.passes x) (expecting ts k) (past_expecting ts k h)
past_step (blanks t solid ts k) x h =
    on_either PastNext (is_space class_of x) h (past_only (t.passes x) (expecting ts k) (past_expecting ts k h))
past_step declared x h = past_only (is_space class_of x) version_word tt
past_step version_quote x h = on_either PastNext (is_space class_of x) tt (past_only (is_quote x) _ tt)
past_step encoding_quote x h = on_either PastNext (is_space class_of x) tt (past_only (is_quote x) (encoding_name x) tt)
past_step (versioned spaced) x h =
    on_either PastNext (is_space class_of x) tt (on_either PastNext (is 63 x) refl (past_only (spaced && is 101 x) encoding_word tt))
past_step (encoding_name q) x h = on_either PastNext (is 117 x) refl (past_only (is 85 x) _ refl)
past_step (note c k) x h = past_note c k x h
past_step (second lead k) x h = past_only (second_of_three lead x) _ h
past_step (ampersand k) x h = past_ampersand k x h
past_step (ampersand_a k) x h = on_either PastNext (is 109 x) h (past_only (is 112 x) _ h)
past_step (hash k) x h = on_either PastNext (is 120 x) h (on_either PastNext (is_digit 10 x) (past_digit false 0 k x h) tt)
past_step (first_digit hex k) x h = on_either PastNext (is_digit (base hex) x) (past_digit hex 0 k x h) tt
past_step (number hex n small k) x h = on_either PastNext (is_digit (base hex) x) (past_digit hex n k x h) (past_only (closes n x) k h)
past_step (name t n o) x h =
    on_either PastNext (is_name class_of x) tt (on_either PastNext (is 58 x && not t) tt (past_in_tag false n [] o x))
past_step (colon n o) x h = past_only (is_start class_of x) _ tt
past_step (in_tag spaced n seen o) x h = past_in_tag spaced n seen o x
past_step (slash o) x h = past_only (is 62 x) (after o) (past_after o)
past_step (attribute t a n seen o) x h =
    on_either PastNext (is_name class_of x) tt
    (on_either PastNext (is 58 x && not t) tt (on_either PastNext (is_known a seen) tt
    (on_either PastNext (is_space class_of x) tt (past_only (is 61 x) (quote n (a ∷ seen) o) tt))))
past_step (attribute_colon a n seen o) x h = past_only (is_start class_of x) _ tt
past_step (quote n seen o) x h = on_either PastNext (is_space class_of x) tt (past_only (is_quote x) (value x n seen o) tt)
past_step (value q n seen o) x h =
    on_either PastNext (is q x) tt (on_either PastNext (is_text class_of x) tt (past_special (value q n seen o) x tt))
past_step (close y w fresh o) x h = past_only (is y x) (closing w (is 58 y) o) (past_closing w (is 58 y) o)

at_past : (l : Limits) (s : List ℕ) (i : ℕ) (st : State) → At l s st (suc i) → Past st
unfolding state_at
at_past l s zero st h =
    let c = came l s 0 st h in
    subst PastNext c.by (subst (λ (from : State). PastNext (step from (byte_at s 0))) (goes_same c.here)
    (past_ground first (byte_at s 0)))
at_past l s (suc i) st h =
    let c = came l s (suc i) st h in
    subst PastNext c.by (past_step c.from (byte_at s (suc i)) (at_past l s i c.from c.here))

-- so the machine is in its first state before the first byte, and nowhere else
module _ (l : Limits) (s : List ℕ) (i : ℕ) (g : Ground) (here : At l s (ground g) i) where
  pub at_first : is_first g ≡ true → i ≡ 0
  at_first = go i here
    where
      go : (i : ℕ) → At l s (ground g) i → is_first g ≡ true → i ≡ 0
      go zero h e = refl
      go (suc i) h e = absurd (both_ways _ (at_past l s i (ground g) h) e)

  pub at_start : i ≡ 0 → is_first g ≡ true
  unfolding state_at
  at_start none =
      let same : goes (ground first) ≡ goes (ground g) = sym (ap (state_at l s) none) ∙ here in
      let start : first ≡ g = cc in
      ap is_first (sym start)
