-- Texts letter by letter: what `attribute_meaning` and `content_meaning` give is what `ValueSays` and `ContentSays` say, and their fuel is
-- enough. Assumes nothing.
use Prim.Native.Nat.{ℕ, zero, suc, ◌+◌, ◌<◌, ◌≤◌}
use mathlib.Core.Path.{◌≡◌, refl, sym, ◌∙◌, subst}
use mathlib.Core.Bool.{Bool, true, false, cond, ◌&&◌}
use mathlib.Core.List.{List, [], ◌∷◌}
use native.Mathlib.Omega.{arith}
use lib.ListN.{length}
use lib.Dec.{ltb}
use borrow.Author.Tests.{lt-ltb, le-ltb, ltb-true, ltb-false}
use Rattle.std.proofs.lemmas.Bool.{and_parts, cond_both}
use Rattle.message.specs.Class.{class_of, is_text}
use Rattle.message.specs.Reading.{Reading, ◌>>=◌, is, byte_at, has}
use Rattle.message.specs.Reading.Reading.{whole}
use Rattle.message.specs.Characters.{Character}
use Rattle.message.specs.Text.{special_at}
use Rattle.message.specs.Markup.{bang_at}
use Rattle.message.specs.Values.{is_break, line_end, letter_at, attribute_letter_at, text_letter_at, attribute_meaning, content_meaning}
use Rattle.message.specs.Meanings.{ValueSays, ContentSays}
use Rattle.message.specs.Meanings.ValueSays.{done, pair, space, byte, special}
use Rattle.message.specs.Meanings.ContentSays.{done as all_done, comment, pair as line-pair, line, byte as text-byte, special as text-special}
use Rattle.message.proofs.Laws.{has_lt}
use Rattle.message.proofs.Runs.{has_known}
use Rattle.message.proofs.Breaks.{break_is, pair_is, no_break_is, is_no_break, break_cases, return_cases}
use Rattle.message.proofs.Progress.{PastCharacter, past_whole, past_special}
use Rattle.message.proofs.MarkupLoop.{bang_on}
use Rattle.message.proofs.Trees.{whole_same, unread}
use Rattle.message.proofs.Facts.{then_whole}

-- ---- a letter that is read ends past its place

module _ (class : ℕ → ℕ) (s : List ℕ) (at : ℕ) where
  line_past : at < length s → (at < line_end s at) × (line_end s at ≤ length s)
  line_past h =
      cond_both (has (is 13) s at && has (is 10) s (at + 1)) _ _ (λ e. (at < e) × (e ≤ length s))
      (λ t. omega (arith, has_lt (is 10) s (at + 1) (and_parts (has (is 13) s at) (has (is 10) s (at + 1)) t).1)) (λ t. omega arith)

  past_letter : PastCharacter (length s) at (letter_at class s at)
  unfolding letter_at
  past_letter =
      cond_both (has (is_text class) s at) _ _ (PastCharacter (length s) at) (λ t. omega (arith, has_lt (is_text class) s at t))
      (λ t. past_special s at at (omega arith))

  past_attribute_letter : PastCharacter (length s) at (attribute_letter_at class s at)
  unfolding attribute_letter_at
  past_attribute_letter =
      cond_both (has is_break s at) _ _ (PastCharacter (length s) at) (λ t. line_past (has_lt is_break s at t)) (λ t. past_letter)

  past_text_letter : PastCharacter (length s) at (text_letter_at class s at)
  unfolding text_letter_at
  past_text_letter =
      cond_both (has (is 13) s at) _ _ (PastCharacter (length s) at) (λ t. line_past (has_lt (is 13) s at t)) (λ t. past_letter)

  pub attribute_letter_on : {c : Character} → attribute_letter_at class s at ≡ whole c → (at < c.end) × (c.end ≤ length s)
  attribute_letter_on q = past_whole (λ c. c.end) (length s) at q past_attribute_letter

  pub text_letter_on : {c : Character} → text_letter_at class s at ≡ whole c → (at < c.end) × (c.end ≤ length s)
  text_letter_on q = past_whole (λ c. c.end) (length s) at q past_text_letter

module _ (s : List ℕ) where
  -- ---- a letter by itself, as it stands and as a reference names it

  abbrev as_byte : ℕ → Character
  as_byte at = record { end = at + 1; code = byte_at s at }

  letter_byte : (at : ℕ) → has (is_text class_of) s at ≡ true → letter_at class_of s at ≡ whole (as_byte at)
  unfolding letter_at
  letter_byte at t = rw t

  letter_special : (at : ℕ) (c : Character) → has (is_text class_of) s at ≡ false → special_at s at ≡ whole c → letter_at class_of s at ≡ whole c
  unfolding letter_at
  letter_special at c t q = rw (t, q)

  module _ (P : Character → Type 0) (at : ℕ) where
    letter_cases : (has (is_text class_of) s at ≡ true → P (as_byte at))
        → ((c : Character) → has (is_text class_of) s at ≡ false → special_at s at ≡ whole c → P c)
        → (c : Character) → letter_at class_of s at ≡ whole c → P c
    unfolding letter_at
    letter_cases one_byte other c q = go (has (is_text class_of) s at) refl q
      where
        go : (t : Bool) → has (is_text class_of) s at ≡ t → cond t (whole (as_byte at)) (special_at s at) ≡ whole c → P c
        go true h e = subst P (whole_same e) (one_byte h)
        go false h e = other c h e

  -- in a value: a break, or CR LF, is a space
  abbrev as_space : ℕ → Character
  as_space e = record { end = e; code = 32 }

  value_break : (at e : ℕ) → (has is_break s at ≡ true) × (line_end s at ≡ e) → attribute_letter_at class_of s at ≡ whole (as_space e)
  unfolding attribute_letter_at
  value_break at e b = rw (b.0, b.1)

  value_plain : (at : ℕ) → has is_break s at ≡ false → attribute_letter_at class_of s at ≡ letter_at class_of s at
  unfolding attribute_letter_at
  value_plain at b = rw b

  -- between tags: a carriage return is a line feed
  abbrev as_line : ℕ → Character
  as_line e = record { end = e; code = 10 }

  text_break : (at e : ℕ) → has (is 13) s at ≡ true → line_end s at ≡ e → text_letter_at class_of s at ≡ whole (as_line e)
  unfolding text_letter_at
  text_break at e b ends = rw (ends, b)

  text_plain : (at : ℕ) → has (is 13) s at ≡ false → text_letter_at class_of s at ≡ letter_at class_of s at
  unfolding text_letter_at
  text_plain at b = rw b

  -- a carriage return is no `<`
  no_tag : (at : ℕ) → has (is 13) s at ≡ true → has (is 60) s at ≡ false
  no_tag at b = has_known 13 s at b (is 60)

  module _ (to : ℕ) where
    -- with some fuel that is enough the reader gives the text
    abbrev Given : (ℕ → ℕ → Reading (List ℕ)) → ℕ → List ℕ → Type 0
    Given meaning at text = (fuel : ℕ) → 0 < fuel → length s < fuel + at → meaning fuel at ≡ whole text

    -- ---- values

    letter_said : (at : ℕ) (c : Character) (text : List ℕ) → at < to → attribute_letter_at class_of s at ≡ whole c
        → ValueSays s to c.end text
        → ValueSays s to at (c.code ∷ text)
    letter_said at c text within q = go (has is_break s at) refl
      where
        Said : Character → Type 0
        Said d = ValueSays s to d.end text → ValueSays s to at (d.code ∷ text)

        go : (t : Bool) → has is_break s at ≡ t → Said c
        go true h =
            subst Said (whole_same (sym (value_break at (line_end s at) (h, refl)) ∙ q))
            (break_cases s at (λ e. Said (as_space e)) (pair within) (space within) h)
        go false h =
            let none = is_no_break s at h in
            letter_cases Said at (byte within none) (λ d. special d within none) c (sym (value_plain at h) ∙ q)

    pub value_said : (fuel at : ℕ) (text : List ℕ) → attribute_meaning class_of s fuel to at ≡ whole text → ValueSays s to at text
    unfolding attribute_meaning
    value_said zero at text q = unread q
    value_said (suc fuel) at text q = go (value_said fuel) (ltb at to) refl q
      where
        letters : Character → Reading (List ℕ)
        letters c = attribute_meaning class_of s fuel to c.end >>= (λ codes. whole (c.code ∷ codes))

        go : ((from : ℕ) (codes : List ℕ) → attribute_meaning class_of s fuel to from ≡ whole codes → ValueSays s to from codes)
            → (t : Bool) → ltb at to ≡ t → cond t (attribute_letter_at class_of s at >>= letters) (whole []) ≡ whole text
            → ValueSays s to at text
        go further true within e =
            let x = then_whole letters (attribute_letter_at class_of s at) text e in
            let y = then_whole (λ codes. whole (x.0.code ∷ codes)) (attribute_meaning class_of s fuel to x.0.end) text x.2 in
            subst (ValueSays s to at) (whole_same y.2)
            (letter_said at x.0 y.0 (ltb-true at to within) x.1 (further x.0.end y.0 y.1))
        go further false out e = subst (ValueSays s to at) (whole_same e) (done (ltb-false at to out))

    abbrev value_meaning : ℕ → ℕ → Reading (List ℕ)
    value_meaning fuel = attribute_meaning class_of s fuel to

    value_end : (at : ℕ) → to ≤ at → Given value_meaning at []
    unfolding attribute_meaning
    value_end at out zero some enough = absurd (omega arith)
    value_end at out (suc fuel) some enough = rw (le-ltb at to out)

    value_letter : (at : ℕ) (c : Character) (text : List ℕ) → at < to → attribute_letter_at class_of s at ≡ whole c
        → Given value_meaning c.end text
        → Given value_meaning at (c.code ∷ text)
    unfolding attribute_meaning
    value_letter at c text within q rest zero some enough = absurd (omega arith)
    value_letter at c text within q rest (suc fuel) some enough =
        let on = attribute_letter_on class_of s at q in
        let others = rest fuel (omega (arith, on)) (omega (arith, on)) in
        rw (lt-ltb at to within, q, others)

    pub value_given : {at : ℕ} {text : List ℕ} → ValueSays s to at text → Given value_meaning at text
    value_given {at} (done out) = value_end at out
    value_given {at} (pair {text = text} within r f rest) =
        value_letter at (as_space (at + 2)) text within (value_break at (at + 2) (pair_is s at r f)) (value_given rest)
    value_given {at} (space {text = text} within b rest) =
        value_letter at (as_space (at + 1)) text within (value_break at (at + 1) (break_is s at b)) (value_given rest)
    value_given {at} (byte {text = text} within b t rest) =
        value_letter at (as_byte at) text within (value_plain at (no_break_is s at b) ∙ letter_byte at t) (value_given rest)
    value_given {at} (special {text = text} c within b t q rest) =
        value_letter at c text within (value_plain at (no_break_is s at b) ∙ letter_special at c t q) (value_given rest)

    -- ---- content

    text_letter_said : (at : ℕ) (c : Character) (text : List ℕ) → at < to → has (is 60) s at ≡ false → text_letter_at class_of s at ≡ whole c
        → ContentSays s to c.end text → ContentSays s to at (c.code ∷ text)
    text_letter_said at c text within n q = go (has (is 13) s at) refl
      where
        Said : Character → Type 0
        Said d = ContentSays s to d.end text → ContentSays s to at (d.code ∷ text)

        go : (t : Bool) → has (is 13) s at ≡ t → Said c
        go true h =
            subst Said (whole_same (sym (text_break at (line_end s at) h refl) ∙ q))
            (return_cases s at (λ e. Said (as_line e)) (line-pair within) (line within h) h)
        go false h = letter_cases Said at (text-byte within n h) (λ d. text-special d within n h) c (sym (text_plain at h) ∙ q)

    pub content_said : (fuel at : ℕ) (text : List ℕ) → content_meaning class_of s fuel to at ≡ whole text → ContentSays s to at text
    unfolding content_meaning
    content_said zero at text q = unread q
    content_said (suc fuel) at text q = go (content_said fuel) (ltb at to) refl q
      where
        Further : Type 0
        Further = (from : ℕ) (codes : List ℕ) → content_meaning class_of s fuel to from ≡ whole codes → ContentSays s to from codes

        letters : Character → Reading (List ℕ)
        letters c = content_meaning class_of s fuel to c.end >>= (λ codes. whole (c.code ∷ codes))

        inside : Further → at < to → (t : Bool) → has (is 60) s at ≡ t
            → cond t (bang_at class_of s at >>= content_meaning class_of s fuel to) (text_letter_at class_of s at >>= letters) ≡ whole text
            → ContentSays s to at text
        inside further within true h e =
            let x = then_whole (content_meaning class_of s fuel to) (bang_at class_of s at) text e in
            comment within h x.1 (further x.0 text x.2)
        inside further within false h e =
            let x = then_whole letters (text_letter_at class_of s at) text e in
            let y = then_whole (λ codes. whole (x.0.code ∷ codes)) (content_meaning class_of s fuel to x.0.end) text x.2 in
            subst (ContentSays s to at) (whole_same y.2)
            (text_letter_said at x.0 y.0 within h x.1 (further x.0.end y.0 y.1))

        go : Further → (t : Bool) → ltb at to ≡ t
            → cond t (cond (has (is 60) s at) (bang_at class_of s at >>= content_meaning class_of s fuel to) (text_letter_at class_of s at >>= letters)) (whole [])
            ≡ whole text
            → ContentSays s to at text
        go further true within e = inside further (ltb-true at to within) (has (is 60) s at) refl e
        go further false out e = subst (ContentSays s to at) (whole_same e) (all_done (ltb-false at to out))

    abbrev text_meaning : ℕ → ℕ → Reading (List ℕ)
    text_meaning fuel = content_meaning class_of s fuel to

    content_end : (at : ℕ) → to ≤ at → Given text_meaning at []
    unfolding content_meaning
    content_end at out zero some enough = absurd (omega arith)
    content_end at out (suc fuel) some enough = rw (le-ltb at to out)

    content_comment : (at e : ℕ) (text : List ℕ) → at < to → has (is 60) s at ≡ true → bang_at class_of s at ≡ whole e
        → Given text_meaning e text
        → Given text_meaning at text
    unfolding content_meaning
    content_comment at e text within h q rest zero some enough = absurd (omega arith)
    content_comment at e text within h q rest (suc fuel) some enough =
        let on = bang_on class_of s q in
        let others = rest fuel (omega (arith, on)) (omega (arith, on)) in
        rw (lt-ltb at to within, h, q) others

    content_letter : (at : ℕ) (c : Character) (text : List ℕ) → at < to → has (is 60) s at ≡ false → text_letter_at class_of s at ≡ whole c
        → Given text_meaning c.end text → Given text_meaning at (c.code ∷ text)
    unfolding content_meaning
    content_letter at c text within n q rest zero some enough = absurd (omega arith)
    content_letter at c text within n q rest (suc fuel) some enough =
        let on = text_letter_on class_of s at q in
        let others = rest fuel (omega (arith, on)) (omega (arith, on)) in
        rw (lt-ltb at to within, n, q, others)

    pub content_given : {at : ℕ} {text : List ℕ} → ContentSays s to at text → Given text_meaning at text
    content_given {at} (all_done out) = content_end at out
    content_given {at} {text} (comment {e = e} within h q rest) = content_comment at e text within h q (content_given rest)
    content_given {at} (line-pair {text = text} within b f rest) =
        content_letter at (as_line (at + 2)) text within (no_tag at b) (text_break at (at + 2) b (pair_is s at b f).1) (content_given rest)
    content_given {at} (line {text = text} within b alone rest) =
        content_letter at (as_line (at + 1)) text within (no_tag at b) (text_break at (at + 1) b (rw (b, alone))) (content_given rest)
    content_given {at} (text-byte {text = text} within n b t rest) =
        content_letter at (as_byte at) text within n (text_plain at b ∙ letter_byte at t) (content_given rest)
    content_given {at} (text-special {text = text} c within n b t q rest) =
        content_letter at c text within n (text_plain at b ∙ letter_special at c t q) (content_given rest)
