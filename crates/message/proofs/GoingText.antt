-- The machine does what the readers of text, of values and of comments do. Assumes nothing.
use Prim.Native.Nat.{ℕ, zero, suc, ◌+◌, ◌<◌, ◌≤◌}
use mathlib.Core.Path.{◌≡◌, refl, ◌∙◌, ap, subst}
use mathlib.Core.Bool.{Bool, true, false, cond, ◌&&◌, and-false}
use mathlib.Core.List.{List}
use native.Mathlib.Omega.{arith}
use lib.ListN.{length}
use lib.Dec.{eqb}
use Rattle.std.proofs.lemmas.Bool.{and_parts, cond_both}
use Rattle.message.specs.Class.{class_of, is_text, is_plain, is_plain_note}
use Rattle.message.specs.Reading.{is, is_quote, byte_at, has, one, ends}
use Rattle.message.specs.Text.{special_at, bracket_at, beyond_plain_in_at, beyond_plain_at, beyond_note_at, hyphens_at, text_at, value_at, comment_at}
use Rattle.message.specs.Characters.{long_at}
use Rattle.message.specs.Limits.{Limits}
use Rattle.message.proofs.Laws.{has_in, has_lt, has_byte, ends_from, ends_more, ends_stop, fails_byte}
use Rattle.message.proofs.Acting.{Acts, acting, acts_at, acts_has, acts_as, acts_only}
use Rattle.message.proofs.Bytes.{other_than, has_other, quote_no_plain, tag_no_plain, bracket_no_plain, plain_text, note_no_hyphen}
use Rattle.message.proofs.Runs.{ends_fails, byte_is}
use Rattle.message.proofs.Progress.{beyond_plain_in_on, beyond_plain_on, beyond_note_on}
use Rattle.message.proofs.Automaton.{inside, State, ground, note, value, dead, goes, step, leads, special, brackets}
use Rattle.message.proofs.Dues.{due, At}
use Rattle.message.proofs.Going.{dies, cut, Stuck, Outcome, outcome_then, outcome_as, at_has, at_ends}
use Rattle.message.proofs.GoingCharacters.{Behind, going_long, going_special}

module _ (l : Limits) (s : List ℕ) where
  -- ---- what is no plain text, up to the place behind it

  going_beyond_in : (k : State) (i : ℕ) → Acts l s (λ x. cond (is_text class_of x) (goes k) (special k x)) i
      → Outcome l s (λ e. At l s k e) (beyond_plain_in_at class_of s i)
  unfolding beyond_plain_in_at
  going_beyond_in k i acts =
      cond_both (has (is_text class_of) s i) _ _ (Outcome l s (λ e. At l s k e))
      (λ t. acts_has l s acts (is_text class_of) t (rw (has_byte (is_text class_of) s i t))) (λ t.
      outcome_then l s (Behind l s k) (λ e. At l s k e) _ (special_at s i)
      (going_special l s k i (acts_as l s acts _ (λ below. rw (fails_byte (is_text class_of) s i below t)))) (λ c q h. h))

  -- ---- values

  -- the value ends at the place
  abbrev Quoted : ℕ → State → ℕ → Type 0
  Quoted q st e = At l s st e × (has (is q) s e ≡ true)

  value_stays : (q : ℕ) → is_quote q ≡ true → (n : List ℕ) (seen o : List (List ℕ)) (x : ℕ) → is_plain class_of x ≡ true
      → step (value q n seen o) x ≡ goes (value q n seen o)
  value_stays q quotes n seen o x h = rw (other_than (is_plain class_of) q (quote_no_plain q quotes) x h, plain_text x h)

  pub going_value : (q : ℕ) → is_quote q ≡ true → (n : List ℕ) (seen o : List (List ℕ)) (fuel i : ℕ) → length s ≤ fuel + i
      → At l s (value q n seen o) i → Outcome l s (λ e. At l s (value q n seen o) e × (has (is q) s e ≡ true)) (value_at class_of fuel q s i)
  unfolding value_at
  going_value q quotes n seen o zero i enough here = (value q n seen o, here, cut (omega arith) refl)
  going_value q quotes n seen o (suc fuel) i enough here =
      let st = value q n seen o in
      let stop = ends (is_plain class_of) s i in
      let there : At l s st stop = at_ends l s (is_plain class_of) (λ j h. refl) (value_stays q quotes n seen o) i here in
      let further : i ≤ stop = ends_from (is_plain class_of) s i in
      cond_both (has (is q) s stop) _ _ (Outcome l s (Quoted q st)) (λ t. (there, t)) (λ t.
      outcome_then l s (λ e. At l s st e) (Quoted q st) (value_at class_of fuel q s) (beyond_plain_in_at class_of s stop)
      (going_beyond_in st stop (acting l s there refl refl (λ below. rw (fails_byte (is q) s stop below t)))) (λ e w h.
      going_value q quotes n seen o fuel e (omega (arith, beyond_plain_in_on s stop class_of e w)) h))

  -- ---- text between tags

  -- behind b brackets, the bytes that the reader has looked at do not complete `]]>`
  abbrev pub Safe : ℕ → ℕ → Type 0
  Safe zero i = Unit {0}
  Safe (suc zero) i = (has (is 93) s i && has (is 62) s (i + 1)) ≡ false
  Safe (suc (suc b)) i = ((has (is 93) s i && has (is 62) s (i + 1)) ≡ false) × (has (is 62) s i ≡ false)

  -- markup begins in the text of an element
  abbrev Marked : List ℕ → List (List ℕ) → ℕ → Type 0
  Marked v o e = (b : ℕ) × At l s (ground (inside b v o)) e × (has (is 60) s e ≡ true)

  module _ (v : List ℕ) (o : List (List ℕ)) where
    -- in the text of an element, behind b brackets
    abbrev within : ℕ → State
    within b = ground (inside b v o)

    -- no markup begins, so nothing is due
    text_free : (b i : ℕ) → has (is 60) s i ≡ false → due l s (within b) i ≡ false
    text_free b i h = rw h

    -- no `]]>` is completed
    text_open : (b i : ℕ) → Safe b i → i < length s → (eqb b 2 && is 62 (byte_at s i)) ≡ false
    text_open zero i safe below = refl
    text_open (suc zero) i safe below = refl
    text_open (suc (suc b)) i safe below = rw (fails_byte (is 62) s i below safe.1) (and-false (eqb (suc (suc b)) 2))

    -- neither `<` nor `]`
    text_step : (b i : ℕ) → Safe b i → has (is 60) s i ≡ false → has (is 93) s i ≡ false → i < length s
        → step (within b) (byte_at s i) ≡ cond (is_text class_of (byte_at s i)) (goes (within 0)) (special (within 0) (byte_at s i))
    text_step b i safe h h' below = rw (fails_byte (is 60) s i below h, fails_byte (is 93) s i below h', text_open b i safe below)

    -- the text goes on at the place
    abbrev Text : ℕ → Type 0
    Text i = (b : ℕ) × Safe b i × At l s (within b) i

    -- one plain byte
    text_plain : (b i : ℕ) → Safe b i → At l s (within b) i → has (is_plain class_of) s i ≡ true → At l s (within 0) (i + 1)
    text_plain b i safe here t =
        let not_60 = has_other (is_plain class_of) 60 tag_no_plain s i t in
        let steps = text_step b i safe not_60 (has_other (is_plain class_of) 93 bracket_no_plain s i t) (has_lt (is_plain class_of) s i t) in
        at_has l s (is_plain class_of) i here t (text_free b i not_60)
        (steps ∙ rw (plain_text (byte_at s i) (has_byte (is_plain class_of) s i t)))

    -- a run of plain bytes
    text_run : (i : ℕ) → Text i → Text (ends (is_plain class_of) s i)
    text_run i here = go (has (is_plain class_of) s i) refl
      where
        free : (j : ℕ) → has (is_plain class_of) s j ≡ true → due l s (within 0) j ≡ false
        free j h = text_free 0 j (has_other (is_plain class_of) 60 tag_no_plain s j h)

        stays : (x : ℕ) → is_plain class_of x ≡ true → step (within 0) x ≡ goes (within 0)
        stays x h =
            rw (other_than (is_plain class_of) 60 tag_no_plain x h, other_than (is_plain class_of) 93 bracket_no_plain x h, plain_text x h)

        go : (t : Bool) → has (is_plain class_of) s i ≡ t → Text (ends (is_plain class_of) s i)
        go true t =
            let next = text_plain here.0 i here.1 here.2 t in
            rw (ends_more (is_plain class_of) s i t) (0, tt, at_ends l s (is_plain class_of) free stays (i + 1) next)
        go false t = rw (ends_stop (is_plain class_of) s i t) here

    -- a `]`
    text_bracket : (b i : ℕ) → At l s (within b) i → has (is 93) s i ≡ true → At l s (within (brackets b)) (i + 1)
    text_bracket b i here h =
        let x_is : byte_at s i ≡ 93 = byte_is 93 s i h in
        let not_60 : is 60 (byte_at s i) ≡ false = ap (is 60) x_is in
        at_has l s (is 93) i here h (text_free b i (has_in (is 60) s i (has_lt (is 93) s i h) ∙ not_60))
        (rw (not_60, has_byte (is 93) s i h))

    -- behind it, where `]>` does not follow
    bracket_safe : (b i : ℕ) → Safe b i → has (is 93) s i ≡ true → (has (is 93) s (i + 1) && has (is 62) s (i + 2)) ≡ false
        → Safe (brackets b) (i + 1)
    bracket_safe b i safe h none = go b safe
      where
        none' : (has (is 93) s (i + 1) && has (is 62) s (i + 1 + 1)) ≡ false
        none' = subst (λ (j : ℕ). (has (is 93) s (i + 1) && has (is 62) s j) ≡ false) (omega arith) none

        go : (b : ℕ) → Safe b i → Safe (brackets b) (i + 1)
        go zero safe = none'
        go (suc zero) safe = (none', rw h at safe)
        go (suc (suc b)) safe = (none', rw h at safe.0)

    -- `]]` is behind, and the `>` that ends it is dead
    text_dead : (b i : ℕ) → At l s (within b) i → has (is 93) s i ≡ true → (has (is 93) s (i + 1) && has (is 62) s (i + 2)) ≡ true
        → Stuck l s 9 (i + 2)
    unfolding class_of
    text_dead b i here h t =
        let h1 : has (is 93) s (i + 1) ≡ true = (and_parts (has (is 93) s (i + 1)) (has (is 62) s (i + 2)) t).0 in
        let h2 : has (is 62) s (i + 2) ≡ true = (and_parts (has (is 93) s (i + 1)) (has (is 62) s (i + 2)) t).1 in
        let x_is : byte_at s (i + 2) ≡ 62 = byte_is 62 s (i + 2) h2 in
        let there = text_bracket (brackets b) (i + 1) (text_bracket b i here h) h1 in (
          within (brackets (brackets b)),
          subst (At l s (within (brackets (brackets b)))) (omega arith) there,
          dies (has_lt (is 62) s (i + 2) h2) (rw x_is (dead_at b)),
        )
      where
        dead_at : (b : ℕ) → step (within (brackets (brackets b))) 62 ≡ dead
        dead_at zero = refl
        dead_at (suc b) = refl

    text_beyond : (i : ℕ) → Text i → has (is 60) s i ≡ false → Outcome l s Text (beyond_plain_at class_of s i)
    unfolding beyond_plain_at bracket_at
    text_beyond i here h =
        cond_both (has (is 93) s i) _ _ (Outcome l s Text) (λ t.
        cond_both (has (is 93) s (i + 1) && has (is 62) s (i + 2)) _ _ (Outcome l s Text) (λ u. text_dead here.0 i here.2 t u)
        (λ u. (brackets here.0, bracket_safe here.0 i here.1 t u, text_bracket here.0 i here.2 t))) (λ t.
        outcome_as l s (λ e. At l s (within 0) e) Text (beyond_plain_in_at class_of s i)
        (going_beyond_in (within 0) i (acting l s here.2 refl (text_free here.0 i h) (text_step here.0 i here.1 h t)))
        (λ e q g. (0, tt, g)))

  pub going_text : (v : List ℕ) (o : List (List ℕ)) (fuel b i : ℕ) → length s ≤ fuel + i → Safe b i → At l s (ground (inside b v o)) i
      → Outcome l s (λ e. (b' : ℕ) × At l s (ground (inside b' v o)) e × (has (is 60) s e ≡ true)) (text_at class_of fuel s i)
  unfolding text_at
  going_text v o zero b i enough safe here = (ground (inside b v o), here, cut (omega arith) refl)
  going_text v o (suc fuel) b i enough safe here =
      let stop = ends (is_plain class_of) s i in
      let there : Text v o stop = text_run v o i (b, safe, here) in
      let further : i ≤ stop = ends_from (is_plain class_of) s i in
      cond_both (has (is 60) s stop) _ _ (Outcome l s (Marked v o)) (λ t. (there.0, there.2, t)) (λ t.
      outcome_then l s (Text v o) (Marked v o) (text_at class_of fuel s) (beyond_plain_at class_of s stop)
      (text_beyond v o stop there t) (λ e w h.
      going_text v o fuel h.0 e (omega (arith, beyond_plain_on s stop class_of e w)) h.1 h.2))

  -- ---- comments

  module _ (k : State) where
    -- in a comment, behind no `-`, or behind one that no other follows
    abbrev Quiet : ℕ → ℕ → Type 0
    Quiet zero i = Unit {0}
    Quiet (suc zero) i = has (is 45) s i ≡ false
    Quiet (suc (suc h)) i = ⊥

    abbrev Noted : ℕ → Type 0
    Noted i = (h : ℕ) × Quiet h i × At l s (note h k) i

    -- no `-`
    note_step : (h i : ℕ) → Quiet h i → has (is 45) s i ≡ false → i < length s
        → step (note h k) (byte_at s i) ≡ cond (is_plain_note class_of (byte_at s i)) (goes (note 0 k)) (leads (note 0 k) (byte_at s i))
    note_step zero i quiet none below = rw (fails_byte (is 45) s i below none)
    note_step (suc zero) i quiet none below = rw (fails_byte (is 45) s i below none)
    note_step (suc (suc h)) i quiet none below = absurd quiet

    note_hyphen : (h i : ℕ) → Quiet h i → At l s (note h k) i → has (is 45) s i ≡ true → At l s (note 1 k) (i + 1)
    note_hyphen zero i quiet here t = at_has l s (is 45) i here t refl (rw (has_byte (is 45) s i t))
    note_hyphen (suc zero) i quiet here t = cc
    note_hyphen (suc (suc h)) i quiet here t = absurd quiet

    -- a run of plain bytes
    note_run : (i : ℕ) → Noted i → Noted (ends (is_plain_note class_of) s i)
    note_run i here = go (has (is_plain_note class_of) s i) refl
      where
        go : (t : Bool) → has (is_plain_note class_of) s i ≡ t → Noted (ends (is_plain_note class_of) s i)
        go true t =
            let x_is = has_byte (is_plain_note class_of) s i t in
            let below = has_lt (is_plain_note class_of) s i t in
            rw (ends_more (is_plain_note class_of) s i t) (
              0,
              tt,
              at_ends l s (is_plain_note class_of) (λ j h. refl) (λ x h. rw (h, note_no_hyphen x h)) (i + 1)
                  (at_has l s (is_plain_note class_of) i here.2 t refl
                  (note_step here.0 i here.1 (has_in (is 45) s i below ∙ note_no_hyphen (byte_at s i) x_is) below ∙ rw x_is)),
            )
        go false t = rw (ends_stop (is_plain_note class_of) s i t) here

    -- `--`, and the `>`
    note_end : (i : ℕ) → Noted i → hyphens_at s i ≡ true → Outcome l s (λ e. At l s k e) (one (is 62) s (i + 2))
    note_end i here t =
        let h1 : has (is 45) s i ≡ true = (and_parts (has (is 45) s i) (has (is 45) s (i + 1)) t).0 in
        let h2 : has (is 45) s (i + 1) ≡ true = (and_parts (has (is 45) s i) (has (is 45) s (i + 1)) t).1 in
        let there : At l s (note 2 k) (i + 2) =
        subst (At l s (note 2 k)) (omega arith)
        (at_has l s (is 45) (i + 1) (note_hyphen here.0 i here.1 here.2 h1) h2 refl (rw (has_byte (is 45) s (i + 1) h2))) in
        outcome_as l s (λ e. At l s k e × (e ≡ i + 2 + 1)) (λ e. At l s k e) (one (is 62) s (i + 2))
        (acts_only l s k (is 62) (i + 2) (acts_at l s (note 2 k) (i + 2) there refl refl)) (λ e q h. h.0)

    -- what is no plain byte
    note_beyond : (i : ℕ) → Noted i → has (is_plain_note class_of) s i ≡ false → hyphens_at s i ≡ false → Outcome l s Noted (beyond_note_at s i)
    unfolding beyond_note_at
    note_beyond i here none single =
        cond_both (has (is 45) s i) _ _ (Outcome l s Noted) (λ t. (1, rw t at single, note_hyphen here.0 i here.1 here.2 t)) (λ t.
        outcome_then l s (Behind l s (note 0 k)) Noted _ (long_at s i)
        (going_long l s (note 0 k) i (acting l s here.2 refl refl
        (λ below. note_step here.0 i here.1 t below ∙ rw (fails_byte (is_plain_note class_of) s i below none)))) (λ c q h. (0, tt, h)))

    note_loop : (fuel i : ℕ) → length s ≤ fuel + i → Noted i → Outcome l s (λ e. At l s k e) (comment_at class_of fuel s i)
    unfolding comment_at
    note_loop zero i enough here = (note here.0 k, here.2, cut (omega arith) refl)
    note_loop (suc fuel) i enough here =
        let stop = ends (is_plain_note class_of) s i in
        let there : Noted stop = note_run i here in
        let further : i ≤ stop = ends_from (is_plain_note class_of) s i in
        cond_both (hyphens_at s stop) _ _ (Outcome l s (λ e. At l s k e)) (λ t. note_end stop there t) (λ t.
        outcome_then l s Noted (λ e. At l s k e) (comment_at class_of fuel s) (beyond_note_at s stop)
        (note_beyond stop there (ends_fails (is_plain_note class_of) s i) t) (λ e w h.
        note_loop fuel e (omega (arith, beyond_note_on s stop e w)) h))

  pub going_comment : (k : State) (fuel i : ℕ) → length s ≤ fuel + i → At l s (note 0 k) i
      → Outcome l s (λ e. At l s k e) (comment_at class_of fuel s i)
  going_comment k fuel i enough here = note_loop k fuel i enough (0, tt, here)
