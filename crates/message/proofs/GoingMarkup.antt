-- The machine reads comments where markup may begin, and what stands around the root, as `bang_at` and `around_at` do. Assumes nothing.
use Prim.Native.Nat.{ℕ, zero, suc, ◌+◌, ◌<◌, ◌≤◌}
use mathlib.Core.Path.{◌≡◌, refl, ◌∙◌, subst}
use mathlib.Core.Bool.{Bool, true, false, not, ◌&&◌, ◌||◌, and-false}
use mathlib.Core.List.{List, []}
use native.Mathlib.Omega.{arith}
use lib.ListN.{length}
use lib.Dec.{leb}
use Rattle.std.proofs.lemmas.Bool.{or_right, cond_both}
use Rattle.std.proofs.lemmas.Bool.Decides.{nat_tests}
use Rattle.laws.proofs.Tests.{not_both}
use Rattle.message.specs.Class.{class_of, is_start, is_space}
use Rattle.message.specs.Reading.{is_whole, is, byte_at, has, ends, word_at}
use Rattle.message.specs.Markup.{doctype, cdata, hyphens, opens_at, bang_at, around_at, declares}
use Rattle.message.specs.Limits.{Limits}
use Rattle.message.proofs.Laws.{has_byte, one_yes, ends_more, ends_stop, ends_from}
use Rattle.message.proofs.Bytes.{has_fails, bang_no_start, space_no_tag}
use Rattle.message.proofs.Runs.{ends_fails, has_known}
use Rattle.message.proofs.Progress.{past_whole}
use Rattle.message.proofs.MarkupLoop.{past_bang}
use Rattle.message.proofs.Automaton.{Ground, first, before, behind, inside, ground, opened, note, rest, comment}
use Rattle.message.proofs.Dues.{is_behind, is_first, depth, opening, due, At}
use Rattle.message.proofs.Going.{opens, Outcome, outcome_then, outcome_as, outcome_word, at_has, at_ends}
use Rattle.message.proofs.GoingText.{going_comment}
use Rattle.message.proofs.Ways.{at_within}

module _ (l : Limits) (s : List ℕ) where
  -- ---- behind a `<!`

  module _ (g : Ground) (i : ℕ) (here : At l s (ground g) i) (tag : has (is 60) s i ≡ true) (bang : has (is 33) s (i + 1) ≡ true) where
    abbrev undeclared : Bool
    undeclared = is_whole (word_at doctype s (i + 2)) || is_whole (word_at cdata s (i + 2))

    at_comment : undeclared ≡ false → At l s (comment g) (i + 2)
    at_comment none =
        let free : due l s (ground g) i ≡ false = rw (
          tag,
          bang,
          none,
          has_known 33 s (i + 1) bang (is 63),
          has_known 33 s (i + 1) bang (is_start class_of) ∙ bang_no_start,
        ) (and-false (leb l.levels (depth g) && not (is_behind g))) in
        let at_opened : At l s (opened g) (i + 1) = at_has l s (is 60) i here tag free (rw (has_byte (is 60) s i tag)) in
        let free' : due l s (opened g) (i + 1) ≡ false =
        rw (has_known 33 s (i + 1) bang (is_start class_of) ∙ bang_no_start) (and-false (not (is_behind g))) in
        subst (At l s (comment g)) (omega arith) (at_has l s (is 33) (i + 1) at_opened bang free' (rw (has_byte (is 33) s (i + 1) bang)))

    pub going_bang : Outcome l s (λ e. At l s (ground (rest g)) e) (bang_at class_of s i)
    unfolding bang_at
    going_bang =
        let two : i + 1 + 1 ≡ i + 2 = omega arith in
        rw (one_yes (is 60) s i tag, one_yes (is 33) s (i + 1) bang, two)
        (cond_both undeclared _ _ (Outcome l s (λ e. At l s (ground (rest g)) e))
        (λ h. (ground g, here, opens g refl tag (rw (bang, h))))
        (λ h. outcome_then l s _ _ _ (word_at hyphens s (i + 2))
        (outcome_word l s hyphens [] (note 0 (ground (rest g))) (i + 2) (at_comment h))
        (λ e q at-e. going_comment l s (ground (rest g)) (length s) e (omega arith) at-e)))

  -- ---- around the root

  abbrev pub Outer : Ground → Type 0
  Outer first = Unit {0}
  Outer before = Unit {0}
  Outer behind = Unit {0}
  Outer (inside b v o) = ⊥

  -- before the root or behind it, as g, and at the very start only if g is
  pub record Along (g g' : Ground) : Type 0 where
    pub outer : Outer g'
    pub side : is_behind g' ≡ is_behind g
    pub start : is_first g' ≡ true → is_first g ≡ true

  -- white space leaves `before` and `behind` as they are
  stays_before : (i : ℕ) → At l s (ground before) i → At l s (ground before) (ends (is_space class_of) s i)
  stays_before i here =
      at_ends l s (is_space class_of) (λ j h. rw (has_fails (is_space class_of) (is 60) space_no_tag s j h))
      (λ x h. rw (space_no_tag x h, h)) i here

  stays_behind : (i : ℕ) → At l s (ground behind) i → At l s (ground behind) (ends (is_space class_of) s i)
  stays_behind i here =
      at_ends l s (is_space class_of) (λ j h. rw (has_fails (is_space class_of) (is 60) space_no_tag s j h))
      (λ x h. rw (space_no_tag x h, h)) i here

  over_blanks : (g : Ground) → Outer g → (i : ℕ) → At l s (ground g) i
      → (g' : Ground) × At l s (ground g') (ends (is_space class_of) s i) × Along g g'
  over_blanks first outer i here = go (has (is_space class_of) s i) refl
    where
      go : (t : Bool) → has (is_space class_of) s i ≡ t → (g' : Ground) × At l s (ground g') (ends (is_space class_of) s i) × Along first g'
      go true h =
          let next : At l s (ground before) (i + 1) = at_has l s (is_space class_of) i here h
          (rw (has_fails (is_space class_of) (is 60) space_no_tag s i h))
          (rw (space_no_tag (byte_at s i) (has_byte (is_space class_of) s i h), has_byte (is_space class_of) s i h)) in
          (before, rw (ends_more (is_space class_of) s i h) (stays_before (i + 1) next), record { outer = tt; side = refl; start = λ e. refl })
      go false h = (first, rw (ends_stop (is_space class_of) s i h) here, record { outer = tt; side = refl; start = λ e. refl })
  over_blanks before outer i here = (before, stays_before i here, record { outer = tt; side = refl; start = λ e. e })
  over_blanks behind outer i here = (behind, stays_behind i here, record { outer = tt; side = refl; start = λ e. e })
  over_blanks (inside b v o) outer i here = absurd outer

  along_rest : (g g' : Ground) → Along g g' → Along g (rest g')
  along_rest g first a = record { outer = tt; side = a.side; start = λ e. cc }
  along_rest g before a = a
  along_rest g behind a = a
  along_rest g (inside b v o) a = absurd a.outer

  along_then : (g g' g'' : Ground) → Along g g' → Along g' g'' → Along g g''
  along_then g g' g'' a a' = record { outer = a'.outer; side = a'.side ∙ a.side; start = λ e. a.start (a'.start e) }

  question_opens : (g : Ground) (i : ℕ) → has (is 63) s (i + 1) ≡ true → (is_first g ≡ true → declares class_of s ≡ false)
      → opening l s g i ≡ true
  question_opens g i h plain =
      or_right (has (is 33) s (i + 1) && (is_whole (word_at doctype s (i + 2)) || is_whole (word_at cdata s (i + 2)))) _
      (rw h (not_both (is_first g) plain))

  -- behind white space and comments, at what is neither
  pub record Around (g : Ground) (e : ℕ) : Type 0 where
    pub now : Ground
    pub here : At l s (ground now) e
    pub along : Along g now
    pub solid : has (is_space class_of) s e ≡ false
    pub no_bang : opens_at 33 s e ≡ false
    pub no_question : opens_at 63 s e ≡ false

  around_along : (g g' : Ground) (e : ℕ) → Along g g' → Around g' e → Around g e
  around_along g g' e along a = record {
    now = a.now;
    here = a.here;
    along = along_then g g' a.now along a.along;
    solid = a.solid;
    no_bang = a.no_bang;
    no_question = a.no_question;
  }

  -- behind white space, at a `<` and another byte
  opens_both : (b i : ℕ) → opens_at b s i ≡ true → (has (is 60) s i ≡ true) × (has (is b) s (i + 1) ≡ true)
  opens_both b i h = grind (arith, nat_tests)

  pub going_around : (fuel : ℕ) (g : Ground) → Outer g → (is_first g ≡ true → declares class_of s ≡ false) → (i : ℕ) → length s < fuel + i
      → At l s (ground g) i → Outcome l s (Around g) (around_at class_of fuel s i)
  unfolding around_at
  going_around zero g outer plain i enough here = absurd (omega (arith, at_within l s i (ground g) here))
  going_around (suc fuel) g outer plain i enough here =
      let stop : ℕ = ends (is_space class_of) s i in
      let over = over_blanks g outer i here in
      let g' : Ground = over.0 in
      let on : i ≤ stop = ends_from (is_space class_of) s i in
      cond_both (opens_at 33 s stop) _ _ (Outcome l s (Around g))
      (λ h.
      let both = opens_both 33 stop h in
      outcome_then l s (λ e. At l s (ground (rest g')) e) (Around g) _ (bang_at class_of s stop)
      (going_bang g' stop over.1 both.0 both.1) (λ e q at-e.
      let along : Along g (rest g') = along_rest g g' over.2 in
      let past : stop < e = (past_whole (λ x. x) (length s) stop q (past_bang class_of s stop stop (omega arith))).0 in
      outcome_as l s (Around (rest g')) (Around g) (around_at class_of fuel s e)
      (going_around fuel (rest g') along.outer (λ f. plain (along.start f)) e (omega arith) at-e)
      (λ e' q' a. around_along g (rest g') e' along a)))
      (λ no_bang.
      cond_both (opens_at 63 s stop) _ _ (Outcome l s (Around g))
      (λ h.
      let both = opens_both 63 stop h in
      (ground g', over.1, opens g' refl both.0 (question_opens g' stop both.1 (λ f. plain (over.2.start f)))))
      (λ no_question. record {
        now = g';
        here = over.1;
        along = over.2;
        solid = ends_fails (is_space class_of) s i;
        no_bang = no_bang;
        no_question = no_question;
      }))
