-- The machine reads `=` and a quotation mark as `opened_at` does, before an attribute's value and in the declaration alike; and a word
-- behind white space. Assumes nothing.
use Prim.Native.Nat.{ℕ, ◌+◌, ◌-◌, ◌<◌}
use mathlib.Core.Path.{◌≡◌, refl, sym, ◌∙◌, ap, subst}
use mathlib.Core.Bool.{true, false, cond}
use mathlib.Core.List.{List, [], ◌∷◌, ◌++◌}
use native.Mathlib.Omega.{arith}
use lib.ListN.{length}
use Rattle.message.specs.Class.{class_of, is_space}
use Rattle.message.specs.Reading.{is, byte_at, has, one, ends, word_at, is_quote, equals_at, opened_at}
use Rattle.message.specs.Limits.{Limits}
use Rattle.message.proofs.Laws.{has_lt, has_byte, one_has, fails_byte}
use Rattle.message.proofs.Bytes.{solid_equals, quote_no_space}
use Rattle.message.proofs.Runs.{ends_fails}
use Rattle.message.proofs.Automaton.{Test, exact, exactly, State, blanks, Next, goes, only, step, expecting, step_blanks}
use Rattle.message.proofs.Dues.{may_end, due, At}
use Rattle.message.proofs.Going.{Outcome, outcome_then, outcome_as, outcome_one, outcome_word, at_ends}
use Rattle.message.proofs.Acting.{Acts, acts_one, acts_at, acts_blanks}

module _ (l : Limits) (s : List ℕ) where
  -- ---- a word behind white space

  module _ (b : ℕ) (solid : is_space class_of b ≡ false) (ts : List Test) (k : State) where
    -- what the machine does there
    abbrev awaiting : ℕ → Next
    awaiting = step_blanks (exact b) solid ts k

    going_blanks : (i : ℕ) → Acts l s awaiting i
        → Outcome l s (λ e. At l s (expecting ts k) e × (e ≡ ends (is_space class_of) s i + 1)) (one (is b) s (ends (is_space class_of) s i))
    going_blanks i acts =
        acts_one l s there (expecting ts k) (is b) (λ h. rw (solid_there (has_lt (is b) s p h), has_byte (is b) s p h))
        (λ within h. rw (solid_there within, fails_byte (is b) s p within h))
      where
        p : ℕ
        p = ends (is_space class_of) s i

        there : Acts l s awaiting p
        there = acts_blanks l s awaiting (blanks (exact b) solid ts k) i acts (λ x t. rw t) (λ x. refl) refl (λ j. refl)

        solid_there : p < length s → is_space class_of (byte_at s p) ≡ false
        solid_there within = fails_byte (is_space class_of) s p within (ends_fails (is_space class_of) s i)

  pub going_blanks_word : (b : ℕ) (solid : is_space class_of b ≡ false) (w : List ℕ) (ts : List Test) (k : State) (i : ℕ)
      → At l s (blanks (exact b) solid (exactly w ++ ts) k) i
      → Outcome l s (λ e. At l s (expecting ts k) e) (word_at (b ∷ w) s (ends (is_space class_of) s i))
  unfolding word_at
  going_blanks_word b solid w ts k i here =
      outcome_then l s _ _ _ (one (is b) s (ends (is_space class_of) s i))
      (going_blanks b solid (exactly w ++ ts) k i (acts_at l s _ i here refl refl)) (λ e q h. outcome_word l s w ts k e h.0)

  -- ---- a quotation mark

  -- the states before one, which white space does not leave, and where it leads
  pub record Quoting : Type 0 where
    pub state : State
    pub next : ℕ → State
    pub does : (x : ℕ) → step state x ≡ cond (is_space class_of x) (goes state) (only (is_quote x) (next x))
    pub more : may_end state ≡ false
    pub free : (i : ℕ) → due l s state i ≡ false

  module _ (Q : Quoting) (i : ℕ) (acts : Acts l s (awaiting 61 solid_equals [] Q.state) i) where
    going_equals : Outcome l s (λ mark. At l s Q.state mark × (has (is_space class_of) s mark ≡ false)) (equals_at class_of s i)
    unfolding equals_at
    going_equals =
        outcome_then l s _ _ _ (one (is 61) s (ends (is_space class_of) s i)) (going_blanks 61 solid_equals [] Q.state i acts)
        (λ e q h. (at_ends l s (is_space class_of) (λ j t. Q.free j) (λ x t. Q.does x ∙ rw t) e h.0, ends_fails (is_space class_of) s e))

    -- behind it, where a value begins
    pub record Opened (b : ℕ) : Type 0 where
      pub here : At l s (Q.next (byte_at s (b - 1))) b
      pub mark : is_quote (byte_at s (b - 1)) ≡ true
      pub some : 0 < b

    pub going_opened : Outcome l s Opened (opened_at class_of s i)
    unfolding opened_at
    going_opened =
        outcome_then l s _ _ _ (equals_at class_of s i) going_equals (λ mark q here.
        outcome_as l s (λ e. At l s (Q.next (byte_at s mark)) e × (e ≡ mark + 1)) _ (one is_quote s mark)
        (outcome_one l s (Q.next (byte_at s mark)) is_quote mark here.0 Q.more (λ h. Q.free mark)
        (λ h. Q.does (byte_at s mark) ∙ rw (quote_no_space (byte_at s mark) (has_byte is_quote s mark h), has_byte is_quote s mark h))
        (λ within h. Q.does (byte_at s mark)
        ∙ rw (fails_byte (is_space class_of) s mark within here.1, fails_byte is_quote s mark within h)))
        (λ e r h. behind mark e (one_has is_quote s mark e r).0 h))
      where
        behind : (mark e : ℕ) → has is_quote s mark ≡ true → At l s (Q.next (byte_at s mark)) e × (e ≡ mark + 1) → Opened e
        behind mark e quoted h =
            let back : e - 1 ≡ mark = omega (arith, h.1) in
            record {
              here = subst (λ (m : ℕ). At l s (Q.next (byte_at s m)) e) (sym back) h.0;
              mark = ap (λ (m : ℕ). is_quote (byte_at s m)) back ∙ has_byte is_quote s mark quoted;
              some = omega (arith, h.1);
            }
