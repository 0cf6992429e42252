-- The machine does what the readers of characters of more than one byte, and of references, do. Assumes nothing.
use Prim.Native.Nat.{ℕ, zero, suc, ◌+◌, ◌-◌, ◌*◌, ◌<◌, ◌≤◌}
use mathlib.Core.Path.{◌≡◌, refl, subst}
use mathlib.Core.Bool.{Bool, true, false, cond}
use mathlib.Core.List.{List, [], ◌∷◌, ◌++◌}
use native.Mathlib.Omega.{arith}
use lib.ListN.{length}
use lib.Dec.{leb}
use Rattle.std.proofs.lemmas.Bool.{cond_both}
use Rattle.message.specs.Class.{between}
use Rattle.message.specs.Reading.{is, byte_at, has, one, word_at}
use Rattle.message.specs.Characters.{Character, later, second_of_three, third_of_three, second_of_four, joined, two_at, three_at, last_two_at, four_at, long_at, is_digit, digit_of, digits_at, closes, numbered_at, stands_at, predefined_at, reference_at}
use Rattle.message.specs.Text.{special_at}
use Rattle.message.specs.Limits.{Limits}
use Rattle.message.proofs.Laws.{has_lt, has_byte, one_yes, fails_byte}
use Rattle.message.proofs.Ways.{numbered_small, numbered_great}
use Rattle.message.proofs.Acting.{Acts, acting, acts_has, acts_stuck, acts_as, acts_only}
use Rattle.message.proofs.Automaton.{later_test, second_four, third_three, exactly, State, expect, second, ampersand, ampersand_a, hash, first_digit, number, Next, dead, only, expecting, leads, special, base, digit}
use Rattle.message.proofs.Dues.{At}
use Rattle.message.proofs.Going.{cut, Outcome, outcome_then, at_has, outcome_word, outcome_expect}

module _ (l : Limits) (s : List ℕ) where
  -- ---- characters of more than one byte

  -- the machine stands in k behind the character
  abbrev pub Behind : State → Character → Type 0
  Behind k c = At l s k c.end

  going_two : (k : State) (i : ℕ) → At l s (expect later_test [] k) (i + 1) → Outcome l s (Behind k) (two_at s i)
  unfolding two_at
  going_two k i here =
      outcome_then l s (λ e. At l s k e × (e ≡ i + 1 + 1)) (Behind k) _ (one later s (i + 1))
      (outcome_expect l s later_test [] k (i + 1) here) (λ e q h. h.0)

  going_three : (k : State) (i : ℕ) → At l s (second (byte_at s i) k) (i + 1) → Outcome l s (Behind k) (three_at s i)
  unfolding three_at
  going_three k i here =
      let third = expect (third_three (byte_at s i) (byte_at s (i + 1))) [] k in
      outcome_then l s (λ j. At l s third j × (j ≡ i + 1 + 1)) (Behind k) _ (one (second_of_three (byte_at s i)) s (i + 1))
      (acts_only l s third (second_of_three (byte_at s i)) (i + 1) (acting l s here refl refl (λ inside. refl))) (λ j q h.
      outcome_then l s (λ e. At l s k e × (e ≡ j + 1)) (Behind k) _ (one (third_of_three (byte_at s i) (byte_at s (i + 1))) s j)
      (outcome_expect l s (third_three (byte_at s i) (byte_at s (i + 1))) [] k j h.0) (λ e r g. g.0))

  going_last_two : (n : ℕ) (k : State) (i : ℕ) → At l s (expect later_test (later_test ∷ []) k) i → Outcome l s (Behind k) (last_two_at n s i)
  unfolding last_two_at
  going_last_two n k i here =
      let last = expect later_test [] k in
      outcome_then l s (λ j. At l s last j × (j ≡ i + 1)) (Behind k) _ (one later s i)
      (outcome_expect l s later_test (later_test ∷ []) k i here) (λ j q h.
      outcome_then l s (λ e. At l s k e × (e ≡ j + 1)) (Behind k) _ (one later s j)
      (outcome_expect l s later_test [] k j h.0) (λ e r g. g.0))

  going_four : (k : State) (i : ℕ) → Acts l s (λ x. only (between 240 244 x) (expect (second_four x) (later_test ∷ later_test ∷ []) k)) i
      → Outcome l s (Behind k) (four_at s i)
  unfolding four_at
  going_four k i here =
      let three = expect (second_four (byte_at s i)) (later_test ∷ later_test ∷ []) k in
      let two = expect later_test (later_test ∷ []) k in
      outcome_then l s (λ j. At l s three j × (j ≡ i + 1)) (Behind k) _ (one (between 240 244) s i)
      (acts_only l s three (between 240 244) i (acts_as l s here _ (λ inside. refl))) (λ j q h.
      outcome_then l s (λ e. At l s two e × (e ≡ j + 1)) (Behind k) _ (one (second_of_four (byte_at s i)) s j)
      (outcome_expect l s (second_four (byte_at s i)) (later_test ∷ later_test ∷ []) k j h.0) (λ e r g.
      going_last_two (joined (byte_at s i - 240) (byte_at s j)) k e g.0))

  pub going_long : (k : State) (i : ℕ) → Acts l s (leads k) i → Outcome l s (λ c. At l s k c.end) (long_at s i)
  unfolding long_at
  going_long k i acts =
      cond_both (has (between 194 223) s i) _ _ (Outcome l s (Behind k))
      (λ t. going_two k i (acts_has l s acts (between 194 223) t (rw (has_byte (between 194 223) s i t)))) (λ t.
      let no_two : (i < length s → between 194 223 (byte_at s i) ≡ false) = (λ inside. fails_byte (between 194 223) s i inside t) in
      cond_both (has (between 224 239) s i) _ _ (Outcome l s (Behind k))
      (λ u.
      going_three k i
      (acts_has l s acts (between 224 239) u (rw (no_two (has_lt (between 224 239) s i u), has_byte (between 224 239) s i u))))
      (λ u. going_four k i (acts_as l s acts _ (λ inside. rw (no_two inside, fails_byte (between 224 239) s i inside u)))))

  -- ---- references by a number

  -- a number that is not too great, at a place
  abbrev Numbered : Bool → State → ℕ → ℕ → Type 0
  Numbered hex k n i = (small : leb n 1114111 ≡ true) × At l s (number hex n small k) i

  -- behind all digits
  abbrev Counted : Bool → State → Character → Type 0
  Counted hex k c = Numbered hex k c.code c.end × (has (is_digit (base hex)) s c.end ≡ false)

  -- one digit, from where the number so far is n, and the others
  going_digit : (hex : Bool) (k : State) (fuel n i : ℕ) → Acts l s (digit hex n k) i → has (is_digit (base hex)) s i ≡ true
      → ((m : ℕ) → Numbered hex k m (i + 1) → Outcome l s (Counted hex k) (digits_at fuel (base hex) m s (i + 1)))
      → Outcome l s (Counted hex k) (digits_at (suc fuel) (base hex) n s i)
  unfolding digits_at
  going_digit hex k fuel n i acts digits more =
      let m = n * base hex + digit_of (byte_at s i) in
      rw digits
      (cond_both (leb m 1114111) _ _ (Outcome l s (Counted hex k))
      (λ t.
      let next = numbered_small hex m k (leb m 1114111) refl t in
      more m (next.0, acts_has l s acts (is_digit (base hex)) digits next.1))
      (λ t. acts_stuck l s acts (λ inside. numbered_great hex m k (leb m 1114111) refl t)))

  going_digits : (hex : Bool) (k : State) (fuel n i : ℕ) → length s ≤ fuel + i → Numbered hex k n i
      → Outcome l s (Counted hex k) (digits_at fuel (base hex) n s i)
  unfolding digits_at
  going_digits hex k zero n i enough here = (number hex n here.0 k, here.1, cut (omega arith) refl)
  going_digits hex k (suc fuel) n i enough here =
      go (has (is_digit (base hex)) s i) refl (λ m h. going_digits hex k fuel m (i + 1) (omega arith) h)
    where
      go : (t : Bool) → has (is_digit (base hex)) s i ≡ t
          → ((m : ℕ) → Numbered hex k m (i + 1) → Outcome l s (Counted hex k) (digits_at fuel (base hex) m s (i + 1)))
          → Outcome l s (Counted hex k) (digits_at (suc fuel) (base hex) n s i)
      go true t more =
          going_digit hex k fuel n i (acting l s here.1 refl refl (λ inside. rw (has_byte (is_digit (base hex)) s i t))) t more
      go false t more = rw t (here, t)

  -- a byte without which the machine dies
  there : (test : ℕ → Bool) (next : ℕ → Next) (i : ℕ) → Acts l s (λ x. cond (test x) (next x) dead) i
      → Outcome l s (λ e. has test s i ≡ true) (one test s i)
  unfolding one
  there test next i acts =
      cond_both (has test s i) _ _ (Outcome l s (λ e. has test s i ≡ true)) (λ t. t)
      (λ t. acts_stuck l s acts (λ inside. rw (fails_byte test s i inside t)))

  going_numbered : (hex : Bool) (k : State) (i : ℕ) → Acts l s (λ x. cond (is_digit (base hex) x) (digit hex 0 k x) dead) i
      → Outcome l s (Behind k) (numbered_at (base hex) s i)
  unfolding numbered_at
  going_numbered hex k i here =
      let digits = is_digit (base hex) in
      outcome_then l s (λ j. has digits s i ≡ true) (Behind k) _ (one digits s i) (there digits (digit hex 0 k) i here) (λ j q t.
      outcome_then l s (Counted hex k) (Behind k) _ (digits_at (suc (length s)) (base hex) 0 s i)
      (going_digit hex k (length s) 0 i (acts_as l s here _ (λ inside. rw (has_byte digits s i t))) t
      (λ m h. going_digits hex k (length s) m (i + 1) (omega arith) h)) (λ c r h.
      outcome_then l s (λ e. At l s k e × (e ≡ c.end + 1)) (Behind k) _ (one (closes c.code) s c.end)
      (acts_only l s k (closes c.code) c.end
      (acting l s h.0.1 refl refl (λ inside. rw (fails_byte digits s c.end inside h.1)))) (λ e u g. g.0)))

  -- ---- references by a name

  going_stands : (k : State) (b : ℕ) (w : List ℕ) (c i : ℕ) → Acts l s (λ x. only (is b x) (expecting (exactly w ++ []) k)) i
      → Outcome l s (Behind k) (stands_at (b ∷ w) c s i)
  unfolding stands_at word_at
  going_stands k b w c i here =
      outcome_then l s (λ e. At l s k e) (Behind k) _ (word_at (b ∷ w) s i)
      (outcome_then l s (λ j. At l s (expecting (exactly w ++ []) k) j × (j ≡ i + 1)) (λ e. At l s k e) (word_at w s) (one (is b) s i)
      (acts_only l s (expecting (exactly w ++ []) k) (is b) i here) (λ j q h. outcome_word l s w [] k j h.0)) (λ e q h. h)

  going_predefined : (k : State) (i : ℕ) → At l s (ampersand k) i → has (is 35) s i ≡ false → Outcome l s (Behind k) (predefined_at s i)
  unfolding predefined_at
  going_predefined k i here sharp =
      let not_sharp : (i < length s → is 35 (byte_at s i) ≡ false) = (λ inside. fails_byte (is 35) s i inside sharp) in
      cond_both (has (is 108) s i) _ _ (Outcome l s (Behind k))
      (λ t. going_stands k 108 (116 ∷ 59 ∷ []) 60 i (acting l s here refl refl (λ inside. rw (not_sharp inside, has_byte (is 108) s i t))))
      (λ t.
      let not_l : (i < length s → is 108 (byte_at s i) ≡ false) = (λ inside. fails_byte (is 108) s i inside t) in
      cond_both (has (is 103) s i) _ _ (Outcome l s (Behind k))
      (λ u. going_stands k 103 (116 ∷ 59 ∷ []) 62 i
      (acting l s here refl refl (λ inside. rw (not_sharp inside, not_l inside, has_byte (is 103) s i u)))) (λ u.
      let not_g : (i < length s → is 103 (byte_at s i) ≡ false) = (λ inside. fails_byte (is 103) s i inside u) in
      cond_both (has (is 113) s i) _ _ (Outcome l s (Behind k))
      (λ v.
      going_stands k 113 (117 ∷ 111 ∷ 116 ∷ 59 ∷ []) 34 i
      (acting l s here refl refl (λ inside. rw (not_sharp inside, not_l inside, not_g inside, has_byte (is 113) s i v)))) (λ v.
      let not_q : (i < length s → is 113 (byte_at s i) ≡ false) = (λ inside. fails_byte (is 113) s i inside v) in
      outcome_then l s (λ j. At l s (ampersand_a k) j × (j ≡ i + 1)) (Behind k) _ (one (is 97) s i)
      (acts_only l s (ampersand_a k) (is 97) i
      (acting l s here refl refl (λ inside. rw (not_sharp inside, not_l inside, not_g inside, not_q inside)))) (λ j q h.
      cond_both (has (is 109) s j) _ _ (Outcome l s (Behind k))
      (λ w. going_stands k 109 (112 ∷ 59 ∷ []) 38 j (acting l s h.0 refl refl (λ inside. rw (has_byte (is 109) s j w))))
      (λ w. going_stands k 112 (111 ∷ 115 ∷ 59 ∷ []) 39 j
      (acting l s h.0 refl refl (λ inside. rw (fails_byte (is 109) s j inside w))))))))

  -- ---- references

  -- behind the `&`
  going_referenced : (k : State) (i : ℕ) → At l s (ampersand k) i
      → Outcome l s (Behind k) (cond (has (is 35) s i) (cond (has (is 120) s (i + 1)) (numbered_at 16 s (i + 2)) (numbered_at 10 s (i + 1))) (predefined_at s i))
  going_referenced k i here =
      cond_both (has (is 35) s i) _ _ (Outcome l s (Behind k)) (λ t.
      let behind : At l s (hash k) (i + 1) = at_has l s (is 35) i here t refl (rw (has_byte (is 35) s i t)) in
      cond_both (has (is 120) s (i + 1)) _ _ (Outcome l s (Behind k))
      (λ u.
      let from : At l s (first_digit true k) (i + 1 + 1) = at_has l s (is 120) (i + 1) behind u refl (rw (has_byte (is 120) s (i + 1) u)) in
      going_numbered true k (i + 2) (acting l s (subst (At l s (first_digit true k)) (omega arith) from) refl refl (λ inside. refl)))
      (λ u. going_numbered false k (i + 1) (acting l s behind refl refl (λ inside. rw (fails_byte (is 120) s (i + 1) inside u))))) (λ t.
      going_predefined k i here t)

  pub going_special : (k : State) (i : ℕ) → Acts l s (special k) i → Outcome l s (λ c. At l s k c.end) (special_at s i)
  unfolding special_at reference_at
  going_special k i acts =
      cond_both (has (is 38) s i) _ _ (Outcome l s (Behind k))
      (λ t. rw (one_yes (is 38) s i t) (going_referenced k (i + 1) (acts_has l s acts (is 38) t (rw (has_byte (is 38) s i t)))))
      (λ t. going_long k i (acts_as l s acts _ (λ inside. rw (fails_byte (is 38) s i inside t))))
