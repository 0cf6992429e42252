-- What the readers of specs/ do is what the machine does: where a reader is whole the machine has gone on to the state that belongs there,
-- with nothing due on the way, and where it is refused the machine stands at the place of refusal with its cause. Here is what the files
-- about single readers share. Assumes nothing.
use Prim.Native.Nat.{ℕ, ◌+◌, ◌<◌, ◌≤◌}
use mathlib.Core.Path.{◌≡◌, refl}
use mathlib.Core.Bool.{Bool, true, false}
use mathlib.Core.List.{List, [], ◌∷◌, ◌++◌}
use native.Mathlib.Numerals.{add-one}
use native.Mathlib.Decide.{dec_lt}
use native.Mathlib.Omega.{arith}
use lib.ListN.{length}
use lib.Dec.{leb}
use borrow.Author.Tests.{lt-ltb}
use Rattle.message.specs.Class.{class_of, is_start, is_space}
use Rattle.message.specs.Reading.{Reading, ◌>>=◌, is, byte_at, has, one, ends, word_at}
use Rattle.message.specs.Reading as reading
use Rattle.message.specs.Reading.Reading.{whole, refused}
use Rattle.message.specs.Limits.{Limits}
use Rattle.message.specs.Readable.{TagStands, PartStands}
use Rattle.message.proofs.Laws.{has_lt, has_byte, one_yes, one_no, fails_byte}
use Rattle.message.proofs.Runs.{run_keeps}
use Rattle.message.proofs.Automaton.{Test, exact, exactly, Ground, State, ground, expect, in_tag, dead, goes, step, expecting}
use Rattle.message.proofs.Dues.{may_end, depth, opening, too_deep, long, due, state_at, At}

module _ (l : Limits) (s : List ℕ) where
  -- ---- why the machine does not go on

  -- markup may begin behind the first i bytes
  abbrev pub MarkedAt : ℕ → Type 0
  MarkedAt i = (g : Ground) × At l s (ground g) i

  -- the white space before p follows a start tag and k attributes
  pub record Crowd (k p : ℕ) : Type 0 where
    pub at : ℕ
    pub marked : MarkedAt at
    pub to : ℕ
    pub stands : TagStands s at k to
    pub space : has (is_space class_of) s to ≡ true
    pub begins : p ≡ reading.blanks class_of s to

  pub record Part (p : ℕ) : Type 0 where
    pub at : ℕ
    pub marked : MarkedAt at
    pub stands : PartStands s at p

  -- a 14 leaves room for the attribute
  abbrev pub Roomy : State → Type 0
  Roomy st = (spaced : Bool) (n : List ℕ) (seen o : List (List ℕ)) → st ≡ in_tag spaced n seen o → leb l.attributes (length seen) ≡ false

  pub data Cause (st : State) (p : ℕ) : ℕ → Type 0 where
    dies : p < length s → step st (byte_at s p) ≡ dead → Cause st p 9
    cut : length s ≤ p → may_end st ≡ false → Cause st p 9
    deep : (g : Ground) → st ≡ ground g → has (is 60) s p ≡ true → too_deep l s g p ≡ true → depth g ≡ l.levels → Cause st p 10
    crowded : (n : List ℕ) (seen o : List (List ℕ)) → st ≡ in_tag true n seen o → has (is_start class_of) s p ≡ true
        → length seen ≡ l.attributes → Crowd (length seen) p → Cause st p 11
    opens : (g : Ground) → st ≡ ground g → has (is 60) s p ≡ true → opening l s g p ≡ true → Cause st p 12
    longs : due l s st p ≡ true → long l s p ≡ true → (next : State) → step st (byte_at s p) ≡ goes next → Roomy st → Part p → Cause st p 14

  -- the machine stands at the place p, with the cause of refusal n
  abbrev pub Stuck : ℕ → ℕ → Type 0
  Stuck n p = (st : State) × At l s st p × Cause st p n

  -- what a reading comes to: something that holds of what was read, or a refusal with its cause
  abbrev pub Outcome : {A : Type 0} → (A → Type 0) → Reading A → Type 0
  Outcome P (whole x) = P x
  Outcome P (refused n p) = Stuck n p

  pub outcome_then : {A B : Type 0} (P : A → Type 0) (Q : B → Type 0) (next : A → Reading B) (a : Reading A) → Outcome P a
      → ((x : A) → a ≡ whole x → P x → Outcome Q (next x)) → Outcome Q (a >>= next)
  outcome_then P Q next (whole x) h g = g x refl h
  outcome_then P Q next (refused n p) h g = h

  -- the same outcome, weaker
  pub outcome_as : {A : Type 0} (P Q : A → Type 0) (a : Reading A) → Outcome P a → ((x : A) → a ≡ whole x → P x → Q x) → Outcome Q a
  outcome_as P Q (whole x) h g = g x refl h
  outcome_as P Q (refused n p) h g = h

  -- ---- the machine's steps

  at_step : {st next : State} (i : ℕ) → At l s st i → i < length s → due l s st i ≡ false → step st (byte_at s i) ≡ goes next
      → At l s next (i + 1)
  unfolding state_at
  at_step i here inside free goes_on = rw (add-one, here, lt-ltb i (length s) inside, free) goes_on

  -- on a byte that passes a test
  pub at_has : {st next : State} (test : ℕ → Bool) (i : ℕ) → At l s st i → has test s i ≡ true → due l s st i ≡ false
      → step st (byte_at s i) ≡ goes next → At l s next (i + 1)
  at_has test i here h free goes_on = at_step i here (has_lt test s i h) free goes_on

  -- a state that the message may not end in, and that no byte leads on from
  pub stuck_here : {st : State} {i : ℕ} → At l s st i → may_end st ≡ false → (i < length s → step st (byte_at s i) ≡ dead) → Stuck 9 i
  stuck_here {st = st} {i = i} here more dying = (
    st,
    here,
    elim (dec_lt i (length s)) [
      | yes inside ↦ dies inside (dying inside)
      | no out ↦ cut (omega arith) more
    ],
  )

  -- one byte, which is the only way on
  pub outcome_one : {st : State} (next : State) (test : ℕ → Bool) (i : ℕ) → At l s st i → may_end st ≡ false
      → (has test s i ≡ true → due l s st i ≡ false) → (has test s i ≡ true → step st (byte_at s i) ≡ goes next)
      → (i < length s → has test s i ≡ false → step st (byte_at s i) ≡ dead)
      → Outcome (λ e. At l s next e × (e ≡ i + 1)) (one test s i)
  outcome_one {st = st} next test i here goes_on free passes fails = go (has test s i) refl
    where
      go : (t : Bool) → has test s i ≡ t → Outcome (λ e. At l s next e × (e ≡ i + 1)) (one test s i)
      go true h = rw (one_yes test s i h) (at_has test i here h (free h) (passes h), refl)
      go false h = rw (one_no test s i h) (stuck_here here goes_on (λ inside. fails inside h))

  -- as many bytes as pass a test and leave the machine where it is
  pub at_ends : {st : State} (test : ℕ → Bool) → ((i : ℕ) → has test s i ≡ true → due l s st i ≡ false)
      → ((x : ℕ) → test x ≡ true → step st x ≡ goes st)
      → (i : ℕ) → At l s st i → At l s st (ends test s i)
  at_ends {st = st} test free stays =
      run_keeps test s (At l s st) (λ i h here. at_has test i here h (free i h) (stays (byte_at s i) (has_byte test s i h)))

  -- ---- a word

  -- one byte that has to come
  pub outcome_expect : (t : Test) (ts : List Test) (k : State) (i : ℕ) → At l s (expect t ts k) i
      → Outcome (λ e. At l s (expecting ts k) e × (e ≡ i + 1)) (one t.passes s i)
  outcome_expect t ts k i here =
      outcome_one (expecting ts k) t.passes i here refl (λ h. refl) (λ h. rw (has_byte t.passes s i h))
      (λ inside h. rw (fails_byte t.passes s i inside h))

  pub outcome_word : (w : List ℕ) (ts : List Test) (k : State) (i : ℕ) → At l s (expecting (exactly w ++ ts) k) i
      → Outcome (λ e. At l s (expecting ts k) e) (word_at w s i)
  unfolding word_at
  outcome_word [] ts k i here = here
  outcome_word (b ∷ w) ts k i here =
      outcome_then (λ e. At l s (expecting (exactly w ++ ts) k) e × (e ≡ i + 1)) (λ e. At l s (expecting ts k) e) (word_at w s)
      (one (is b) s i)
      (outcome_expect (exact b) (exactly w ++ ts) k i here) (λ e q h. outcome_word w ts k e h.0)
