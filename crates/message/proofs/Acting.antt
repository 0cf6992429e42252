-- The machine behind the first i bytes, where nothing is due, known only by what it does with the byte there: so a state and those that
-- behave like it are told apart no further. And white space before a byte. Assumes nothing.
use Prim.Native.Nat.{ℕ, ◌+◌, ◌<◌}
use mathlib.Core.Path.{◌≡◌, refl, ◌∙◌}
use mathlib.Core.Bool.{Bool, true, false}
use mathlib.Core.List.{List}
use lib.ListN.{length}
use Rattle.message.specs.Class.{class_of, is_space}
use Rattle.message.specs.Reading.{byte_at, has, one, ends}
use Rattle.message.specs.Limits.{Limits}
use Rattle.message.proofs.Laws.{has_lt, has_byte, ends_more, ends_stop, fails_byte}
use Rattle.message.proofs.Automaton.{State, Next, dead, goes, step, only}
use Rattle.message.proofs.Dues.{may_end, due, At}
use Rattle.message.proofs.Going.{Stuck, Outcome, at_has, at_ends, stuck_here, outcome_one}

module _ (l : Limits) (s : List ℕ) where
  -- the machine is in the message or at its end, nothing is due, and it does what f does
  pub record Acts (f : ℕ → Next) (i : ℕ) : Type 0 where
    pub state : State
    pub here : At l s state i
    pub more : may_end state ≡ false
    pub free : due l s state i ≡ false
    pub does : i < length s → step state (byte_at s i) ≡ f (byte_at s i)

  pub acting : {st : State} {f : ℕ → Next} {i : ℕ} → At l s st i → may_end st ≡ false → due l s st i ≡ false
      → (i < length s → step st (byte_at s i) ≡ f (byte_at s i)) → Acts f i
  acting {st = st} here more free does = record { state = st; here = here; more = more; free = free; does = does }

  module _ {f : ℕ → Next} {i : ℕ} (acts : Acts f i) where
    -- on a byte that passes a test
    pub acts_has : {next : State} (test : ℕ → Bool) → has test s i ≡ true → f (byte_at s i) ≡ goes next → At l s next (i + 1)
    acts_has test h goes_on = at_has l s test i acts.here h acts.free (acts.does (has_lt test s i h) ∙ goes_on)

    -- no byte goes on
    pub acts_stuck : (i < length s → f (byte_at s i) ≡ dead) → Stuck l s 9 i
    acts_stuck dying = stuck_here l s acts.here acts.more (λ inside. acts.does inside ∙ dying inside)

    -- one byte, which is the only way on
    pub acts_one : (next : State) (test : ℕ → Bool) → (has test s i ≡ true → f (byte_at s i) ≡ goes next)
        → (i < length s → has test s i ≡ false → f (byte_at s i) ≡ dead)
        → Outcome l s (λ e. At l s next e × (e ≡ i + 1)) (one test s i)
    acts_one next test passes fails =
        outcome_one l s next test i acts.here acts.more (λ h. acts.free) (λ h. acts.does (has_lt test s i h) ∙ passes h)
        (λ inside h. acts.does inside ∙ fails inside h)

    -- what does the same at the byte there
    pub acts_as : (g : ℕ → Next) → (i < length s → f (byte_at s i) ≡ g (byte_at s i)) → Acts g i
    acts_as g same = acting acts.here acts.more acts.free (λ inside. acts.does inside ∙ same inside)

  -- a state where nothing is due acts as it steps
  pub acts_at : (st : State) (i : ℕ) → At l s st i → may_end st ≡ false → due l s st i ≡ false → Acts (step st) i
  acts_at st i here more free = acting here more free (λ inside. refl)

  -- one byte, and a state behind it
  pub acts_only : (next : State) (test : ℕ → Bool) (i : ℕ) → Acts (λ x. only (test x) next) i
      → Outcome l s (λ e. At l s next e × (e ≡ i + 1)) (one test s i)
  acts_only next test i acts = acts_one acts next test (λ h. rw (has_byte test s i h)) (λ inside h. rw (fails_byte test s i inside h))

  -- White space before a byte, where the machine does what f does, and stays in a state that does the same once there was some: behind it
  -- the machine acts like f still.
  pub acts_blanks : (f : ℕ → Next) (st : State) (i : ℕ) → Acts f i → ((x : ℕ) → is_space class_of x ≡ true → f x ≡ goes st)
      → ((x : ℕ) → step st x ≡ f x) → may_end st ≡ false → ((j : ℕ) → due l s st j ≡ false) → Acts f (ends (is_space class_of) s i)
  acts_blanks f st i acts enters like more free = go (has (is_space class_of) s i) refl
    where
      stop : ℕ
      stop = ends (is_space class_of) s (i + 1)

      spaces : has (is_space class_of) s i ≡ true → At l s st stop
      spaces h =
          at_ends l s (is_space class_of) (λ j t. free j) (λ x t. like x ∙ enters x t) (i + 1)
          (acts_has acts (is_space class_of) h (enters (byte_at s i) (has_byte (is_space class_of) s i h)))

      go : (t : Bool) → has (is_space class_of) s i ≡ t → Acts f (ends (is_space class_of) s i)
      go true h = rw (ends_more (is_space class_of) s i h) (acting (spaces h) more (free stop) (λ inside. like (byte_at s stop)))
      go false h = rw (ends_stop (is_space class_of) s i h) acts
