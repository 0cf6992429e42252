-- The way of the machine through the first bytes of a message: where nothing is due before a place, the state there is the one that the
-- bytes before it lead to. Assumes nothing.
use Prim.Native.Nat.{ℕ, zero, suc, ◌<◌, ◌≤◌}
use mathlib.Core.Path.{◌≡◌, refl, sym}
use mathlib.Core.Bool.{Bool, true, false, cond, not, ◌&&◌}
use mathlib.Core.List.{List, [], ◌∷◌, ◌++◌}
use native.Mathlib.Omega.{arith}
use lib.ListN.{length, take}
use lib.Seq.{take-suc}
use lib.Dec.{ltb, leb}
use borrow.Author.Tests.{ltb-true, not-true}
use Rattle.std.proofs.lemmas.Bool.{and_parts}
use Rattle.message.specs.Reading.{byte_at}
use Rattle.message.specs.Limits.{Limits}
use Rattle.message.proofs.Automaton.{first, State, ground, Next, dead, goes, step, steps, number, numbered}
use Rattle.message.proofs.Dues.{due, further, state_at, At}

-- ---- steps

pub goes_dead : {st : State} → goes st ≡ dead → ⊥
goes_dead e = cc

pub goes_same : {st st' : State} → goes st ≡ goes st' → st ≡ st'
goes_same e = cc

-- a digit, by whether the number is too great
pub numbered_small : (hex : Bool) (n : ℕ) (k : State) (t : Bool) (e : leb n 1114111 ≡ t) → t ≡ true
    → (small : leb n 1114111 ≡ true) × (numbered hex n t e k ≡ goes (number hex n small k))
numbered_small hex n k true e h = (e, refl)
numbered_small hex n k false e h = cc

pub numbered_great : (hex : Bool) (n : ℕ) (k : State) (t : Bool) (e : leb n 1114111 ≡ t) → t ≡ false → numbered hex n t e k ≡ dead
numbered_great hex n k true e h = cc
numbered_great hex n k false e h = refl

pub steps_on : (st : State) {next : State} (x : ℕ) (u : List ℕ) → step st x ≡ goes next → steps st (x ∷ u) ≡ steps next u
unfolding steps
steps_on st x u e = rw (e, steps)

pub steps_dead : (st : State) (x : ℕ) (u : List ℕ) → step st x ≡ dead → steps st (x ∷ u) ≡ dead
unfolding steps
steps_dead st x u e = rw (e, steps)

abbrev pub then_steps : Next → List ℕ → Next
then_steps dead v = dead
then_steps (goes st) v = steps st v

pub steps_append : (u v : List ℕ) (st : State) → steps st (u ++ v) ≡ then_steps (steps st u) v
unfolding steps
steps_append [] v st = refl
steps_append (x ∷ u) v st = go (step st x) (steps_append u v)
  where
    -- behind a step, as `steps` has it
    on : Next → List ℕ → Next
    on next w = elim next [ dead ↦ dead | goes st' ↦ steps st' w ]

    go : (next : Next) → ((st' : State) → steps st' (u ++ v) ≡ then_steps (steps st' u) v) → on next (u ++ v) ≡ then_steps (on next u) v
    go dead h = refl
    go (goes st') h = h st'

-- ---- the state behind the first bytes of a message

module _ (l : Limits) (s : List ℕ) where
  -- where the machine has come from
  pub record Came (i : ℕ) (st : State) : Type 0 where
    pub from : State
    pub here : At l s from i
    pub within : i < length s
    pub free : due l s from i ≡ false
    pub by : step from (byte_at s i) ≡ goes st

  pub came : (i : ℕ) (st : State) → At l s st (suc i) → Came i st
  unfolding state_at
  came i st h = go (state_at l s i) refl h
    where
      turn : (from : State) → At l s from i → (t : Bool) → (ltb i (length s) && not (due l s from i)) ≡ t
          → cond t (step from (byte_at s i)) dead ≡ goes st → Came i st
      turn from here true e q = record {
        from = from;
        here = here;
        within = ltb-true i (length s) (and_parts (ltb i (length s)) (not (due l s from i)) e).0;
        free = not-true (due l s from i) (and_parts (ltb i (length s)) (not (due l s from i)) e).1;
        by = q;
      }
      turn from here false e q = absurd (goes_dead (sym q))

      go : (next : Next) → state_at l s i ≡ next → further l s next i ≡ goes st → Came i st
      go dead e q = absurd (goes_dead (sym q))
      go (goes from) e q = turn from e (ltb i (length s) && not (due l s from i)) refl q

pub at_within : (l : Limits) (s : List ℕ) (i : ℕ) (st : State) → At l s st i → i ≤ length s
at_within l s zero st h = omega arith
at_within l s (suc i) st h = omega (arith, (came l s i st h).within)

pub steps_at : (l : Limits) (s : List ℕ) (i : ℕ) (st : State) → At l s st i → steps (ground first) (take i s) ≡ goes st
unfolding state_at steps
steps_at l s zero st h = h
steps_at l s (suc i) st h =
    let c = came l s i st h in
    rw (take-suc s i 0 c.within, steps_append (take i s) (byte_at s i ∷ []) (ground first), steps_at l s i c.from c.here)
    (steps_on c.from (byte_at s i) [] c.by)
