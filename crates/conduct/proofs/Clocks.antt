-- A call is refused, leads onward, or is a tick: so what holds of these holds of any call, and the ticks of a state's timer are counted over any calls.
-- Assumes nothing.
use mathlib.Core.Path.{◌≡◌, refl, ap}
use mathlib.Core.Bool.{true, false, cond, ◌&&◌, ◌||◌}
use mathlib.Core.List.{List, [], ◌∷◌}
use Prim.Native.Nat.{ℕ, zero, suc, ◌+◌, ◌<◌}
use native.Mathlib.Omega.{arith}
use lib.Dec.{eqb, eqb-suc-zero}
use native.Mathlib.Nat.{add-zero, zero-add, add_assoc}
use Rattle.std.proofs.lemmas.Bool.Decides.{nat_tests}
use Rattle.conduct.specs.Session.{Session, is_connecting, is_linked, is_stopped, state_number, refusal_of}
use Rattle.conduct.specs.Sound.{sound}
use Rattle.conduct.specs.Table.{action_of}
use Rattle.conduct.specs.Rules.{tick, stop, next_number, move_of}
use Rattle.conduct.specs.Step.{events_by, moved_by, Answered, answer, step}
use Rattle.conduct.specs.History.{Entry, entry, history, session_after, is_tick, ticks}
use Rattle.conduct.specs.declared.State.{State}
use Rattle.conduct.specs.declared.State.TheVariants.{Waiting, Connecting, Opening, Confirming, Up, Stopped}
use Rattle.conduct.specs.declared.Call.{Call}
use Rattle.conduct.specs.declared.Call.TheVariants as calls
use Rattle.conduct.specs.declared.Move.{Move}
use Rattle.conduct.proofs.Refused.{accepted_fits}
use Rattle.conduct.proofs.Moves.{is_session_ok}
use Rattle.conduct.proofs.Reached.{sound_step}
use Rattle.conduct.proofs.Onward.{Onward}
use Rattle.conduct.proofs.Onward.Onward.{same, opens, ends, stops}
use Rattle.conduct.proofs.Acted.{acted_onward, placed}

-- ---- any call that is no tick

connecting_is : (state : State) → is_connecting state ≡ true → state ≡ Connecting
connecting_is (Waiting left) h = cc
connecting_is Connecting h = refl
connecting_is (Opening age) h = cc
connecting_is (Confirming number age) h = cc
connecting_is (Up waiting age) h = cc
connecting_is Stopped h = cc

losing_from : (state : State) → (is_connecting state || is_linked state) ≡ true → 1 < state_number state
losing_from (Waiting left) h = cc
losing_from Connecting h = omega arith
losing_from (Opening age) h = omega arith
losing_from (Confirming number age) h = omega arith
losing_from (Up waiting age) h = omega arith
losing_from Stopped h = omega arith

stop_stops : (state : State) → ((stop state).to ≡ Stopped) × (is_session_ok (stop state).remark ≡ false)
stop_stops (Waiting left) = (refl, refl)
stop_stops Connecting = (refl, refl)
stop_stops (Opening age) = (refl, refl)
stop_stops (Confirming number age) = (refl, refl)
stop_stops (Up waiting age) = (refl, refl)
stop_stops Stopped = (refl, refl)

onward : (s : Session) (c : Call) → refusal_of s c ≡ 0 → is_tick c ≡ false → Onward (next_number s) c s.state (move_of s c)
onward s calls.Tick a t = cc
onward s calls.Connected a t = opens (connecting_is s.state (accepted_fits s calls.Connected a)) refl refl
onward s calls.Lost a t = ends (losing_from s.state (accepted_fits s calls.Lost a)) refl refl
onward s calls.Stop a t = stops (stop_stops s.state).0 (stop_stops s.state).1
onward s (calls.Push what handle) a t = same refl refl
onward s (calls.Heard m) a t =
    acted_onward s m (action_of s.state m.kind) (placed s m s.state refl (accepted_fits s (calls.Heard m) a))
onward s (calls.Unreadable refusal) a t = same refl refl

-- ---- any call

abbrev pub taken : Session → Move → Answered
taken s m = record { refusal = 0; next = moved_by s m; events = events_by s m }

-- the ticks that an answered call counts for
abbrev pub counts : Call → Answered → ℕ
counts c a = cond (eqb a.refusal 0 && is_tick c) 1 0

-- what holds of a refused call, of one that leads onward and of a tick, holds of any call
pub by_turns : (P : ℕ → Answered → Type 0) (s : Session) (c : Call)
    → ((k : ℕ) → P 0 (record { refusal = suc k; next = s; events = [] }))
    → ((m : Move) → Onward (next_number s) c s.state m → P 0 (taken s m))
    → (c ≡ calls.Tick → P 1 (taken s (tick s.site.interval (next_number s) s.state)))
    → P (counts c (step s c)) (step s c)
by_turns P s c refused led ticked = go (refusal_of s c) refl
  where
    accepted_one : (d : Call) → c ≡ d → refusal_of s c ≡ 0 → P (cond (is_tick d) 1 0) (taken s (move_of s c))
    accepted_one calls.Tick e a = rw e (ticked e)
    accepted_one calls.Connected e a = led (move_of s c) (onward s c a (ap is_tick e))
    accepted_one calls.Lost e a = led (move_of s c) (onward s c a (ap is_tick e))
    accepted_one calls.Stop e a = led (move_of s c) (onward s c a (ap is_tick e))
    accepted_one (calls.Push what handle) e a = led (move_of s c) (onward s c a (ap is_tick e))
    accepted_one (calls.Heard m) e a = led (move_of s c) (onward s c a (ap is_tick e))
    accepted_one (calls.Unreadable refusal) e a = led (move_of s c) (onward s c a (ap is_tick e))

    go : (k : ℕ) → refusal_of s c ≡ k → P (counts c (answer k s c)) (answer k s c)
    go zero e = accepted_one c refl e
    go (suc k) e = rw (eqb-suc-zero k) (refused k)

-- a tick where the session is not stopped
pub tick_taken : (s : Session) (state : State) → s.state ≡ state → is_stopped state ≡ false
    → step s calls.Tick ≡ taken s (tick s.site.interval (next_number s) state)
tick_taken s state e going = grind (arith, nat_tests)

-- ---- calls one after the other

ticks_more : (s : Session) (c : Call) (xs : List Entry) → ticks (entry s c ∷ xs) ≡ counts c (step s c) + ticks xs
ticks_more s c xs = grind (arith, nat_tests)

-- What holds of a session at `a` ticks, and after a call at those that it counts for, holds after any calls at all their ticks. `Keeps` is what is known of
-- the entries.
module _ (Holds : ℕ → Session → Type 0) (Keeps : List Entry → Type 0)
    (one : (s : Session) (c : Call) (xs : List Entry) (a : ℕ) → sound s ≡ true → Holds a s → Keeps (entry s c ∷ xs)
    → Holds (a + counts c (step s c)) (step s c).next × Keeps xs)
  where
    counting : (cs : List Call) (s : Session) (a : ℕ) → sound s ≡ true → Holds a s → Keeps (history s cs)
        → Holds (a + ticks (history s cs)) (session_after s cs)
    counting [] s a ok h k = rw (add-zero a) h
    counting (c ∷ cs) s a ok h k =
        let next = one s c (history (step s c).next cs) a ok h k in
        rw (ticks_more s c (history (step s c).next cs), ← add_assoc)
        (counting cs (step s c).next (a + counts c (step s c)) (sound_step s c ok) next.0 next.1)

    pub counted : (cs : List Call) (s : Session) → sound s ≡ true → Holds 0 s → Keeps (history s cs)
        → Holds (ticks (history s cs)) (session_after s cs)
    counted cs s ok h k = rw (zero-add (ticks (history s cs))) at (counting cs s 0 ok h k)
