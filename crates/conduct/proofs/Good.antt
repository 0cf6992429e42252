-- What the test of specs/Sound says of a session, fact by fact; and that the next number of such a session is free.
-- Assumes nothing.
use Rattle.std.specs.Prelude.{Option, None, Some}
use mathlib.Core.Path.{◌≡◌}
use mathlib.Core.Bool.{Bool, true, false, ◌||◌}
use mathlib.Core.List.{List, []}
use Prim.Native.Nat.{ℕ, ◌≤◌}
use native.Mathlib.Omega.{arith}
use lib.Dec.{leb, eqb}
use lib.ListN.{length, length-append, length-map}
use borrow.Author.Tests.{leb-true, eqb-true}
use Rattle.std.proofs.lemmas.Bool.{and_parts}
use Rattle.std.proofs.lemmas.List.{nil_from_length}
use Rattle.std.proofs.lemmas.Bool.Decides.{nat_tests}
use Rattle.conduct.specs.Lists.{all, among, distinct}
use Rattle.conduct.specs.Numbers.{next_free}
use Rattle.conduct.specs.Pushes.{terms_of}
use Rattle.conduct.specs.Session.{Session, allowed_interval, allowed_resends, is_up, awaited_numbers, session_ok_numbers, held}
use Rattle.conduct.specs.Sound.{sound_state, sound_push, sound}
use Rattle.conduct.specs.Rules.{next_number}
use Rattle.conduct.specs.declared.State.{State}
use Rattle.conduct.specs.declared.State.TheVariants.{Waiting, Connecting, Opening, Confirming, Up, Stopped}
use Rattle.conduct.specs.declared.Push.{Push}
use Rattle.conduct.proofs.Free.{next_is_free}

pub record Good (s : Session) : Type 0 where
  pub interval_is : allowed_interval s.site.interval ≡ true
  pub resends_is : allowed_resends s.site.resends ≡ true
  pub state_is : sound_state s.site.interval s.state ≡ true
  pub room : length s.pushes ≤ 32
  -- outside Up no push is open
  pub quiet : is_up s.state ≡ false → s.pushes ≡ []
  pub pushes_are : all (sound_push (terms_of s.site)) s.pushes ≡ true
  pub numbers_are : distinct (held s) ≡ true

-- ---- the test and the facts

quiet_of : (b : Bool) (ps : List Push) → (b || eqb (length ps) 0) ≡ true → b ≡ false → ps ≡ []
quiet_of true ps h e = cc
quiet_of false ps h e = nil_from_length ps (eqb-true (length ps) 0 h)

pub good : {s : Session} → sound s ≡ true → Good s
good {s} h =
    let a = and_parts (allowed_interval s.site.interval) _ h in
    let z = and_parts (allowed_resends s.site.resends) _ a.1 in
    let b = and_parts (sound_state s.site.interval s.state) _ z.1 in
    let c = and_parts (leb (length s.pushes) 32) _ b.1 in
    let d = and_parts (is_up s.state || eqb (length s.pushes) 0) _ c.1 in
    let e = and_parts (all (sound_push (terms_of s.site)) s.pushes) _ d.1 in
    record {
      interval_is = a.0;
      resends_is = z.0;
      state_is = b.0;
      room = leb-true _ 32 c.0;
      quiet = quiet_of (is_up s.state) s.pushes d.0;
      pushes_are = e.0;
      numbers_are = e.1;
    }

pub sound_of : {s : Session} → Good s → sound s ≡ true
sound_of {s} g = grind (arith, nat_tests)

-- ---- at most 33 numbers are held

few_awaited : (w : Option ℕ) → length (awaited_numbers w) ≤ 1
few_awaited None = omega arith
few_awaited (Some n) = omega arith

few_oks : (state : State) → length (session_ok_numbers state) ≤ 1
few_oks (Waiting left) = omega arith
few_oks Connecting = omega arith
few_oks (Opening age) = omega arith
few_oks (Confirming number age) = omega arith
few_oks (Up waits age) = few_awaited waits
few_oks Stopped = omega arith

pub few_held : {s : Session} → Good s → length (held s) ≤ 33
few_held {s} g =
    simp (length-append, length-map) (omega (arith, few_oks s.state, g.room))

-- so one of the numbers after any is free, and with that the session's next one
pub some_number_free : {s : Session} → Good s → (last : ℕ) → among (next_free (held s) last) (held s) ≡ false
some_number_free {s} g last = next_is_free (held s) last (omega (arith, few_held g))

pub next_number_free : {s : Session} → Good s → among (next_number s) (held s) ≡ false
next_number_free {s} g = some_number_free g s.last
