-- A SessionOk in Up that nothing answers ends the session in its 20th tick, and an answered one does not. Assumes nothing.
use Rattle.std.specs.Prelude.{None, Some}
use mathlib.Core.Path.{◌≡◌, refl, ap, ◌∙◌}
use mathlib.Core.Bool.{Bool, true, false, ◌||◌}
use mathlib.Core.List.{List, [], ◌∷◌, map, append-nil}
use mathlib.Core.Logic.{◌⊎◌}
use Prim.Native.Nat.{ℕ, suc, ◌+◌, ◌<◌}
use native.Mathlib.Omega.{arith}
use lib.Dec.{ltb, eqb}
use borrow.Author.Tests.{ltb-true, eqb-true}
use Rattle.std.proofs.lemmas.Bool.{and_from, and_parts}
use Rattle.std.proofs.lemmas.Bool.Decides.{nat_tests}
use Rattle.conduct.specs.Lists.{flat, all}
use Rattle.conduct.specs.Pushes.{terms_of, tells}
use Rattle.conduct.specs.Session.{Session, state_number, is_up}
use Rattle.conduct.specs.Sound.{sound_state, sound}
use Rattle.conduct.specs.Rules.{ages, tick, next_number}
use Rattle.conduct.specs.Step.{events_by, step}
use Rattle.conduct.specs.History.{codes_of, Entry, entry, history, session_after, ticks, Bearing, bearing, of_push}
use Rattle.conduct.specs.History.Bearing.{ticked}
use Rattle.conduct.specs.Timers.{unanswered, HeartbeatUnheard, HeardStaysUp}
use Rattle.conduct.specs.declared.State.TheVariants.{Waiting, Up}
use Rattle.conduct.specs.declared.Push.{Push}
use Rattle.conduct.specs.declared.Event.{Event}
use Rattle.conduct.specs.declared.Call.{Call}
use Rattle.conduct.specs.declared.Call.TheVariants as calls
use Rattle.conduct.specs.declared.Sweep.TheVariants as sweeps
use Rattle.conduct.specs.declared.Remark.TheVariants as remarks
use Rattle.conduct.specs.declared.Move.{Move}
use Rattle.conduct.proofs.Lists.{all_append}
use Rattle.conduct.proofs.Reached.{reached_is_sound}
use Rattle.conduct.proofs.Good.{good}
use Rattle.conduct.proofs.Said.{told_pass}
use Rattle.conduct.proofs.Clocks.{counts, tick_taken, counted}
use Rattle.conduct.proofs.Sent.{beating, heartbeat_due}
use Rattle.conduct.proofs.Lasting.{lost_codes, not_before, over}

-- ---- the ticks since the SessionOk n

abbrev Quiet : List Bearing → Type 0
Quiet bs = (bs ≡ []) ⊎ (bs ≡ ticked ∷ [])

module _ (n a : ℕ) where
  one_more : (s : Session) (c : Call) → s.state ≡ Up (Some n) a → state_number (step s c).next.state ≡ 5
      → Quiet (bearing n (entry s c)) → (step s c).next.state ≡ Up (Some n) (a + counts c (step s c))
  one_more s c h = grind (arith, nat_tests)

-- ---- over any calls

abbrev Keeps : ℕ → List Entry → Type 0
Keeps n xs = (all (λ (x : Entry). eqb (state_number x.state) 5) xs ≡ true) × unanswered n xs

still_open : (n : ℕ) (cs : List Call) (s : Session) → sound s ≡ true → s.state ≡ Up (Some n) 0 → Keeps n (history s cs)
    → (session_after s cs).state ≡ Up (Some n) (ticks (history s cs))
still_open n cs s ok h keeps =
    counted (λ (a : ℕ) (t : Session). t.state ≡ Up (Some n) a) (Keeps n)
    (λ t c xs a ok h k.
    let b = and_parts (eqb (state_number (step t c).next.state) 5) _ k.0 in (
      one_more n a t c h (eqb-true _ 5 b.0) (k.1 [] xs (entry t c) refl),
      (b.1, λ before after x e. k.1 (entry t c ∷ before) after x (ap (λ (ys : List Entry). entry t c ∷ ys) e)),
    ))
    cs s ok h keeps

-- ---- its ticks

unheard_quiet : (t : Session) (n a : ℕ) → t.state ≡ Up (Some n) a → suc a < 20
    → (all of_push (step t calls.Tick).events ≡ true) × (is_up (step t calls.Tick).next.state ≡ true)
unheard_quiet t n a e h =
    rw (tick_taken t (Up (Some n) a) e refl, not_before a h, append-nil (flat (tells (terms_of t.site) sweeps.Older) t.pushes))
    (told_pass of_push (λ n d. refl) (terms_of t.site) sweeps.Older t.pushes, refl)

unheard_last : (t : Session) (n a : ℕ) → t.state ≡ Up (Some n) a → suc a ≡ 20
    → (codes_of (step t calls.Tick).events ≡ 19 ∷ 7 ∷ map (λ (p : Push). 12) t.pushes) × ((step t calls.Tick).next.state ≡ Waiting 300)
unheard_last t n a e h =
    rw (tick_taken t (Up (Some n) a) e refl, over a h)
    (ap (λ (codes : List ℕ). 19 ∷ 7 ∷ codes) (lost_codes (terms_of t.site) t.pushes), refl)

pub heartbeat_unheard : HeartbeatUnheard
heartbeat_unheard s cs n ok e st un =
    let a = ticks (history s cs) in
    let t : Session = session_after s cs in
    let now : t.state ≡ Up (Some n) a = still_open n cs s ok e (st, un) in
    let sound_now : sound_state t.site.interval (Up (Some n) a) ≡ true = rw now at (good {s = t} (reached_is_sound s cs ok)).state_is in
    record { shorter = ltb-true a 20 sound_now; quiet = unheard_quiet t n a now; last = unheard_last t n a now }

-- what a tick says is of pushes, or the next SessionOk
abbrev of_push_or_next : Event → Bool
of_push_or_next e = of_push e || eqb e.code 3

abbrev Stays : Session → Move → Type 0
Stays s m = (all of_push_or_next (events_by s m) ≡ true) × (is_up m.to ≡ true)

resting : (s : Session) (age : ℕ) → Stays s (ages (Up None age) remarks.Nothing)
resting s age = (rw (append-nil (flat (tells (terms_of s.site) sweeps.Older) s.pushes)) (told_pass of_push_or_next (λ n d. refl) (terms_of s.site) sweeps.Older s.pushes), refl)

sending : (s : Session) → Stays s (beating (next_number s))
sending s =
    (all_append of_push_or_next (flat (tells (terms_of s.site) sweeps.Older) s.pushes) _ ∙ and_from _ _ (told_pass of_push_or_next (λ n d. refl) (terms_of s.site) sweeps.Older s.pushes) refl, refl)

pub heard_stays_up : HeardStaysUp
heard_stays_up s age e = rw (tick_taken s (Up None age) e refl) (go (ltb (age + 1) s.site.interval) refl)
  where
    go : (b : Bool) → ltb (age + 1) s.site.interval ≡ b → Stays s (tick s.site.interval (next_number s) (Up None age))
    go true h = rw h (resting s (age + 1))
    go false h = rw (heartbeat_due s.site.interval (next_number s) age h) (sending s)
