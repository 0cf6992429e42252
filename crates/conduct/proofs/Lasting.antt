-- As long as the state is Waiting, Opening or Confirming, only ticks move its timer; and what a tick there says. Assumes nothing.
use mathlib.Core.Path.{◌≡◌, refl, sym, ap, ◌∙◌}
use mathlib.Core.Bool.{true, false}
use mathlib.Core.List.{List, [], ◌∷◌, ◌++◌, map}
use Prim.Native.Nat.{ℕ, suc, ◌+◌, ◌<◌}
use native.Mathlib.Omega.{arith}
use lib.Dec.{ltb, eqb}
use borrow.Author.Tests.{eqb-true}
use Rattle.std.proofs.lemmas.Bool.{and_parts}
use native.Mathlib.Nat.{add-zero}
use Rattle.std.proofs.lemmas.Bool.Decides.{nat_tests}
use Rattle.conduct.specs.Lists.{flat, all}
use Rattle.conduct.specs.Pushes.{terms_of, tells}
use Rattle.conduct.specs.Session.{Session, state_number, is_up}
use Rattle.conduct.specs.Sound.{sound}
use Rattle.conduct.specs.Rules.{tick}
use Rattle.conduct.specs.Step.{Answered, step}
use Rattle.conduct.specs.History.{codes_of, Entry, history, session_after, ticks}
use Rattle.conduct.specs.Timers.{stays}
use Rattle.conduct.specs.declared.State.{State}
use Rattle.conduct.specs.declared.Push.{Push}
use Rattle.conduct.specs.declared.Call.{Call}
use Rattle.conduct.specs.declared.Sweep.TheVariants as sweeps
use Rattle.conduct.specs.declared.Move.{Move}
use Rattle.conduct.specs.declared.Terms.{Terms}
use Rattle.conduct.proofs.Lists.{flat_nothing}
use Rattle.conduct.proofs.Good.{good}
use Rattle.conduct.proofs.Reached.{reached_is_sound}
use Rattle.conduct.proofs.Clocks.{counts, by_turns, counted}
use Rattle.conduct.proofs.Onward.{Onward}
use Rattle.conduct.proofs.Onward.Onward.{same, opens, answers, confirms, hears, ends, stops}

-- ---- as long as the state is one before Up, only ticks move its timer

unmoved : {next : ℕ} {c : Call} {from : State} (m : Move) → Onward next c from m → state_number from < 5 → state_number m.to ≡ state_number from
    → m.to ≡ from
unmoved m (same e q) below n = e
unmoved m (opens f t q) below n = absurd (omega (arith, ap state_number f, ap state_number t))
unmoved m (answers age f t) below n = absurd (omega (arith, ap state_number f, ap (λ (x : Move). state_number x.to) t))
unmoved m (confirms k age f t q) below n = absurd (omega (arith, ap state_number f, ap state_number t))
unmoved m (hears k age f t q b) below n = absurd (omega (arith, ap state_number f))
unmoved m (ends more t q) below n = absurd (omega (arith, ap state_number t))
unmoved m (stops t q) below n = absurd (omega (arith, ap state_number t))

-- `Holds a` says that the timer has counted a ticks
module _ (number : ℕ) (below : number < 5) (Holds : ℕ → State → Type 0)
    (numbered : (a : ℕ) (state : State) → Holds a state → state_number state ≡ number)
    (ticks_on_lem : (interval next a : ℕ) (state : State) → Holds a state → state_number (tick interval next state).to ≡ number
    → Holds (a + 1) (tick interval next state).to)
  where
    one_more : (s : Session) (c : Call) (a : ℕ) → Holds a s.state → state_number (step s c).next.state ≡ number
        → Holds (a + counts c (step s c)) (step s c).next.state
    one_more s c a h =
        by_turns (λ (k : ℕ) (r : Answered). state_number r.next.state ≡ number → Holds (a + k) r.next.state) s c
        (λ k n. still) (λ m o n. rw (unmoved m o (rw own below) (n ∙ sym own)) still)
        (λ e n. ticks_on_lem s.site.interval _ a s.state h n)
      where
        own : state_number s.state ≡ number
        own = numbered a s.state h

        still : Holds (a + 0) s.state
        still = rw (add-zero a) h

    pub lasting : (cs : List Call) (s : Session) → sound s ≡ true → Holds 0 s.state → stays number s cs
        → Holds (ticks (history s cs)) (session_after s cs).state
    lasting cs s ok h k =
        counted (λ (a : ℕ) (t : Session). Holds a t.state)
        (λ (xs : List Entry). all (λ (x : Entry). eqb (state_number x.state) number) xs ≡ true)
        (λ t c xs a ok h k.
        let b = and_parts (eqb (state_number (step t c).next.state) number) _ k in
        (one_more t c a h (eqb-true _ number b.0), b.1))
        cs s ok h k

-- ---- what a tick says

-- open pushes are not touched, or are closed
pub untouched : (t : Session) → flat (tells (terms_of t.site) sweeps.Still) t.pushes ≡ []
untouched t = flat_nothing (tells (terms_of t.site) sweeps.Still) (λ p. refl) t.pushes

pub lost_codes : (terms : Terms) (ps : List Push) → codes_of (flat (tells terms sweeps.Lost) ps ++ []) ≡ map (λ (p : Push). 12) ps
lost_codes terms [] = refl
lost_codes terms (p ∷ ps) = ap (λ (codes : List ℕ). 12 ∷ codes) (lost_codes terms ps)

-- outside Up none is open
pub none_open : (cs : List Call) (s : Session) {state : State} → sound s ≡ true → (session_after s cs).state ≡ state → is_up state ≡ false
    → (session_after s cs).pushes ≡ []
none_open cs s ok e down = (good {s = session_after s cs} (reached_is_sound s cs ok)).quiet (ap is_up e ∙ down)

-- ---- a state is over in its 20th tick, and not before

pub not_before : (a : ℕ) → suc a < 20 → ltb a 19 ≡ true
not_before a h = grind (arith, nat_tests)

pub over : (a : ℕ) → suc a ≡ 20 → ltb a 19 ≡ false
over a h = grind (arith, nat_tests)
