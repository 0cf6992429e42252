-- A message with the number of the open SessionOk is taken for its answer. Assumes nothing.
use Rattle.std.specs.Prelude.{None, Some}
use mathlib.Core.Path.{◌≡◌, refl, ap}
use mathlib.Core.Bool.{Bool, true}
use mathlib.Core.List.{List, [], ◌∷◌}
use Prim.Native.Nat.{ℕ}
use lib.Dec.{eqb}
use borrow.Author.Tests.{eq-eqb}
use Rattle.std.proofs.lemmas.Bool.Decides.{nat_tests}
use native.Mathlib.Omega.{arith}
use Rattle.message.specs.declared.Kind.TheVariants as kinds
use Rattle.message.specs.declared.Advice.{Advice}
use Rattle.conduct.specs.Session.{Session, is_up}
use Rattle.conduct.specs.Table.{action_of}
use Rattle.conduct.specs.Rules.{goes, note, waits, ok_naming, advisory_naming}
use Rattle.conduct.specs.Step.{Answered, step}
use Rattle.conduct.specs.History.{codes_of, entry, advice_bearing, bearing}
use Rattle.conduct.specs.History.Bearing.{acknowledged}
use Rattle.conduct.specs.Timers.{AnswerIsHeard}
use Rattle.conduct.specs.declared.State.{State}
use Rattle.conduct.specs.declared.State.TheVariants.{Confirming, Up}
use Rattle.conduct.specs.declared.Call.{Call}
use Rattle.conduct.specs.declared.Action.TheVariants as actions
use Rattle.conduct.specs.declared.Parting.TheVariants as partings
use Rattle.conduct.specs.declared.Remark.TheVariants as remarks
use Rattle.conduct.specs.declared.Move.{Move}
use Rattle.conduct.proofs.Good.{good}
use Rattle.conduct.proofs.Clocks.{taken}
use Rattle.conduct.proofs.Lasting.{untouched}

-- ---- where it leads

-- what the answer says, and where it leads, is what its move does
abbrev Does : Answered → List ℕ → State → Type 0
Does r codes to = (codes_of r.events ≡ codes) × (r.next.state ≡ to)

-- ---- an Ok, and an Advisory, where the table has something for it in the state

module _ (s : Session) (c : Call) (n : ℕ) (state : State) (e : s.state ≡ state) (to : Move) (codes : List ℕ) (after : State)
    (does : Does (taken s to) codes after)
  where
    by_an_ok : action_of state kinds.Ok ≡ actions.Acknowledge → ok_naming s n state ≡ to → bearing n (entry s c) ≡ acknowledged ∷ []
        → Does (step s c) codes after
    by_an_ok action leads h = grind (arith, nat_tests)

    by_an_advisory : action_of state kinds.Advisory ≡ actions.Advise → ((advice : Advice) → advisory_naming s advice n state ≡ to)
        → (b : Bool) → bearing n (entry s c) ≡ advice_bearing b ∷ [] → Does (step s c) codes after
    by_an_advisory action leads b h = grind (arith, nat_tests)

-- ---- in Confirming and in Up

module _ (s : Session) (n age : ℕ) where
  its_own : eqb n n ≡ true
  its_own = eq-eqb n n refl

  ok_confirms : ok_naming s n (Confirming n age) ≡ goes (Up None age) (note 8)
  ok_confirms = rw its_own

  advisory_ends : (advice : Advice) → advisory_naming s advice n (Confirming n age) ≡ waits partings.Disconnect
  advisory_ends advice = rw its_own

  ok_closes : ok_naming s n (Up (Some n) age) ≡ goes (Up None age) remarks.Nothing
  ok_closes = rw its_own

  advisory_closes : (advice : Advice) → advisory_naming s advice n (Up (Some n) age) ≡ goes (Up None age) (note 17)
  advisory_closes advice = rw its_own

pub answer_is_heard : AnswerIsHeard
answer_is_heard s c n ok =
    record {
      confirms = λ age e. by_an_ok s c n (Confirming n age) e _ _ _ (rw (untouched s), refl) refl (ok_confirms s n age);
      ends = λ age b e.
          by_an_advisory s c n (Confirming n age) e _ _ _ (rw ((good {s = s} ok).quiet (ap is_up e)), refl) refl (advisory_ends s n age) b;
      closes = λ age e. by_an_ok s c n (Up (Some n) age) e _ _ _ (rw (untouched s), refl) refl (ok_closes s n age);
      closes_too = λ age b e. by_an_advisory s c n (Up (Some n) age) e _ _ _ (rw (untouched s), refl) refl (advisory_closes s n age) b;
    }
