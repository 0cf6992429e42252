-- THEOREMS: the contract of each public function of this crate has one answer, and for those that are lent an event list one list. Assumes nothing.
use Rattle.std.specs.Prelude.{Result, Ok, Err}
use mathlib.Core.Path.{◌≡◌, refl, sym, ap, ◌∙◌}
use mathlib.Core.Bool.{cond}
use mathlib.Core.List.{List}
use Prim.Native.Nat.{ℕ}
use native.Mathlib.Omega.{arith}
use lib.Dec.{eqb}
use lib.ListN.{length}
use Rattle.laws.proofs.OneAnswer.{one_answer, one_said}
use Rattle.message.specs.declared.Message.{Message}
use Rattle.conduct.specs.declared.Call.{Call}
use Rattle.conduct.specs.declared.Call.TheVariants as variants
use Rattle.conduct.specs.declared.Event.{Event}
use Rattle.conduct.specs.declared.Site.{Site}
use Rattle.conduct.specs.declared.Pushed.TheVariants as pushed
use Rattle.conduct.specs.Session.{usual}
use Rattle.session.specs.Record.{made_of, with_last}
use Rattle.session.specs.Answers.{Told, told, refusal_number, told_said, SaysAndWrites, said_in_list, call_of_bytes}
use Rattle.session.specs.declared.Accepted.{Accepted}
use Rattle.session.specs.declared.Made.{Made}
use Rattle.session.specs.declared.Refusal.{Refusal}
use Rattle.session.specs.declared.Refusal.TheVariants.{ListTooShort, Stopped, OutOfState, TooManyPushes, Inconsistent}
use Rattle.session.specs.declared.Said.{Said}
use Rattle.session.specs.declared.Session.{Session}

-- ---- no two answers of the code say the same

refusal_by : ℕ → Refusal
refusal_by number =
    cond (eqb number 3) ListTooShort (cond (eqb number 5) Stopped (cond (eqb number 6) OutOfState (cond (eqb number 7) TooManyPushes Inconsistent)))

refusal_by_number : (why : Refusal) → refusal_by (refusal_number why) ≡ why
unfolding refusal_by
refusal_by_number ListTooShort = refl
refusal_by_number Stopped = refl
refusal_by_number OutOfState = refl
refusal_by_number TooManyPushes = refl
refusal_by_number Inconsistent = refl

-- one refusal for each number, and none for 0
one_refusal : (why other : Refusal) → refusal_number why ≡ refusal_number other → why ≡ other
one_refusal why other e = sym (refusal_by_number why) ∙ ap refusal_by e ∙ refusal_by_number other

no_refusal : (why : Refusal) → refusal_number why ≡ 0 → ⊥
no_refusal ListTooShort e = omega arith
no_refusal Stopped e = omega arith
no_refusal OutOfState e = omega arith
no_refusal TooManyPushes e = omega arith
no_refusal Inconsistent e = omega arith

told_said_once : (d : Session) (r r' : Result Accepted Refusal) → told_said d r ≡ told_said d r' → r ≡ r'
told_said_once d (Ok a) (Ok b) e = λ i. Ok (record { next = (e i).next; events = (e i).events })
told_said_once d (Ok a) (Err why) e = absurd (no_refusal why (sym (λ i. (e i).refusal)))
told_said_once d (Err why) (Ok b) e = absurd (no_refusal why (λ i. (e i).refusal))
told_said_once d (Err why) (Err other) e = ap Err (one_refusal why other (λ i. (e i).refusal))

said_in_list_once : (d : Session) (r r' : Result Said Refusal) → said_in_list d r ≡ said_in_list d r' → r ≡ r'
said_in_list_once d (Ok a) (Ok b) e = λ i. Ok (record { next = (e i).next; count = (e i).count })
said_in_list_once d (Ok a) (Err why) e = absurd (no_refusal why (sym (λ i. (e i).refusal)))
said_in_list_once d (Err why) (Ok b) e = absurd (no_refusal why (λ i. (e i).refusal))
said_in_list_once d (Err why) (Err other) e = ap Err (one_refusal why other (λ i. (e i).refusal))

pub from_refusal_once : (refusal : Refusal) {r r' : ℕ} → r ≡ refusal_number refusal → r' ≡ refusal_number refusal → r ≡ r'
from_refusal_once refusal = one_answer

-- ---- making, and the calls by value

pub usual_once : (interval : ℕ) {r r' : Site} → r ≡ usual interval → r' ≡ usual interval → r ≡ r'
usual_once interval = one_answer

pub make_once : (site : Site) {r r' : Made} → r ≡ made_of site → r' ≡ made_of site → r ≡ r'
make_once site = one_answer

module _ (places : ℕ) (self : Session) {r r' : Result Accepted Refusal} where
  one_told : {t : Told} → told_said self r ≡ t → told_said self r' ≡ t → r ≡ r'
  one_told = one_said (told_said self) (told_said_once self)

  pub told_once : (call : Call) → told_said self r ≡ told places self call → told_said self r' ≡ told places self call → r ≡ r'
  told_once call = one_told

  pub tick_once : told_said self r ≡ told places self variants.Tick → told_said self r' ≡ told places self variants.Tick → r ≡ r'
  tick_once = one_told

  pub connected_once : told_said self r ≡ told places self variants.Connected → told_said self r' ≡ told places self variants.Connected → r ≡ r'
  connected_once = one_told

  pub lost_once : told_said self r ≡ told places self variants.Lost → told_said self r' ≡ told places self variants.Lost → r ≡ r'
  lost_once = one_told

  pub stop_once : told_said self r ≡ told places self variants.Stop → told_said self r' ≡ told places self variants.Stop → r ≡ r'
  stop_once = one_told

  pub respond_once : (handle : ℕ) → told_said self r ≡ told places self (variants.Push pushed.Response handle)
      → told_said self r' ≡ told places self (variants.Push pushed.Response handle) → r ≡ r'
  respond_once handle = one_told

  pub advise_once : (handle : ℕ) → told_said self r ≡ told places self (variants.Push pushed.Advisory handle)
      → told_said self r' ≡ told places self (variants.Push pushed.Advisory handle) → r ≡ r'
  advise_once handle = one_told

  pub heard_once : (message : Message) → told_said self r ≡ told places self (variants.Heard message)
      → told_said self r' ≡ told places self (variants.Heard message) → r ≡ r'
  heard_once message = one_told

  pub unreadable_once : (refusal : ℕ) → told_said self r ≡ told places self (variants.Unreadable refusal)
      → told_said self r' ≡ told places self (variants.Unreadable refusal) → r ≡ r'
  unreadable_once refusal = one_told

  pub hear_once : (message : List ℕ) → told_said self r ≡ told places self (call_of_bytes message)
      → told_said self r' ≡ told places self (call_of_bytes message) → r ≡ r'
  hear_once message = one_told

pub with_last_once : (last : ℕ) (self : Session) {r r' : Session} → r ≡ with_last last self → r' ≡ with_last last self → r ≡ r'
with_last_once last self = one_answer

-- ---- with a lent list

module _ (self : Session) (list : List Event) {r r' : Result Said Refusal} {left left' : List Event} where
  one_and_list : (t : Told) → SaysAndWrites t list (said_in_list self r) left → SaysAndWrites t list (said_in_list self r') left'
      → (r ≡ r') × (left ≡ left')
  one_and_list t says says' =
      (one_said (said_in_list self) (said_in_list_once self) says.0 says'.0, one_answer says.1 says'.1)

  pub told_into_once : (call : Call) → SaysAndWrites (told (length list) self call) list (said_in_list self r) left
      → SaysAndWrites (told (length list) self call) list (said_in_list self r') left' → (r ≡ r') × (left ≡ left')
  told_into_once call = one_and_list _

  pub hear_into_once : (message : List ℕ) → SaysAndWrites (told (length list) self (call_of_bytes message)) list (said_in_list self r) left
      → SaysAndWrites (told (length list) self (call_of_bytes message)) list (said_in_list self r') left' → (r ≡ r') × (left ≡ left')
  hear_into_once message = one_and_list _
