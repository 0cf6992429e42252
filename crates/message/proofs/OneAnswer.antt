-- THEOREMS: the contract of each public function of this crate has one answer. Assumes nothing.
use mathlib.Core.Path.{◌≡◌, refl, ap}
use Prim.Native.Nat.{ℕ}
use Rattle.laws.proofs.OneAnswer.{one_answer}
use Rattle.std.specs.Prelude.{Result, Ok, Err, cond, eqb}
use Rattle.message.specs.Reading.{said, reason_number}
use Rattle.message.specs.declared.Reason.{Reason}
use Rattle.message.specs.declared.Reason.TheVariants as reasons
use Rattle.message.specs.declared.Refusal.{Refusal}
use Rattle.message.specs.Messages.{kind_number}
use Rattle.message.specs.Values.{status_number, advice_number}
use Rattle.message.specs.declared.Kind.{Kind}
use Rattle.message.specs.declared.Status.{Status}
use Rattle.message.specs.declared.Advice.{Advice}

module _ {r r' : ℕ} where
  pub from_kind_once : (kind : Kind) → r ≡ kind_number kind → r' ≡ kind_number kind → r ≡ r'
  from_kind_once kind = one_answer

  pub from_status_once : (status : Status) → r ≡ status_number status → r' ≡ status_number status → r ≡ r'
  from_status_once status = one_answer

  pub from_advice_once : (advice : Advice) → r ≡ advice_number advice → r' ≡ advice_number advice → r ≡ r'
  from_advice_once advice = one_answer

  pub from_reason_once : (reason : Reason) → r ≡ reason_number reason → r' ≡ reason_number reason → r ≡ r'
  from_reason_once reason = one_answer

-- ---- no two answers of a reader say the same

reason_of : ℕ → Reason
reason_of number =
    cond (eqb number 8) reasons.TooLong (
    cond (eqb number 9) reasons.NotWellFormed (
    cond (eqb number 10) reasons.TooDeep (
    cond (eqb number 11) reasons.TooManyAttributes (
    cond (eqb number 12) reasons.LeftOut (
    cond (eqb number 13) reasons.NoneOfTheSeven reasons.NameTooLong)))))

reason_is : (x : Reason) → reason_of (reason_number x) ≡ x
unfolding reason_of
reason_is reasons.TooLong = refl
reason_is reasons.NotWellFormed = refl
reason_is reasons.TooDeep = refl
reason_is reasons.TooManyAttributes = refl
reason_is reasons.LeftOut = refl
reason_is reasons.NoneOfTheSeven = refl
reason_is reasons.NameTooLong = refl

joined : {x x' : Reason} {p p' : ℕ} → x ≡ x' → p ≡ p' → ◌≡◌ {A = Refusal} (record { reason = x; place = p }) (record { reason = x'; place = p' })
joined same same' = cc

refusal_numbered : (e e' : Refusal) → reason_number e.reason ≡ reason_number e'.reason → e.place ≡ e'.place → e ≡ e'
refusal_numbered e e' numbers places =
    let reasons_same : e.reason ≡ e'.reason = cc (reason_is e.reason, reason_is e'.reason, ap reason_of numbers) in
    joined reasons_same places

pub says_one_thing : {A : Type 0} (r r' : Result A Refusal) → said r ≡ said r' → r ≡ r'
says_one_thing (Ok x) (Ok x') same = cc
says_one_thing (Ok x) (Err e) same = cc
says_one_thing (Err e) (Ok x) same = cc
says_one_thing (Err e) (Err e') same =
    let numbers : reason_number e.reason ≡ reason_number e'.reason = cc in
    let places : e.place ≡ e'.place = cc in
    ap Err (refusal_numbered e e' numbers places)
