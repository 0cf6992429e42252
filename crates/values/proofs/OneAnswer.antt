-- Promise 7, one answer: the contract of each public function of this crate has one answer. Assumes nothing.
use Rattle.std.specs.Prelude.{Option}
use mathlib.Core.Path.{◌≡◌}
use mathlib.Core.List.{List}
use Prim.Native.Nat.{ℕ, suc}
use lib.ListN.{length}
use Rattle.laws.proofs.OneAnswer.{one_answer}
use Rattle.message.specs.Class.{class_in}
use Rattle.message.specs.Values.{attribute_meaning, content_meaning, number_of, status_of, advice_of}
use Rattle.message.specs.declared.Status.{Status}
use Rattle.message.specs.declared.Advice.{Advice}

pub number_once : (s table : List ℕ) (from to : ℕ) {r r' : Option ℕ}
    → r ≡ number_of (attribute_meaning (class_in table) s (suc (length s)) to from)
    → r' ≡ number_of (attribute_meaning (class_in table) s (suc (length s)) to from) → r ≡ r'
number_once s table from to = one_answer

pub status_once : (s table : List ℕ) (from to : ℕ) {r r' : Status}
    → r ≡ status_of (attribute_meaning (class_in table) s (suc (length s)) to from)
    → r' ≡ status_of (attribute_meaning (class_in table) s (suc (length s)) to from) → r ≡ r'
status_once s table from to = one_answer

pub advice_once : (s table : List ℕ) (from to : ℕ) {r r' : Advice}
    → r ≡ advice_of (content_meaning (class_in table) s (suc (length s)) to from)
    → r' ≡ advice_of (content_meaning (class_in table) s (suc (length s)) to from) → r ≡ r'
advice_once s table from to = one_answer
