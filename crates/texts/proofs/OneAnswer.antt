-- THEOREMS: the contract of each public function of this crate has one answer, and one way to leave the line that it writes to.
-- Assumes nothing.
use Rattle.std.specs.Prelude.{Option}
use mathlib.Core.Path.{◌≡◌}
use mathlib.Core.Bool.{Bool}
use mathlib.Core.List.{List, []}
use Prim.Native.Nat.{ℕ}
use lib.ListN.{length, take, drop}
use Rattle.laws.specs.Bytes.{same_bytes}
use Rattle.laws.proofs.OneAnswer.{one_answer}
use Rattle.message.specs.Values.{decimal_of}
use Rattle.texts.specs.Fields.{field, decimal, put_in}

pub new_once : {r r' : List ℕ} → r ≡ [] → r' ≡ [] → r ≡ r'
new_once = one_answer

pub clear_once : {left left' : List ℕ} → left ≡ [] → left' ≡ [] → left ≡ left'
clear_once = one_answer

pub put_once : (N : ℕ) (self text : List ℕ) (behind : ℕ) {left left' : List ℕ} → left ≡ put_in N self (field text behind)
    → left' ≡ put_in N self (field text behind) → left ≡ left'
put_once N self text behind = one_answer

pub put_number_once : (N : ℕ) (self : List ℕ) (number behind : ℕ) {left left' : List ℕ}
    → left ≡ put_in N self (field (decimal number) behind) → left' ≡ put_in N self (field (decimal number) behind) → left ≡ left'
put_number_once N self number behind = one_answer

pub as_bytes_once : (self : List ℕ) {r r' : List ℕ} → r ≡ self → r' ≡ self → r ≡ r'
as_bytes_once self = one_answer

pub begins_once : (text word : List ℕ) {r r' : Bool} → r ≡ same_bytes (take (length word) text) word
    → r' ≡ same_bytes (take (length word) text) word → r ≡ r'
begins_once text word = one_answer

pub number_once : (text : List ℕ) (from : ℕ) {r r' : Option ℕ} → r ≡ decimal_of (drop from text) → r' ≡ decimal_of (drop from text) → r ≡ r'
number_once text from = one_answer
