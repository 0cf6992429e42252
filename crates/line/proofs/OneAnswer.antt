-- THEOREMS: the contract of each public function of this crate has one answer, and one way to leave what it is lent. Assumes nothing.
use mathlib.Core.Path.{◌≡◌}
use mathlib.Core.List.{List}
use Prim.Native.Nat.{ℕ}
use Rattle.laws.proofs.OneAnswer.{one_answer}
use Rattle.line.specs.Gather.{gather_refusal, gather_store, gather_list}
use Rattle.line.specs.Read.{read_return, read_list}

pub ali_gather_once : (boundary store piece : List ℕ) (gathered matched : ℕ) (answer : List ℕ) {r r' : ℕ} {storeLeft storeLeft' answerLeft answerLeft' : List ℕ}
    → r ≡ gather_refusal boundary store gathered matched answer
    → storeLeft ≡ gather_store boundary store piece gathered matched answer
    → answerLeft ≡ gather_list boundary store piece gathered matched answer
    → r' ≡ gather_refusal boundary store gathered matched answer
    → storeLeft' ≡ gather_store boundary store piece gathered matched answer
    → answerLeft' ≡ gather_list boundary store piece gathered matched answer
    → (r ≡ r') × (storeLeft ≡ storeLeft') × (answerLeft ≡ answerLeft')
ali_gather_once boundary store piece gathered matched answer returns leaves writes returns' leaves' writes' =
    (one_answer returns returns', one_answer leaves leaves', one_answer writes writes')

pub ali_read_once : (message answer : List ℕ) {r r' : ℕ} {left left' : List ℕ} → r ≡ read_return answer → left ≡ read_list message answer
    → r' ≡ read_return answer → left' ≡ read_list message answer → (r ≡ r') × (left ≡ left')
ali_read_once message answer returns writes returns' writes' = (one_answer returns returns', one_answer writes writes')
