-- Promise 7, one answer: the contract of each public function of this crate has one answer. Assumes nothing.
use mathlib.Core.Path.{◌≡◌, ◌∙◌, ap}
use mathlib.Core.List.{List}
use Prim.Native.Nat.{ℕ}
use denote.Ref.{Bor}
use Rattle.std.specs.Prelude.{Result}
use Rattle.laws.proofs.OneAnswer.{one_answer, one_said}
use Rattle.message.specs.Class.{class_of}
use Rattle.message.specs.Limits.{link_limits}
use Rattle.message.specs.Messages.{message_of, message_at}
use Rattle.message.specs.Reading.{said}
use Rattle.message.specs.declared.Message.{Message}
use Rattle.message.specs.declared.Refusal.{Refusal}
use Rattle.message.proofs.OneAnswer.{says_one_thing}
use Rattle.reader.specs.declared.held.Reader.{Reader}

-- a reader is its slice and its place
reader_is : (src : Bor (List ℕ)) (r : Reader) → (r.src ≡ src) × (r.at ≡ 0) → r ≡ record { src = src; at = 0 }
reader_is src r keeps = ap (λ s. record { src = s; at = r.at }) keeps.0 ∙ ap (λ n. record { src = src; at = n }) keeps.1

pub new_once : (src : Bor (List ℕ)) {r r' : Reader} → (r.src ≡ src) × (r.at ≡ 0) → (r'.src ≡ src) × (r'.at ≡ 0) → r ≡ r'
new_once src {r = r} {r' = r'} keeps keeps' = one_answer (reader_is src r keeps) (reader_is src r' keeps')

pub message_once : (self : Reader) {r r' : Result Message Refusal}
    → said r ≡ message_at class_of link_limits self.src.now self.at
    → said r' ≡ message_at class_of link_limits self.src.now self.at → r ≡ r'
message_once self = one_said said says_one_thing

pub read_once : (message : List ℕ) {r r' : Result Message Refusal}
    → said r ≡ message_of class_of link_limits message → said r' ≡ message_of class_of link_limits message → r ≡ r'
read_once message = one_said said says_one_thing
