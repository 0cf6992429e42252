-- THEOREMS: the contract of each public function of this crate has one answer, and for `gather` one store. Assumes nothing.
use mathlib.Core.Path.{◌≡◌, refl, ap}
use mathlib.Core.List.{List}
use Prim.Native.Nat.{ℕ, ◌<◌}
use native.Mathlib.Omega.{arith}
use Rattle.std.specs.Prelude.{Result, Ok, Err}
use Rattle.laws.proofs.OneAnswer.{one_answer, one_said}
use Rattle.framing.specs.declared.Held.{Held}
use Rattle.framing.specs.declared.Taken.{Taken}
use Rattle.framing.specs.declared.Refusal.{Refusal}
use Rattle.framing.specs.declared.Refusal.TheVariants.{BoundaryLength, StoreTooShort, HeldNumbers}
use Rattle.framing.specs.declared.Item.{Item}
use Rattle.framing.specs.Cutting.{Answer, link_limit, refusal_number, item_number, item_length, answer_of, taken_said, said, store_after}

-- ---- no two results say the same

joined : {n n' g g' m m' : ℕ} {i i' : Item} → n ≡ n' → g ≡ g' → m ≡ m' → i ≡ i'
    → ◌≡◌ {A = Taken} (record { taken = n; item = i; held = record { gathered = g; matched = m } }) (record { taken = n'; item = i'; held = record { gathered = g'; matched = m' } })
joined taken gathered matched item = cc

taken_is : (t t' : Taken) → taken_said t ≡ taken_said t' → t ≡ t'
taken_is t t' same =
    joined (ap (λ (a : Answer). a.taken) same) (ap (λ (a : Answer). a.gathered) same) (ap (λ (a : Answer). a.matched) same) (ap (λ (a : Answer). a.item) same)

-- the number of a refusal is its own, and is not 0
refusal_is : (r r' : Refusal) → refusal_number r ≡ refusal_number r' → r ≡ r'
refusal_is BoundaryLength BoundaryLength same = refl
refusal_is BoundaryLength StoreTooShort same = absurd (omega arith)
refusal_is BoundaryLength HeldNumbers same = absurd (omega arith)
refusal_is StoreTooShort BoundaryLength same = absurd (omega arith)
refusal_is StoreTooShort StoreTooShort same = refl
refusal_is StoreTooShort HeldNumbers same = absurd (omega arith)
refusal_is HeldNumbers BoundaryLength same = absurd (omega arith)
refusal_is HeldNumbers StoreTooShort same = absurd (omega arith)
refusal_is HeldNumbers HeldNumbers same = refl

some_refusal : (r : Refusal) → 0 < refusal_number r
some_refusal BoundaryLength = omega arith
some_refusal StoreTooShort = omega arith
some_refusal HeldNumbers = omega arith

said_is : (h : Held) (r r' : Result Taken Refusal) → said h r ≡ said h r' → r ≡ r'
said_is h (Ok t) (Ok t') same = ap Ok (taken_is t t' same)
said_is h (Ok t) (Err r') same = absurd (omega (arith, some_refusal r', ap (λ (a : Answer). a.refusal) same))
said_is h (Err r) (Ok t') same = absurd (omega (arith, some_refusal r, ap (λ (a : Answer). a.refusal) same))
said_is h (Err r) (Err r') same = ap Err (refusal_is r r' (ap (λ (a : Answer). a.refusal) same))

pub gather_once : (boundary store piece : List ℕ) (held : Held) {r r' : Result Taken Refusal} {left left' : List ℕ}
    → said held r ≡ answer_of link_limit boundary store piece held.gathered held.matched → left ≡ store_after link_limit boundary store piece held.gathered held.matched
    → said held r' ≡ answer_of link_limit boundary store piece held.gathered held.matched → left' ≡ store_after link_limit boundary store piece held.gathered held.matched
    → (r ≡ r') × (left ≡ left')
gather_once boundary store piece held answers leaves answers' leaves' = (one_said (said held) (said_is held) answers answers', one_answer leaves leaves')

pub from_refusal_once : (refusal : Refusal) {r r' : ℕ} → r ≡ refusal_number refusal → r' ≡ refusal_number refusal → r ≡ r'
from_refusal_once refusal = one_answer

pub from_item_once : (item : Item) {r r' : ℕ} → r ≡ item_number item → r' ≡ item_number item → r ≡ r'
from_item_once item = one_answer

pub item_length_once : (self : Item) {r r' : ℕ} → r ≡ item_length self → r' ≡ item_length self → r ≡ r'
item_length_once self = one_answer
