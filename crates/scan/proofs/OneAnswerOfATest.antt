-- The contracts of `bytes::has`, `one` and `ends`, which are handed a test, have one answer, whatever the test, where it has one answer of each byte. Assumes nothing.
use mathlib.Core.Path.{◌≡◌}
use mathlib.Core.Bool.{Bool}
use mathlib.Core.List.{List}
use Prim.Native.Nat.{ℕ}
use Rattle.std.specs.Prelude.{Result}
use Rattle.laws.proofs.OneAnswer.{one_answer, one_said}
use Rattle.message.specs.Reading.{said}
use Rattle.message.specs.declared.Refusal.{Refusal}
use Rattle.message.proofs.OneAnswer.{says_one_thing}
use Rattle.scan.specs.Answers.{Computes, HasIs, OneIs, EndsIs}

-- what the contracts call a closure's bound
pub record Calls (X : Type 0) : Type 1 where
  pub post : X → ℕ → Bool → Type 0

module _ {X : Type 0} (P : Calls X) (test : X) (f : ℕ → Bool) (computes : Computes (P.post test) f) (s : List ℕ) (at : ℕ) where
  pub has_once : {r r' : Bool} → HasIs (P.post test) s at r → HasIs (P.post test) s at r' → r ≡ r'
  has_once told told' = one_answer (told.1 f computes) (told'.1 f computes)

  pub one_once : {r r' : Result ℕ Refusal} → OneIs (P.post test) s at (said r) → OneIs (P.post test) s at (said r') → r ≡ r'
  one_once told told' = one_said said says_one_thing (told f computes) (told' f computes)

  pub ends_once : {r r' : ℕ} → EndsIs (P.post test) s at r → EndsIs (P.post test) s at r' → r ≡ r'
  ends_once told told' = one_answer (told f computes) (told' f computes)
