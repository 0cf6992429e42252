-- Tests on the events of a call, by what the call says of the push n. Assumes nothing.
use mathlib.Core.Path.{◌≡◌, refl, sym, ap₂, ◌∙◌}
use mathlib.Core.Bool.{Bool, true, false, cond, and-true, and-false, or-false, ◌&&◌, ◌||◌}
use mathlib.Core.List.{List, [], ◌∷◌}
use Prim.Native.Nat.{ℕ}
use lib.Dec.{eqb}
use borrow.Author.Tests.{eqb-true}
use Rattle.std.proofs.lemmas.Bool.{or_right}
use Rattle.conduct.specs.Lists.{only, those, some}
use Rattle.conduct.specs.History.{closing, about}
use Rattle.conduct.specs.declared.Event.{Event}
use Rattle.conduct.proofs.Lists.{some_append, those_those, those_same}
use Rattle.conduct.proofs.Sweeps.{telling}

both_tests : (t b m : Bool) → (t ≡ true → b ≡ true) → (t && m) ≡ ((b && m) && t)
both_tests true b m h = rw (h refl) (sym (and-true m))
both_tests false b m h = sym (and-false (b && m))

-- where a test finds only codes that are said of an open push
module _ (n : ℕ) (test : ℕ → Bool) (tells : (code : ℕ) → test code ≡ true → telling code ≡ true) where
  abbrev passes : Event → Bool
  passes e = test e.code

  abbrev passes_with : Event → Bool
  passes_with e = test e.code && eqb e.number n

  split : (e : Event) → passes_with e ≡ (about n e && passes e)
  split e = both_tests (passes e) (telling e.code) (eqb e.number n) (tells e.code)

  pub those_said : (es : List Event) → those passes_with es ≡ those passes (those (about n) es)
  those_said es = those_same passes_with (λ (e : Event). about n e && passes e) split es ∙ sym (those_those passes (about n) es)

  pub some_said : (es : List Event) → some passes_with es ≡ some passes (those (about n) es)
  some_said [] = refl
  some_said (e ∷ es) =
      ap₂ ◌||◌ (split e ∙ go (about n e)) (some_said es) ∙ sym (some_append passes (only (about n) e) (those (about n) es))
    where
      go : (b : Bool) → (b && passes e) ≡ some passes (cond b (e ∷ []) [])
      go true = sym (or-false (passes e))
      go false = refl

pub closing_told : (code : ℕ) → closing code ≡ true → telling code ≡ true
closing_told code h = rw h

pub resending_told : (code : ℕ) → eqb code 5 ≡ true → telling code ≡ true
resending_told code h = or_right (closing code) _ h

pub acknowledging_told : (code : ℕ) → eqb code 9 ≡ true → telling code ≡ true
acknowledging_told code h = rw (eqb-true code 9 h)
