-- `scan::bytes::has` meets its contract: the test is asked of the byte at the place, and past the end of the message nothing stands. Assumes nothing.
use mathlib.Core.Path.{◌≡◌, sym, ap, ◌∙◌}
use Rattle.std.specs.Prelude.{ℕ, ◌<◌, Bool, true, false, List, length, Option, Some, None, ltb, get_or}
use Rattle.std.proofs.Common.{arith, Bor}
use Rattle.std.specs.Option.{is_some, MatchOption, unwrap_or, option_map, option_copied}
use Rattle.std.proofs.lemmas.Bool.{both_ways}
use Rattle.message.specs.Reading.{has}
use borrow.Author.Tests.{ltb-true}
use Rattle.message.proofs.Laws.{and_true, and_false}
use Rattle.scan.proofs.bytes.has.Goals as goal

-- what the test said of the byte that was looked up
has_looked : (test : ℕ → Bool) (s : List ℕ) (at : ℕ) {r : Bool} (Told : ℕ → Type 0) (o : Option (Bor ℕ))
    → is_some o ≡ ltb at (length s) → ((d : ℕ) → unwrap_or (option_map (λ x. x.now) o) d ≡ get_or s at d)
    → ((x : ℕ) → Told x → r ≡ test x) → MatchOption (option_copied o) (r ≡ false) Told → r ≡ has test s at
unfolding has
has_looked test s at Told None there read tells told = told ∙ and_false _ (sym there)
has_looked test s at Told (Some x) there read tells told = tells x.now told ∙ ap test (read 0) ∙ and_true _ (sym there)

-- it stands in the message if it passes
looked_inside : (s : List ℕ) (at : ℕ) {r : Bool} (Told : ℕ → Type 0) (o : Option (Bor ℕ))
    → is_some o ≡ ltb at (length s) → MatchOption (option_copied o) (r ≡ false) Told → r ≡ true → at < length s
looked_inside s at Told None there told passes = absurd (both_ways _ told passes)
looked_inside s at Told (Some x) there told passes = ltb-true at (length s) (sym there)

pub returns : goal.returns
returns g c =
    let got = c.get.ensures.lookup in (
      looked_inside _ _ _ _ got.0 (rw c.copied.ensures at c.is_some_and.ensures),
      λ f computes. has_looked f _ _ _ _ got.0 (got.4 (omega arith)) (λ x told. computes _ _ told) (rw c.copied.ensures at c.is_some_and.ensures),
    )
