-- A character of two, three or four bytes has a number of at least 128. Assumes nothing.
use Prim.Native.Nat.{ℕ, ◌+◌, ◌-◌, ◌≤◌}
use mathlib.Core.Path.{◌≡◌, ◌∙◌, subst}
use mathlib.Core.Bool.{true, cond}
use mathlib.Core.List.{List}
use native.Mathlib.Omega.{arith}
use lib.Dec.{eqb}
use Rattle.std.proofs.lemmas.Bool.{cond_both}
use Rattle.std.proofs.lemmas.Bool.Decides.{nat_tests}
use Rattle.message.specs.Class.{between}
use Rattle.message.specs.Reading.{byte_at, has, one}
use Rattle.message.specs.Characters.{Character, later, second_of_three, third_of_three, second_of_four, joined, two_at, three_at, last_two_at, four_at, long_at}
use Rattle.message.specs.Text.{special_at}
use Rattle.message.specs.Meanings.{OthersBeyondAscii}
use Rattle.message.proofs.Laws.{cond_false, has_between, one_between}
use Rattle.message.proofs.Progress.{Every, every_on}

abbrev Beyond : Character → Type 0
Beyond c = 128 ≤ c.code

-- what the first two bytes give of three, and of four: after the least first byte the second is not the least
pub three_lead : (lead second : ℕ) → 224 ≤ lead → cond (eqb lead 224) 160 128 ≤ second → 32 ≤ joined (lead - 224) second
three_lead lead second low = grind (arith, nat_tests)

pub four_lead : (lead second : ℕ) → 240 ≤ lead → cond (eqb lead 240) 144 128 ≤ second → 16 ≤ joined (lead - 240) second
four_lead lead second low = grind (arith, nat_tests)

module _ (s : List ℕ) (at : ℕ) where
  two_beyond : has (between 194 223) s at ≡ true → Every Beyond (two_at s at)
  unfolding two_at
  two_beyond t = every_on Beyond _ (one later s (at + 1)) (λ e q. omega (arith, has_between 194 223 s at t))

  three_beyond : has (between 224 239) s at ≡ true → Every Beyond (three_at s at)
  unfolding three_at
  three_beyond t =
      let lead = byte_at s at in
      let second = byte_at s (at + 1) in
      every_on Beyond _ (one (second_of_three lead) s (at + 1)) (λ i q.
      every_on Beyond _ (one (third_of_three lead second) s i) (λ e r.
      let least = (one_between (cond (eqb lead 224) 160 128) (cond (eqb lead 237) 159 191) s (at + 1) i q).1 in
      omega (arith, three_lead lead second (has_between 224 239 s at t).1 least)))

  last_beyond : (n p : ℕ) → 16 ≤ n → Every Beyond (last_two_at n s p)
  unfolding last_two_at
  last_beyond n p enough = grind (arith, nat_tests)

  four_beyond : Every Beyond (four_at s at)
  unfolding four_at
  four_beyond =
      let lead = byte_at s at in
      every_on Beyond _ (one (between 240 244) s at) (λ i q.
      every_on Beyond _ (one (second_of_four lead) s i) (λ j r.
      let least = (one_between (cond (eqb lead 240) 144 128) (cond (eqb lead 244) 143 191) s i j r).1 in
      last_beyond (joined (lead - 240) (byte_at s i)) j (four_lead lead (byte_at s i) (one_between 240 244 s at i q).1 least)))

  long_beyond : Every Beyond (long_at s at)
  unfolding long_at
  long_beyond =
      cond_both (has (between 194 223) s at) _ _ (Every Beyond) two_beyond (λ no.
      cond_both (has (between 224 239) s at) _ _ (Every Beyond) three_beyond (λ none. four_beyond))

pub others_beyond_ascii : OthersBeyondAscii
unfolding special_at
others_beyond_ascii s at c other q = subst (Every Beyond) (cond_false _ other ∙ q) (long_beyond s at)
