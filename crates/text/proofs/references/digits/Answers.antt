-- `text::references::digits` meets its contract: from each place and number that the loop comes to, the digits left give what was asked for at the start. The number stays that of a character, so the next one fits. Assumes nothing.
use Prim.Native.Nat.{ℕ, ◌+◌, ◌*◌}
use mathlib.Core.Path.{◌≡◌, refl, sym, ap, ◌∙◌}
use mathlib.Core.Bool.{Bool, true, false, cond}
use native.Mathlib.Omega.{arith}
use borrow.Author.Tests.{le-leb, lt-leb}
use Rattle.std.proofs.lemmas.Option.{cond_some}
use Rattle.std.specs.Prelude.{Some, None}
use Rattle.message.specs.Reading.{byte_at}
use Rattle.message.specs.Characters.{digit_of}
use Rattle.message.proofs.Laws.{cond_true, cond_false, has_lt}
use Rattle.message.proofs.Loops.{left_on, left_done, numbers}
use Rattle.scan.specs.Answers.{character_said}
use Rattle.text.proofs.references.digits.Goals as goal

no_digit : (found : Bool) (x : ℕ) → None ≡ cond found (Some x) None → found ≡ false
no_digit true x none = cc
no_digit false x none = refl

pub returns-then-more-gt-LAST_CHARACTER : goal.returns-then-more-gt-LAST_CHARACTER
returns-then-more-gt-LAST_CHARACTER c =
    let found = cond_some _ _ _ (sym c.in-Some.ensures) in
    ap character_said c.refused.ensures ∙
    left_done (numbers _ _) (λ next. cond_false _ (lt-leb _ _ (rw (← found.1) at c.if-more-gt-LAST_CHARACTER.true)) ∙ cond_true _ found.0) c.loop-counts.invariant.1

pub overflow_add-end : goal.overflow_add-end
overflow_add-end c = omega (arith, has_lt _ _ _ (cond_some _ _ _ (sym c.in-Some.ensures)).0)

pub loop-counts-smaller : goal.loop-counts-smaller
loop-counts-smaller c = omega (arith, has_lt _ _ _ (cond_some _ _ _ (sym c.in-Some.ensures)).0)

pub loop-counts-preserved : goal.loop-counts-preserved
loop-counts-preserved c =
    let found = cond_some _ _ _ (sym c.in-Some.ensures) in (
      omega arith,
      left_on (numbers _ _) (c.loop-counts.code * c.args.base + digit_of (byte_at c.args.s.now c.loop-counts.end), c.loop-counts.end + 1) (rw (← found.1)) (omega arith)
          (λ next. cond_true _ (le-leb _ _ (rw (← found.1) at c.if-more-gt-LAST_CHARACTER.false)) ∙ cond_true _ found.0) c.loop-counts.invariant.1,
    )

pub returns : goal.returns
returns c = left_done (numbers _ _) (λ next. cond_false _ (no_digit _ _ c.in_default.ensures)) c.loop-counts.invariant.1
