-- `values::meaning::decimal` meets its contract: a letter that is refused or no digit, and a number that is too large, decide that there is none.
-- Assumes nothing.
use Prim.Native.Nat.{◌+◌, ◌-◌, ◌*◌, ◌≤◌}
use mathlib.Core.Path.{◌≡◌}
use native.Mathlib.Omega.{arith}
use Rattle.message.proofs.Laws.{between_below, between_above}
use Rattle.message.proofs.Letters.{attribute_letter_on}
use Rattle.scan.proofs.Said.{character_is}
use Rattle.values.proofs.Letters.{attribute_goes, attribute_stops, attribute_ends, counted_refused, counted_all, counted_none, counted_large, counted_digit}
use Rattle.values.proofs.meaning.decimal.Goals as goal
use Rattle.values.proofs.meaning.decimal.Goals.{then-c-lt48-via-then-c-lt48, then-c-lt48-via-else-c-lt48+then-c-gt57}

pub returns-in_default : goal.returns-in_default
returns-in_default c = counted_refused c.loop-i.invariant.1 (attribute_stops _ _ _ _ c.loop-i-test.true (character_is c.attribute_letter.ensures c.in_default.is))

pub returns-then-c-lt48 : goal.returns-then-c-lt48
returns-then-c-lt48 c = counted_none c.loop-i.invariant.1 _ _ (attribute_goes _ _ _ _ c.loop-i-test.true (character_is c.attribute_letter.ensures c.in-Ok.is)) (elim c.then-c-lt48.branch [ then-c-lt48-via-then-c-lt48 w ↦ between_below 48 57 _ w.if-c-lt48.true | then-c-lt48-via-else-c-lt48+then-c-gt57 w ↦ between_above 48 57 _ w.if-c-gt57.true ])

pub returns-in_err-checked_mul : goal.returns-in_err-checked_mul
returns-in_err-checked_mul c = rw c.from_residual.ensures (counted_large c.loop-i.invariant.1 _ _ (attribute_goes _ _ _ _ c.loop-i-test.true (character_is c.attribute_letter.ensures c.in-Ok.is)) c.if-c-lt48.false c.if-c-gt57.false (omega arith))

pub returns-in_err-number : goal.returns-in_err-number
returns-in_err-number c = rw c.from_residual-in_err-number.ensures (counted_large c.loop-i.invariant.1 _ _ (attribute_goes _ _ _ _ c.loop-i-test.true (character_is c.attribute_letter.ensures c.in-Ok.is)) c.if-c-lt48.false c.if-c-gt57.false (grind arith))

pub loop-i-smaller : goal.loop-i-smaller
loop-i-smaller c = omega (arith, attribute_letter_on _ _ _ (character_is c.attribute_letter.ensures c.in-Ok.is))

pub loop-i-preserved : goal.loop-i-preserved
loop-i-preserved c =
    let read = character_is c.attribute_letter.ensures c.in-Ok.is in
    let next : c.loop-i.number * 10 + (c.in-Ok.c.code - 48) ≡ c.in_ok-number.number = grind arith in
    let small : c.in_ok-number.number ≤ 4294967295 = omega arith in
    (small, rw (← next) (counted_digit c.loop-i.invariant.1 _ _ (attribute_goes _ _ _ _ c.loop-i-test.true read) c.if-c-lt48.false c.if-c-gt57.false (omega arith) (attribute_letter_on _ _ _ read)))

pub returns : goal.returns
returns c = counted_all c.loop-i.invariant.1 (attribute_ends _ _ _ _ c.loop-i-test.false)
