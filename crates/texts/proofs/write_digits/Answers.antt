-- A turn writes the last of the digits that are still to write (`Decimals`).
use Rattle.std.proofs.Common.{◌∙◌, arith, refl}
use Rattle.texts.proofs.Decimals.{digits_step, digits_none, digits_all}
use Rattle.texts.proofs.write_digits.Goals as goal

pub loop-at-init : goal.loop-at-init
loop-at-init c = digits_none c.args.number c.args.out.now

pub loop-at-preserved : goal.loop-at-preserved
loop-at-preserved c =
    let l = c.loop-at in
    digits_step l.at l.rest _ l.out c.loop-at-test.true (omega arith) refl ∙ l.invariant

pub returns : goal.returns
returns c = digits_all c.loop-at.at c.loop-at.rest c.loop-at.out c.loop-at-test.false ∙ c.loop-at.invariant
