-- `reader::messages::attribute` meets its contract: from each attribute that the loop comes to, the definition gives what it gave at the start.
-- Assumes nothing.
use mathlib.Core.Path.{sym, ◌∙◌}
use native.Mathlib.Omega.{arith}
use Rattle.std.proofs.lemmas.Result.{err_from_is_err_and}
use Rattle.scan.proofs.Said.{name_is}
use Rattle.message.specs.Limits.{link_limits}
use Rattle.message.proofs.Trees.{quoted_on}
use Rattle.elements.proofs.AttributeLaws.{span_is, called_unnamed, called_no_value, called_found, called_further, called_on}
use Rattle.reader.proofs.messages.attribute.Goals as goal

pub returns-in_err-name : goal.returns-in_err-name
returns-in_err-name c =
    let p = err_from_is_err_and c.from_residual.result c.from_residual.ensures.1 in
    rw (p.1, p.2) (called_unnamed _ _ link_limits _ _ c.blanks-p.ensures c.loop-name.invariant (name_is c.name.ensures c.in_err-name.was))

pub returns-in_err-value : goal.returns-in_err-value
returns-in_err-value c =
    let p = err_from_is_err_and c.from_residual-in_err-value.result c.from_residual-in_err-value.ensures.1 in
    rw (p.1, p.2) (called_no_value _ _ link_limits _ _ c.blanks-p.ensures c.loop-name.invariant (name_is c.name.ensures c.in_ok-name.was) (span_is c.quoted.ensures c.in_err-value.was))

pub returns-then-called : goal.returns-then-called
returns-then-called c = called_found _ _ link_limits _ _ c.blanks-p.ensures c.loop-name.invariant (name_is c.name.ensures c.in_ok-name.was) (span_is c.quoted.ensures c.in_ok-value.was) (sym c.called.ensures ∙ c.if-called.true)

pub overflow_add-i : goal.overflow_add-i
overflow_add-i c = omega (arith, quoted_on _ _ (span_is c.quoted.ensures c.in_ok-value.was))

pub loop-name-smaller : goal.loop-name-smaller
loop-name-smaller c =
    let valued = span_is c.quoted.ensures c.in_ok-value.was in
    omega (arith, quoted_on _ _ valued, called_further _ _ link_limits _ _ c.blanks-p.ensures c.loop-name.invariant (name_is c.name.ensures c.in_ok-name.was) valued)

pub loop-name-preserved : goal.loop-name-preserved
loop-name-preserved c = called_on _ _ link_limits _ _ c.blanks-p.ensures c.loop-name.invariant (name_is c.name.ensures c.in_ok-name.was) (span_is c.quoted.ensures c.in_ok-value.was) (sym c.called.ensures ∙ c.if-called.false)
