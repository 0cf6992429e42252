-- `elements::attributes::held` meets its contract: from the place that the loop has come to, beside the names held by then, the definition gives what it
-- gave at the start. Assumes nothing.
use mathlib.Core.Path.{refl, sym, ◌∙◌}
use mathlib.Core.List.{[]}
use Rattle.std.proofs.lemmas.Result.{err_from_is_err_and}
use Rattle.message.proofs.Said.{said_is}
use Rattle.message.proofs.Loops.{left_first}
use Rattle.message.specs.Limits.{link_limits}
use Rattle.elements.specs.Held.{names_of}
use Rattle.elements.proofs.AttributeLaws.{span_is, left_held, attributes, attributes_done, attributes_unnamed, attributes_no_value, attributes_on}
use Rattle.elements.proofs.attributes.held.Goals as goal

pub loop-seen-init : goal.loop-seen-init
unfolding names_of
loop-seen-init c = rw c.new-seen.ensures (left_first (attributes _ _ link_limits) ([], _) refl)

pub returns-then-ends_tag : goal.returns-then-ends_tag
returns-then-ends_tag c = attributes_done _ _ link_limits _ _ c.blanks-p.ensures c.loop-seen.invariant (sym c.ends_tag.ensures ∙ c.if-ends_tag.true)

pub returns-in_err-e : goal.returns-in_err-e
returns-in_err-e c =
    let p = err_from_is_err_and c.from_residual.result c.from_residual.ensures.1 in
    rw (p.1, p.2) (attributes_unnamed _ _ link_limits _ _ c.blanks-p.ensures c.loop-seen.invariant (sym c.ends_tag.ensures ∙ c.if-ends_tag.false) (said_is c.fresh.ensures c.in_err-e.was))

pub returns-in_err-value : goal.returns-in_err-value
returns-in_err-value c =
    let p = err_from_is_err_and c.from_residual-in_err-value.result c.from_residual-in_err-value.ensures.1 in
    rw (p.1, p.2) (attributes_no_value _ _ link_limits _ _ c.blanks-p.ensures c.loop-seen.invariant (sym c.ends_tag.ensures ∙ c.if-ends_tag.false)
    (said_is c.fresh.ensures c.in_ok-e.was) (span_is c.quoted.ensures c.in_err-value.was))

pub loop-seen-preserved : goal.loop-seen-preserved
loop-seen-preserved c =
    let more = sym c.ends_tag.ensures ∙ c.if-ends_tag.false in
    let named = said_is c.fresh.ensures c.in_ok-e.was in
    let valued = span_is c.quoted.ensures c.in_ok-value.was in
    rw c.push.ensures (left_held _ _ link_limits c.loop-seen.seen _ _ (attributes_on _ _ link_limits _ _ c.blanks-p.ensures c.loop-seen.invariant more named valued))
