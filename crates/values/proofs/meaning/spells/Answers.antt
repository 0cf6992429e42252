-- `values::meaning::spells` meets its contract: a comment leaves the word as it is, and a piece that is refused, is one too many or differs decides that
-- the pieces do not spell the word. Assumes nothing.
use mathlib.Core.Path.{◌∙◌}
use Rattle.values.proofs.Pieces.{pieces_go, pieces_stop, pieces_end, read_is}
use Rattle.values.proofs.Letters.{spelled_refused, spelled_all, spelled_past, spelled_more, spelled_other, spelled_same}
use Rattle.values.proofs.meaning.spells.Goals as goal

pub returns-in_default : goal.returns-in_default
returns-in_default g c = λ f reads.
    spelled_refused (c.loop-i.invariant f reads) (pieces_stop f _ _ c.loop-i-test.true (read_is f reads _ _ c.read.ensures c.in_default.is))

pub returns-in_default-split_first : goal.returns-in_default-split_first
returns-in_default-split_first g c = λ f reads.
    spelled_more (c.loop-i.invariant f reads) _ _ (pieces_go f _ _ c.loop-i-test.true (read_is f reads _ _ c.read.ensures c.in-Ok.is) c.in-Some.is) c.in_default-split_first.ensures.cases

pub returns-then-code-from : goal.returns-then-code-from
returns-then-code-from g c = λ f reads.
    spelled_other (c.loop-i.invariant f reads) _ _ (pieces_go f _ _ c.loop-i-test.true (read_is f reads _ _ c.read.ensures c.in-Ok.is) c.in-Some.is) c.in-Some-split_first.ensures.cases.0 (λ same. c.if-code-from.true cc)

pub loop-i-preserved-else-code-from : goal.loop-i-preserved-else-code-from
loop-i-preserved-else-code-from g c = λ f reads.
    spelled_same (c.loop-i.invariant f reads) _ _ (pieces_go f _ _ c.loop-i-test.true (read_is f reads _ _ c.read.ensures c.in-Ok.is) c.in-Some.is) c.in-Some-split_first.ensures.cases.0 (cc) (c.requires.goes_on _ _ _ c.read.ensures c.in-Ok.is)

pub loop-i-preserved : goal.loop-i-preserved
loop-i-preserved g c = λ f reads.
    spelled_past (c.loop-i.invariant f reads) (c.requires.goes_on _ _ _ c.read.ensures c.in-Ok.is) (pieces_go f _ _ c.loop-i-test.true (read_is f reads _ _ c.read.ensures c.in-Ok.is) c.in_default-code.is)

pub returns : goal.returns
returns g c = λ f reads. c.is_empty.ensures ∙ spelled_all (c.loop-i.invariant f reads) (pieces_end f _ _ c.loop-i-test.false)
