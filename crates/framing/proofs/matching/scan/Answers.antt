-- `framing::matching::scan` meets its contract. The invariant of its loop is `Seen`, and the laws of `Matcher` say what a turn, an item's end and the piece's end make of it.
-- Assumes nothing.
use Rattle.framing.proofs.Matcher.{seen_first, seen_next, seen_done, seen_all, seen_below}
use Rattle.framing.proofs.matching.scan.Goals as goal

pub loop-i-init : goal.loop-i-init
loop-i-init c = seen_first _ _ _ c.requires

pub step-matched-requires : goal.step-matched-requires
step-matched-requires c =
    let a = c.args in
    seen_below a.boundary.now a.piece.now a.held c.loop-i.i c.loop-i.matched c.requires c.loop-i.invariant

pub returns-then-matched-boundary : goal.returns-then-matched-boundary
returns-then-matched-boundary c =
    let a = c.args in
    let at-loop = c.loop-i in
    seen_done a.boundary.now a.piece.now a.held c.requires at-loop.i at-loop.matched c.step-matched.result at-loop.invariant
    c.loop-i-test.true c.step-matched.ensures c.if-matched-boundary.true

pub loop-i-preserved : goal.loop-i-preserved
loop-i-preserved c =
    let a = c.args in
    let at-loop = c.loop-i in
    seen_next a.boundary.now a.piece.now a.held c.requires at-loop.i at-loop.matched c.step-matched.result at-loop.invariant
    c.loop-i-test.true c.step-matched.ensures c.if-matched-boundary.false

pub returns : goal.returns
returns c =
    let a = c.args in
    seen_all a.boundary.now a.piece.now a.held c.requires c.loop-i.i c.loop-i.matched c.loop-i.invariant c.loop-i-test.false
