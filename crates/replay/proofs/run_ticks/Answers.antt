-- A turn does a tick, and in the end none is left (`Turns`).
use Rattle.std.proofs.Common.{arith, ◌∙◌, ◌-◌}
use Rattle.conduct.specs.declared.Call.TheVariants as calls
use Rattle.replay.proofs.Turns.{events_fit, tick_on, no_more_ticks}
use Rattle.replay.proofs.run_ticks.Goals as goal

pub run_call-run-requires : goal.run_call-run-requires
run_call-run-requires g c = events_fit c.loop.run.session calls.Tick c.tick.ensures

pub loop-preserved : goal.loop-preserved
loop-preserved g c =
    let l = c.loop in
    tick_on (c.args.count - l.counter) _ l.run (omega arith) (omega arith) c.tick.ensures c.run_call-run.ensures ∙ l.invariant

pub returns : goal.returns
returns g c = no_more_ticks (c.args.count - c.loop.counter) c.loop.run (omega arith) ∙ c.loop.invariant
