-- Before each turn the ticks that are left come to what all do.
use Rattle.std.proofs.Common.{◌≡◌, ◌-◌}
use Rattle.replay.specs.Runs.{ticked}
use Rattle.replay.proofs.run_ticks.Given as goal

abbrev pub invariant-loop : goal.invariant-loop
invariant-loop g l = (ticked (l.count - l.counter) l.run).run ≡ (ticked l.count l.initial.run).run
