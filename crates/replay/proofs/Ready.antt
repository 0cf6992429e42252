-- Which lines end the settings, and what is made then. Assumes nothing.
use mathlib.Core.Path.{◌≡◌, refl}
use mathlib.Core.Bool.{true, not}
use Rattle.session.specs.Record.{made_of}
use Rattle.replay.specs.declared.script.Line.{Line}
use Rattle.replay.specs.declared.script.Line.TheVariants as lines
use Rattle.replay.specs.declared.runs.Phase.TheVariants.{Settling}
use Rattle.replay.specs.declared.runs.Run.{Run}
use Rattle.replay.specs.Runs.{phase_by, made_run, ends_settings, ready_for}
use Rattle.replay.specs.Settings.{is_setting_or_empty}

-- these, and no others, leave the settings open
pub ends_unless : (line : Line) → ends_settings line ≡ not (is_setting_or_empty line)
ends_unless lines.Nothing = refl
ends_unless (lines.Set setting) = refl
ends_unless (lines.Ticks count) = refl
ends_unless (lines.Other call) = refl
ends_unless lines.Message = refl
ends_unless (lines.Last last) = refl
ends_unless lines.Bad = refl

pub made_by : (run : Run) (line : Line) → run.phase ≡ Settling → ends_settings line ≡ true
    → ((ready_for run line).session ≡ (made_of run.site).session) × ((ready_for run line).phase ≡ phase_by (made_of run.site).refusal)
unfolding ready_for made_run
made_by run line e h = (rw (e, h), rw (e, h))
