-- THEOREMS `conducts_at_work`, `figures_at_work` and `settings_at_work`: lines and whole scripts of settings, one by one (specs/Settings). Assumes nothing.
use mathlib.Core.Path.{refl}
use Rattle.laws.specs.Bytes.{same_bytes}
use Rattle.laws.specs.Search.{least}
use Rattle.message.specs.Values.{decimal_from, decimal_of}
use Rattle.texts.specs.Fields.{places, decimal}
use Rattle.session.specs.Rows.{table_of}
use Rattle.replay.specs.Script.{numbered_of, worded_of, line_of}
use Rattle.replay.specs.Lines.{bad_line, stop_line, end_line, last_line}
use Rattle.replay.specs.Runs.{fresh_run, made_run, ready_for, next_line, settled, ran, set, taken}
use Rattle.replay.specs.Replay.{taken_rest, replayed}
use Rattle.replay.specs.Settings.{ConductsAtWork, FiguresAtWork, SettingsAtWork}

pub conducts_at_work : ConductsAtWork
unfolding line_of worded_of numbered_of same_bytes
conducts_at_work = refl

pub figures_at_work : FiguresAtWork
unfolding line_of worded_of numbered_of same_bytes decimal_of decimal_from
figures_at_work = refl

pub settings_at_work : SettingsAtWork
unfolding line_of worded_of numbered_of same_bytes decimal_of decimal_from fresh_run made_run ready_for next_line settled ran set taken taken_rest replayed table_of bad_line stop_line end_line last_line decimal places least
settings_at_work = refl
