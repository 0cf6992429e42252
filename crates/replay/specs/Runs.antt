-- What a line of a script does: the run that follows it, and what it prints (INTERFACES, "replay"). Assumes nothing.
use Rattle.std.specs.Prelude.{Bool, true, false, cond, List, [], ◌++◌, ℕ, zero, suc, ◌+◌, ltb, eqb, drop}
use Rattle.message.specs.Class.{class_of}
use Rattle.message.specs.Limits.{link_limits}
use Rattle.message.specs.Messages.{message_of}
use Rattle.conduct.specs.declared.Call.{Call}
use Rattle.conduct.specs.declared.Call.TheVariants as calls
use Rattle.conduct.specs.declared.Site.{Site}
use Rattle.conduct.specs.Session.{usual, at_interval, in_conduct, with_resends}
use Rattle.session.specs.Answers.{Told, call_of, told}
use Rattle.session.specs.Record.{made_of, with_last}
use Rattle.replay.specs.declared.script.Line.{Line}
use Rattle.replay.specs.declared.script.Line.TheVariants as lines
use Rattle.replay.specs.declared.script.Setting.{Setting}
use Rattle.replay.specs.declared.script.Setting.TheVariants as settings
use Rattle.replay.specs.declared.runs.Phase.{Phase}
use Rattle.replay.specs.declared.runs.Phase.TheVariants.{Settling, Running, Refused}
use Rattle.replay.specs.declared.runs.Run.{Run}
use Rattle.replay.specs.Lines.{answer_lines, bad_line}

-- ---- what is kept from one line to the next

-- calls and lines are counted from 1; no run comes to the last number
abbrev pub following : ℕ → ℕ
following n = cond (ltb n 18446744073709551615) (n + 1) n

-- settings first; the interval is 100, the conduct the new one and a Response is sent again once where nothing is set
unfoldable pub fresh_run : Run
fresh_run = record { phase = Settling; site = usual 100; session = (made_of (usual 100)).session; call = 1; line = 1 }

abbrev pub phase_by : ℕ → Phase
phase_by refusal = cond (eqb refusal 0) Running (Refused refusal)

unfoldable pub made_run : Run → Run
made_run run =
    record {
      phase = phase_by (made_of run.site).refusal;
      site = run.site;
      session = (made_of run.site).session;
      call = run.call;
      line = run.line;
    }

-- the first line that is neither empty nor a setting ends the settings
abbrev pub ends_settings : Line → Bool
ends_settings lines.Nothing = false
ends_settings (lines.Set setting) = false
ends_settings (lines.Ticks count) = true
ends_settings (lines.Other call) = true
ends_settings lines.Message = true
ends_settings (lines.Last last) = true
ends_settings lines.Bad = true

abbrev pub ready_in : Phase → Run → Line → Run
ready_in Settling run line = cond (ends_settings line) (made_run run) run
ready_in Running run line = run
ready_in (Refused refusal) run line = run

unfoldable pub ready_for : Run → Line → Run
ready_for run line = ready_in run.phase run line

unfoldable pub after_call : Run → Told → Run
after_call run t = record { phase = run.phase; site = run.site; session = t.next; call = following run.call; line = run.line }

unfoldable pub next_line : Run → Run
next_line run = record { phase = run.phase; site = run.site; session = run.session; call = run.call; line = following run.line }

abbrev pub site_with : Setting → Site → Site
site_with (settings.Interval interval) site = at_interval interval site
site_with (settings.Conduct conduct) site = in_conduct conduct site
site_with (settings.Resends resends) site = with_resends resends site

unfoldable pub settled : Run → Setting → Run
settled run setting = record { phase = run.phase; site = site_with setting run.site; session = run.session; call = run.call; line = run.line }

unfoldable pub renumbered : Run → ℕ → Run
renumbered run last =
    record { phase = run.phase; site = run.site; session = with_last last run.session; call = run.call; line = run.line }

-- ---- a line: the run that follows it, and what it prints

pub record Done : Type 0 where
  pub run : Run
  pub printed : List ℕ

abbrev pub silent : Run → Done
silent run = record { run = run; printed = [] }

abbrev pub bad : Run → Done
bad run = record { run = run; printed = bad_line run.line }

-- a call, with an event list of 40 places
unfoldable pub called : Run → Call → Done
called run c = record { run = after_call run (told 40 run.session c); printed = answer_lines run.call (told 40 run.session c) }

abbrev pub and_then : Done → (Run → Done) → Done
and_then d next = record { run = (next d.run).run; printed = d.printed ++ (next d.run).printed }

-- each tick is a call of its own
unfoldable pub ticked : ℕ → Run → Done
ticked zero run = silent run
ticked (suc count) run = and_then (called run calls.Tick) (ticked count)

-- the bytes of a message stand behind the 8 of the word and its space
unfoldable pub ran : Run → Line → List ℕ → Done
ran run lines.Nothing bytes = silent run
ran run (lines.Set setting) bytes = bad run
ran run (lines.Ticks count) bytes = ticked count run
ran run (lines.Other call) bytes = called run call
ran run lines.Message bytes = called run (call_of (message_of class_of link_limits (drop 8 bytes)))
ran run (lines.Last last) bytes = silent (renumbered run last)
ran run lines.Bad bytes = bad run

-- a line among the settings
unfoldable pub set : Run → Line → Run
set run lines.Nothing = run
set run (lines.Set setting) = settled run setting
set run (lines.Ticks count) = run
set run (lines.Other call) = run
set run lines.Message = run
set run (lines.Last last) = run
set run lines.Bad = run

abbrev pub taken_in : Phase → Run → Line → List ℕ → Done
taken_in Settling run line bytes = silent (next_line (set run line))
taken_in Running run line bytes = and_then (ran run line bytes) (λ r. silent (next_line r))
taken_in (Refused refusal) run line bytes = silent run

unfoldable pub taken : Run → Line → List ℕ → Done
taken run line bytes = taken_in (ready_for run line).phase (ready_for run line) line bytes
