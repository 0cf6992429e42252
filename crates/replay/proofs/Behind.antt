-- THEOREMS `late_setting_is_bad` and `site_kept_behind`: behind the settings no line changes what the session was made with (specs/Settings). Assumes nothing.
use mathlib.Core.Path.{◌≡◌, refl, ap, ◌∙◌}
use mathlib.Core.List.{List, [], ◌∷◌, append-nil}
use Prim.Native.Nat.{ℕ, zero, suc}
use lib.ListN.{drop}
use Rattle.message.specs.Class.{class_of}
use Rattle.message.specs.Limits.{link_limits}
use Rattle.message.specs.Messages.{message_of}
use Rattle.framing.specs.Stream.{StreamItem, empty, message, too_long}
use Rattle.conduct.specs.declared.Call.{Call}
use Rattle.conduct.specs.declared.Call.TheVariants as calls
use Rattle.session.specs.Answers.{call_of}
use Rattle.session.proofs.Conducts.{told_keeps_site}
use Rattle.replay.specs.declared.script.Line.{Line}
use Rattle.replay.specs.declared.script.Line.TheVariants as lines
use Rattle.replay.specs.declared.runs.Phase.TheVariants.{Running}
use Rattle.replay.specs.declared.runs.Run.{Run}
use Rattle.replay.specs.Script.{line_of}
use Rattle.replay.specs.Lines.{bad_line}
use Rattle.replay.specs.Runs.{silent, and_then, ready_for, after_call, next_line, renumbered, called, ticked, ran, taken}
use Rattle.replay.specs.Replay.{taken_item}
use Rattle.replay.specs.Settings.{LateSettingIsBad, SiteKeptBehind}

taken_running : (run : Run) (line : Line) (bytes : List ℕ) → run.phase ≡ Running
    → taken run line bytes ≡ and_then (ran run line bytes) (λ r. silent (next_line r))
unfolding taken ready_for
taken_running run line bytes e = rw e

pub late_setting_is_bad : LateSettingIsBad
unfolding ran
late_setting_is_bad run setting bytes e =
    taken_running run (lines.Set setting) bytes e ∙ ap (λ (p : List ℕ). record { run = next_line run; printed = p }) (append-nil (bad_line run.line))

-- ---- what a line keeps

record Kept (run after : Run) : Type 0 where
  phase_is : after.phase ≡ run.phase
  site_is : after.session.site ≡ run.session.site

kept : (run : Run) → Kept run run
kept run = record { phase_is = refl; site_is = refl }

kept_on : {a b c : Run} → Kept a b → Kept b c → Kept a c
kept_on one two = record { phase_is = two.phase_is ∙ one.phase_is; site_is = two.site_is ∙ one.site_is }

called_keeps : (run : Run) (c : Call) → Kept run (called run c).run
unfolding called after_call
called_keeps run c = record { phase_is = refl; site_is = told_keeps_site 40 run.session c }

ticked_keeps : (count : ℕ) (run : Run) → Kept run (ticked count run).run
unfolding ticked
ticked_keeps zero run = kept run
ticked_keeps (suc count) run = kept_on (called_keeps run calls.Tick) (ticked_keeps count (called run calls.Tick).run)

renumbered_keeps : (run : Run) (last : ℕ) → Kept run (renumbered run last)
unfolding renumbered
renumbered_keeps run last = record { phase_is = refl; site_is = refl }

next_line_keeps : (run : Run) → Kept run (next_line run)
unfolding next_line
next_line_keeps run = record { phase_is = refl; site_is = refl }

ran_keeps : (run : Run) (line : Line) (bytes : List ℕ) → Kept run (ran run line bytes).run
unfolding ran
ran_keeps run lines.Nothing bytes = kept run
ran_keeps run (lines.Set setting) bytes = kept run
ran_keeps run (lines.Ticks count) bytes = ticked_keeps count run
ran_keeps run (lines.Other call) bytes = called_keeps run call
ran_keeps run lines.Message bytes = called_keeps run (call_of (message_of class_of link_limits (drop 8 bytes)))
ran_keeps run (lines.Last last) bytes = renumbered_keeps run last
ran_keeps run lines.Bad bytes = kept run

taken_keeps : (run : Run) (line : Line) (bytes : List ℕ) → run.phase ≡ Running → Kept run (taken run line bytes).run
taken_keeps run line bytes e =
    rw (taken_running run line bytes e) (kept_on (ran_keeps run line bytes) (next_line_keeps (ran run line bytes).run))

item_keeps : (run : Run) (x : StreamItem) → run.phase ≡ Running → Kept run (taken_item run x).run
item_keeps run empty e = taken_keeps run lines.Nothing [] e
item_keeps run (message w) e = taken_keeps run (line_of w) w e
item_keeps run too_long e = taken_keeps run lines.Bad [] e

pub site_kept_behind : SiteKeptBehind
site_kept_behind run [] e = refl
site_kept_behind run (x ∷ xs) e =
    let one = item_keeps run x e in
    site_kept_behind (taken_item run x).run xs (one.phase_is ∙ e) ∙ one.site_is
