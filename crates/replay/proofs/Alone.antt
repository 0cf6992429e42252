-- THEOREM `settings_alone`: what a script of settings alone prints (specs/Settings). Assumes nothing.
use mathlib.Core.Path.{◌≡◌, refl, ap, ◌∙◌}
use mathlib.Core.List.{List, [], ◌++◌}
use Prim.Native.Nat.{ℕ}
use Rattle.laws.specs.Search.{least}
use Rattle.texts.specs.Fields.{places, decimal}
use Rattle.framing.specs.Stream.{StreamItem}
use Rattle.conduct.specs.Session.{Session}
use Rattle.conduct.proofs.Conducts.{made_as_chosen}
use Rattle.session.specs.Record.{record_of, made_of}
use Rattle.session.specs.Rows.{table_of}
use Rattle.replay.specs.declared.script.Line.TheVariants as lines
use Rattle.replay.specs.declared.runs.Phase.TheVariants.{Running}
use Rattle.replay.specs.declared.runs.Run.{Run}
use Rattle.replay.specs.Lines.{end_line, last_line}
use Rattle.replay.specs.Runs.{fresh_run, ready_for}
use Rattle.replay.specs.Replay.{taken_items, taken_rest, replayed}
use Rattle.replay.specs.Settings.{site_said, Makes, SettingsAlone}
use Rattle.replay.proofs.Settings.{settings_make}

-- the end of such a script prints the last line of a run made ready, and nothing before it
last_alone : (items : List StreamItem) → (taken_items fresh_run items).printed ≡ []
    → replayed items [] ≡ last_line (ready_for (taken_items fresh_run items).run lines.Bad)
unfolding replayed taken_rest
last_alone items silent = ap (λ (printed : List ℕ). (printed ++ []) ++ last_line (ready_for (taken_items fresh_run items).run lines.Bad)) silent

running_last : (run : Run) → run.phase ≡ Running → last_line run ≡ end_line run.session
unfolding last_line
running_last run e = rw e

pub settings_alone : SettingsAlone
unfolding end_line table_of decimal places least
settings_alone items h =
    let m : Makes items = settings_make items h in
    let alone = last_alone items m.silent in
    let run : Run = ready_for (taken_items fresh_run items).run lines.Bad in
    record {
      made_waits = λ ok.
          let session_is : run.session ≡ (made_of (site_said items)).session = m.made lines.Bad refl in
          let waits = ap (λ (s : Session). end_line (record_of s)) (made_as_chosen (site_said items) ok) in
          alone ∙ (running_last run (m.runs lines.Bad refl ok) ∙ (ap end_line session_is ∙ waits));
      refused_by_4 = λ four. alone ∙ m.stops_by_4 lines.Bad refl four;
      refused_by_18 = λ eighteen. alone ∙ m.stops_by_18 lines.Bad refl eighteen;
    }
