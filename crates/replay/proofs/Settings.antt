-- THEOREM `settings_make`: the session is made with what the settings said, and a refused making says why (specs/Settings). Assumes nothing.
use mathlib.Core.Path.{◌≡◌, refl, ap, ◌∙◌}
use mathlib.Core.Bool.{false, not}
use mathlib.Core.List.{[]}
use borrow.Author.Tests.{ne_eqb}
use Rattle.conduct.specs.declared.Conduct.TheVariants.{New}
use Rattle.conduct.specs.declared.Site.{Site}
use Rattle.session.specs.Record.{made_of}
use Rattle.replay.specs.declared.script.Line.{Line}
use Rattle.replay.specs.declared.runs.Phase.TheVariants.{Settling, Refused}
use Rattle.replay.specs.declared.runs.Run.{Run}
use Rattle.replay.specs.Runs.{fresh_run, phase_by, ready_for}
use Rattle.replay.specs.Replay.{taken_items}
use Rattle.replay.proofs.Ready.{ends_unless, made_by}
use Rattle.replay.proofs.Settle.{site_after, Settled, said_in, settle}
use Rattle.replay.proofs.Refused.{taken_refused, last_by_4, last_by_18}
use Rattle.replay.specs.Settings.{is_setting_or_empty, site_said, SettingsMake}

fresh_is : (fresh_run.phase ≡ Settling) × (fresh_run.site ≡ record { interval = 100; conduct = New; resends = 1 })
unfolding fresh_run
fresh_is = (refl, refl)

pub settings_make : SettingsMake
settings_make items h =
    record {
      silent = done.0;
      made = λ line ends. (ready line ends).0 ∙ ap (λ (site : Site). (made_of site).session) as_said;
      runs = λ line ends ok. phase_by_lem line ends ∙ ap phase_by ok;
      stops = stopped;
      stops_silent = λ line bytes ends bad. taken_refused after line bytes (stopped line ends bad);
      stops_by_4 = λ line ends four. last_by_4 (ready_for after line) (phase_by_lem line ends ∙ ap phase_by four);
      stops_by_18 = λ line ends eighteen. last_by_18 (ready_for after line) (phase_by_lem line ends ∙ ap phase_by eighteen);
    }
  where
    after : Run
    after = (taken_items fresh_run items).run

    done : ((taken_items fresh_run items).printed ≡ []) × Settled fresh_run (said_in items) after
    done = settle items fresh_run fresh_is.0 h

    as_said : after.site ≡ site_said items
    as_said = done.1.site_is ∙ ap (λ (site : Site). site_after site (said_in items)) fresh_is.1

    ready : (line : Line) → is_setting_or_empty line ≡ false
        → ((ready_for after line).session ≡ (made_of after.site).session) × ((ready_for after line).phase ≡ phase_by (made_of after.site).refusal)
    ready line ends = made_by after line done.1.settling (ends_unless line ∙ ap not ends)

    phase_by_lem : (line : Line) → is_setting_or_empty line ≡ false → (ready_for after line).phase ≡ phase_by (made_of (site_said items)).refusal
    phase_by_lem line ends = (ready line ends).1 ∙ ap (λ (site : Site). phase_by (made_of site).refusal) as_said

    stopped : (line : Line) → is_setting_or_empty line ≡ false → ((made_of (site_said items)).refusal ≡ 0 → ⊥)
        → (ready_for after line).phase ≡ Refused (made_of (site_said items)).refusal
    stopped line ends bad = phase_by_lem line ends ∙ rw (ne_eqb (made_of (site_said items)).refusal 0 bad)
