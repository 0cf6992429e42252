-- What settings and empty lines do one after the other: they change the site alone, each its own part of it, and print nothing. Assumes nothing.
use mathlib.Core.Path.{◌≡◌, refl, ap, ◌∙◌}
use mathlib.Core.Bool.{Bool, true, false, not}
use mathlib.Core.List.{List, [], ◌∷◌, ◌++◌}
use Prim.Native.Nat.{ℕ}
use Rattle.std.proofs.lemmas.Bool.{and_parts, both_ways}
use Rattle.framing.specs.Stream.{StreamItem, empty, message, too_long}
use Rattle.conduct.specs.Lists.{flat, all}
use Rattle.conduct.specs.declared.Site.{Site}
use Rattle.replay.specs.declared.script.Line.{Line}
use Rattle.replay.specs.declared.script.Line.TheVariants as lines
use Rattle.replay.specs.declared.script.Setting.{Setting}
use Rattle.replay.specs.declared.script.Setting.TheVariants as settings
use Rattle.replay.specs.declared.runs.Phase.TheVariants.{Settling}
use Rattle.replay.specs.declared.runs.Run.{Run}
use Rattle.replay.specs.Script.{line_of}
use Rattle.replay.specs.Runs.{Done, silent, and_then, ends_settings, ready_for, next_line, settled, set, taken}
use Rattle.replay.specs.Replay.{taken_item, taken_items}
use Rattle.replay.proofs.Ready.{ends_unless}
use Rattle.replay.specs.Settings.{line_in, said, last_interval, last_conduct, last_resends, is_setting_or_empty}

-- ---- one line

taken_set : (run : Run) (line : Line) (bytes : List ℕ) → run.phase ≡ Settling → ends_settings line ≡ false
    → taken run line bytes ≡ silent (next_line (set run line))
unfolding taken ready_for
taken_set run line bytes e h = rw (e, h)

taken_item_lem : (run : Run) (x : StreamItem) → run.phase ≡ Settling → ends_settings (line_in x) ≡ false
    → taken_item run x ≡ silent (next_line (set run (line_in x)))
taken_item_lem run empty e h = taken_set run lines.Nothing [] e h
taken_item_lem run (message w) e h = taken_set run (line_of w) w e h
taken_item_lem run too_long e h = taken_set run lines.Bad [] e h

-- what the settings said so far make of a site
abbrev pub site_after : Site → List Setting → Site
site_after site ss =
    record { interval = last_interval site.interval ss; conduct = last_conduct site.conduct ss; resends = last_resends site.resends ss }

pub record Settled (run : Run) (ss : List Setting) (after : Run) : Type 0 where
  pub settling : after.phase ≡ Settling
  pub site_is : after.site ≡ site_after run.site ss

set_one : (run : Run) (line : Line) → run.phase ≡ Settling → ends_settings line ≡ false → Settled run (said line) (next_line (set run line))
unfolding set settled next_line
set_one run lines.Nothing e h = record { settling = e; site_is = refl }
set_one run (lines.Set (settings.Interval interval)) e h = record { settling = e; site_is = refl }
set_one run (lines.Set (settings.Conduct conduct)) e h = record { settling = e; site_is = refl }
set_one run (lines.Set (settings.Resends resends)) e h = record { settling = e; site_is = refl }
set_one run (lines.Ticks count) e h = absurd (both_ways _ h refl)
set_one run (lines.Other call) e h = absurd (both_ways _ h refl)
set_one run lines.Message e h = absurd (both_ways _ h refl)
set_one run (lines.Last last) e h = absurd (both_ways _ h refl)
set_one run lines.Bad e h = absurd (both_ways _ h refl)

-- ---- lines one after the other

abbrev pub said_in : List StreamItem → List Setting
said_in items = flat (λ (x : StreamItem). said (line_in x)) items

said_on : (site : Site) (line : Line) (later : List Setting) → site_after (site_after site (said line)) later ≡ site_after site (said line ++ later)
said_on site lines.Nothing later = refl
said_on site (lines.Set (settings.Interval interval)) later = refl
said_on site (lines.Set (settings.Conduct conduct)) later = refl
said_on site (lines.Set (settings.Resends resends)) later = refl
said_on site (lines.Ticks count) later = refl
said_on site (lines.Other call) later = refl
said_on site lines.Message later = refl
said_on site (lines.Last last) later = refl
said_on site lines.Bad later = refl

abbrev settle_on : List StreamItem → Done → Done
settle_on xs d = and_then d (λ r. taken_items r xs)

pub settle : (items : List StreamItem) (run : Run) → run.phase ≡ Settling → all (λ (x : StreamItem). is_setting_or_empty (line_in x)) items ≡ true
    → ((taken_items run items).printed ≡ []) × Settled run (said_in items) (taken_items run items).run
settle [] run e h = (refl, record { settling = e; site_is = refl })
settle (x ∷ xs) run e h =
    let sets : Bool = is_setting_or_empty (line_in x) in
    let rest : Bool = all (λ (x : StreamItem). is_setting_or_empty (line_in x)) xs in
    let goes_on = ends_unless (line_in x) ∙ ap not (and_parts sets rest h).0 in
    let here = taken_item_lem run x e goes_on in
    let one = set_one run (line_in x) e goes_on in
    let later = settle xs (next_line (set run (line_in x))) one.settling (and_parts sets rest h).1 in (
      ap (λ (d : Done). (settle_on xs d).printed) here ∙ later.0,
      record {
        settling = ap (λ (d : Done). (settle_on xs d).run.phase) here ∙ later.1.settling;
        site_is =
            ap (λ (d : Done). (settle_on xs d).run.site) here
            ∙ (later.1.site_is ∙ (ap (λ (site : Site). site_after site (said_in xs)) one.site_is ∙ said_on run.site (line_in x) (said_in xs)));
      },
    )
