-- Promise of the program replay: its settings (INTERFACES, "replay"; document 02, M-105 and M-110): which lines say a conduct or a figure,
-- what the session is made with, that it keeps it, and what a refused making prints. (proofs/ConductWords, FigureWords, Settings, Alone, Refused,
-- Behind, AtWork)
-- Assumes nothing.
use Rattle.std.specs.Prelude.{◌≡◌, Bool, true, false, ◌⊎◌, List, [], ◌∷◌, ◌++◌, map, ℕ, None, Some}
use Rattle.message.specs.Words.{codes}
use Rattle.message.specs.Values.{decimal_of}
use Rattle.framing.specs.Stream.{StreamItem, empty, message, too_long}
use Rattle.conduct.specs.Lists.{flat, all}
use Rattle.conduct.specs.declared.Conduct.{Conduct}
use Rattle.conduct.specs.declared.Conduct.TheVariants.{New, Old}
use Rattle.conduct.specs.declared.Site.{Site}
use Rattle.session.specs.Record.{made_of}
use Rattle.replay.specs.declared.script.Line.{Line}
use Rattle.replay.specs.declared.script.Line.TheVariants as lines
use Rattle.replay.specs.declared.script.Setting.{Setting}
use Rattle.replay.specs.declared.script.Setting.TheVariants as settings
use Rattle.replay.specs.declared.runs.Phase.TheVariants.{Running, Refused}
use Rattle.replay.specs.declared.runs.Run.{Run}
use Rattle.replay.specs.Script.{is_decimal, line_of}
use Rattle.replay.specs.Lines.{bad_line, last_line}
use Rattle.replay.specs.Runs.{fresh_run, ready_for, next_line, taken}
use Rattle.replay.specs.Replay.{taken_items, replayed}

-- ---- lines

abbrev pub words_for : Conduct → List ℕ
words_for New = codes "conduct new"
words_for Old = codes "conduct old"

-- a line says a conduct exactly if it is its two words
abbrev pub ConductByItsWords : Type 0
ConductByItsWords =
    (k : Conduct) → (line_of (words_for k) ≡ lines.Set (settings.Conduct k)) × ((w : List ℕ) → line_of w ≡ lines.Set (settings.Conduct k) → w ≡ words_for k)

abbrev pub ConductsAtWork : Type 0
ConductsAtWork =
    map line_of
    (codes "conduct new"
    ∷ codes "conduct old"
    ∷ codes "conduct New"
    ∷ codes "conduct OLD"
    ∷ codes "conduct"
    ∷ codes "conduct "
    ∷ codes "conduct  old"
    ∷ codes "conduct old "
    ∷ codes "conduct olds"
    ∷ codes " conduct old"
    ∷ codes "conduct 1"
    ∷ [])
    ≡ lines.Set (settings.Conduct New)
    ∷ lines.Set (settings.Conduct Old)
    ∷ lines.Bad
    ∷ lines.Bad
    ∷ lines.Bad
    ∷ lines.Bad
    ∷ lines.Bad
    ∷ lines.Bad
    ∷ lines.Bad
    ∷ lines.Bad
    ∷ lines.Bad
    ∷ []

-- the text is a number of any size without leading zeros, and says n: the number itself, or the greatest where it is too long for 32 bits
abbrev pub Says : List ℕ → ℕ → Type 0
Says text n = (is_decimal text ≡ true) × ((decimal_of text ≡ Some n) ⊎ ((decimal_of text ≡ None) × (n ≡ 4294967295)))

-- a line sets a figure exactly if it is its word and such a text
pub record ByItsWord (word : List ℕ) (say : ℕ → Setting) : Type 0 where
  pub fits : (text : List ℕ) (n : ℕ) → decimal_of text ≡ Some n → line_of (word ++ text) ≡ lines.Set (say n)
  pub too_long : (text : List ℕ) → decimal_of text ≡ None → is_decimal text ≡ true → line_of (word ++ text) ≡ lines.Set (say 4294967295)
  pub only : (w : List ℕ) (n : ℕ) → line_of w ≡ lines.Set (say n)
      → (text : List ℕ) × (w ≡ word ++ text) × Says text n

abbrev pub FiguresByTheirWords : Type 0
FiguresByTheirWords = ByItsWord (codes "interval ") settings.Interval × ByItsWord (codes "resends ") settings.Resends

abbrev pub FiguresAtWork : Type 0
FiguresAtWork =
    map line_of
    (codes "resends 0"
    ∷ codes "resends 1"
    ∷ codes "resends 3"
    ∷ codes "resends 4"
    ∷ codes "resends 4294967295"
    ∷ codes "resends 4294967296"
    ∷ codes "resends 18446744073709551616"
    ∷ codes "resends 00"
    ∷ codes "resends 04"
    ∷ codes "resends 04294967296"
    ∷ codes "resends"
    ∷ codes "resends "
    ∷ codes "resends  2"
    ∷ codes "resends 2 "
    ∷ codes "resends -1"
    ∷ codes "resends +1"
    ∷ codes "resends 2.0"
    ∷ codes "resends 4294967296x"
    ∷ codes "Resends 1"
    ∷ codes " resends 1"
    ∷ codes "resent 1"
    ∷ codes "resends1"
    ∷ codes "interval 21"
    ∷ codes "interval 4294967296"
    ∷ codes "interval 021"
    ∷ codes "interval"
    ∷ codes "interval 21 "
    ∷ [])
    ≡ lines.Set (settings.Resends 0)
    ∷ lines.Set (settings.Resends 1)
    ∷ lines.Set (settings.Resends 3)
    ∷ lines.Set (settings.Resends 4)
    ∷ lines.Set (settings.Resends 4294967295)
    ∷ lines.Set (settings.Resends 4294967295)
    ∷ lines.Set (settings.Resends 4294967295)
    ∷ lines.Bad
    ∷ lines.Bad
    ∷ lines.Bad
    ∷ lines.Bad
    ∷ lines.Bad
    ∷ lines.Bad
    ∷ lines.Bad
    ∷ lines.Bad
    ∷ lines.Bad
    ∷ lines.Bad
    ∷ lines.Bad
    ∷ lines.Bad
    ∷ lines.Bad
    ∷ lines.Bad
    ∷ lines.Bad
    ∷ lines.Set (settings.Interval 21)
    ∷ lines.Set (settings.Interval 4294967295)
    ∷ lines.Bad
    ∷ lines.Bad
    ∷ lines.Bad
    ∷ []

-- ---- what the session is made with: each setting as it was said last, else 100 ticks, the new conduct and one resend

abbrev pub line_in : StreamItem → Line
line_in empty = lines.Nothing
line_in (message w) = line_of w
line_in too_long = lines.Bad

abbrev pub said : Line → List Setting
said lines.Nothing = []
said (lines.Set setting) = setting ∷ []
said (lines.Ticks count) = []
said (lines.Other call) = []
said lines.Message = []
said (lines.Last last) = []
said lines.Bad = []

abbrev pub last_interval : ℕ → List Setting → ℕ
last_interval before [] = before
last_interval before (settings.Interval interval ∷ later) = last_interval interval later
last_interval before (settings.Conduct conduct ∷ later) = last_interval before later
last_interval before (settings.Resends resends ∷ later) = last_interval before later

abbrev pub last_conduct : Conduct → List Setting → Conduct
last_conduct before [] = before
last_conduct before (settings.Interval interval ∷ later) = last_conduct before later
last_conduct before (settings.Conduct conduct ∷ later) = last_conduct conduct later
last_conduct before (settings.Resends resends ∷ later) = last_conduct before later

abbrev pub last_resends : ℕ → List Setting → ℕ
last_resends before [] = before
last_resends before (settings.Interval interval ∷ later) = last_resends before later
last_resends before (settings.Conduct conduct ∷ later) = last_resends before later
last_resends before (settings.Resends resends ∷ later) = last_resends resends later

abbrev pub is_setting_or_empty : Line → Bool
is_setting_or_empty lines.Nothing = true
is_setting_or_empty (lines.Set setting) = true
is_setting_or_empty (lines.Ticks count) = false
is_setting_or_empty (lines.Other call) = false
is_setting_or_empty lines.Message = false
is_setting_or_empty (lines.Last last) = false
is_setting_or_empty lines.Bad = false

abbrev pub site_said : List StreamItem → Site
site_said items =
    let settings_of : List Setting = flat (λ (x : StreamItem). said (line_in x)) items in
    record { interval = last_interval 100 settings_of; conduct = last_conduct New settings_of; resends = last_resends 1 settings_of }

-- After settings and empty lines nothing is printed, and the first line that is neither finds the session made so: it runs, or its making
-- was refused. Then that line prints nothing either, and the last line that is printed says why, and ends with an LF.
pub record Makes (items : List StreamItem) : Type 0 where
  pub silent : (taken_items fresh_run items).printed ≡ []
  pub made : (line : Line) → is_setting_or_empty line ≡ false
      → (ready_for (taken_items fresh_run items).run line).session ≡ (made_of (site_said items)).session
  pub runs : (line : Line) → is_setting_or_empty line ≡ false → (made_of (site_said items)).refusal ≡ 0
      → (ready_for (taken_items fresh_run items).run line).phase ≡ Running
  pub stops : (line : Line) → is_setting_or_empty line ≡ false → ((made_of (site_said items)).refusal ≡ 0 → ⊥)
      → (ready_for (taken_items fresh_run items).run line).phase ≡ Refused (made_of (site_said items)).refusal
  pub stops_silent : (line : Line) (bytes : List ℕ) → is_setting_or_empty line ≡ false → ((made_of (site_said items)).refusal ≡ 0 → ⊥)
      → taken (taken_items fresh_run items).run line bytes ≡ record { run = ready_for (taken_items fresh_run items).run line; printed = [] }
  pub stops_by_4 : (line : Line) → is_setting_or_empty line ≡ false → (made_of (site_said items)).refusal ≡ 4
      → last_line (ready_for (taken_items fresh_run items).run line) ≡ codes "stop 4" ++ (10 ∷ [])
  pub stops_by_18 : (line : Line) → is_setting_or_empty line ≡ false → (made_of (site_said items)).refusal ≡ 18
      → last_line (ready_for (taken_items fresh_run items).run line) ≡ codes "stop 18" ++ (10 ∷ [])

abbrev pub SettingsMake : Type 0
SettingsMake = (items : List StreamItem) → all (λ (x : StreamItem). is_setting_or_empty (line_in x)) items ≡ true → Makes items

-- A script of settings and empty lines alone: its end makes the session, and prints how that went and nothing else.
pub record Ends (items : List StreamItem) : Type 0 where
  pub made_waits : (made_of (site_said items)).refusal ≡ 0 → replayed items [] ≡ codes "end waiting 0" ++ (10 ∷ [])
  pub refused_by_4 : (made_of (site_said items)).refusal ≡ 4 → replayed items [] ≡ codes "stop 4" ++ (10 ∷ [])
  pub refused_by_18 : (made_of (site_said items)).refusal ≡ 18 → replayed items [] ≡ codes "stop 18" ++ (10 ∷ [])

abbrev pub SettingsAlone : Type 0
SettingsAlone = (items : List StreamItem) → all (λ (x : StreamItem). is_setting_or_empty (line_in x)) items ≡ true → Ends items

-- whole scripts: the lines, and what is printed
abbrev pub printed_for : List (List ℕ) → List ℕ
printed_for script = replayed (map message script) []

abbrev pub SettingsAtWork : Type 0
SettingsAtWork =
    map printed_for
    ((codes "resends 3" ∷ [])
    ∷ (codes "resends 4" ∷ [])
    ∷ (codes "resends 4294967296" ∷ [])
    ∷ (codes "interval 20" ∷ [])
    ∷ (codes "resends 4" ∷ codes "interval 20" ∷ [])
    ∷ (codes "resends 4" ∷ codes "resends 0" ∷ [])
    ∷ (codes "resends 0" ∷ codes "resends 4" ∷ codes "tick" ∷ codes "resends 0" ∷ codes "resend 0" ∷ [])
    ∷ (codes "resend 0" ∷ codes "resends 4" ∷ [])
    ∷ [])
    ≡ (codes "end waiting 0" ++ (10 ∷ []))
    ∷ (codes "stop 18" ++ (10 ∷ []))
    ∷ (codes "stop 18" ++ (10 ∷ []))
    ∷ (codes "stop 4" ++ (10 ∷ []))
    ∷ (codes "stop 4" ++ (10 ∷ []))
    ∷ (codes "end waiting 0" ++ (10 ∷ []))
    ∷ (codes "stop 18" ++ (10 ∷ []))
    ∷ (codes "line 1 bad" ++ (10 ∷ codes "line 2 bad" ++ (10 ∷ codes "end waiting 0" ++ (10 ∷ []))))
    ∷ []

-- ---- behind the settings: a setting is bad and changes nothing, and no line changes what the session was made with

abbrev pub LateSettingIsBad : Type 0
LateSettingIsBad =
    (run : Run) (setting : Setting) (bytes : List ℕ) → run.phase ≡ Running
    → taken run (lines.Set setting) bytes ≡ record { run = next_line run; printed = bad_line run.line }

abbrev pub SiteKeptBehind : Type 0
SiteKeptBehind = (run : Run) (items : List StreamItem) → run.phase ≡ Running → (taken_items run items).run.session.site ≡ run.session.site

-- ---- behind a refused making: nothing is printed for any line, and nothing changes

abbrev pub SilentBehindRefusal : Type 0
SilentBehindRefusal =
    (run : Run) (refusal : ℕ) (items : List StreamItem) → run.phase ≡ Refused refusal
    → taken_items run items ≡ record { run = run; printed = [] }
