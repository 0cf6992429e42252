-- Word by word.
use Rattle.std.proofs.Common.{sym, ◌∙◌, ◌≡◌, ℕ, Option, Some, None}
use Rattle.std.specs.Prelude.{MatchOption}
use Rattle.replay.specs.declared.script.Line.{Line}
use Rattle.replay.specs.declared.script.Line.TheVariants.{Last, Bad}
use Rattle.replay.specs.Script.{or_else, numbered_of}
use Rattle.replay.proofs.script.numbered.Goals as goal

pub returns-in-Some-behind-4 : goal.returns-in-Some-behind-4
unfolding numbered_of
returns-in-Some-behind-4 c = rw (
  sym c.figure_behind.ensures ∙ c.in_default.is,
  sym c.figure_behind-2.ensures ∙ c.in_default-figure_behind.is,
  sym c.behind.ensures ∙ c.in_default-behind.is,
  sym c.behind-2.ensures ∙ c.in_default-behind-2.is,
  sym c.behind-3.ensures ∙ c.in_default-behind-3.is,
  sym c.behind-4.ensures ∙ c.in-Some-behind-4.is,
)

-- the word that is looked for last
last_or_bad : (o : Option ℕ) → {r : Line} → MatchOption o (r ≡ Bad) (λ x. r ≡ Last x) → r ≡ or_else o Last Bad
last_or_bad (Some x) is = is
last_or_bad None is = is

pub returns : goal.returns
unfolding numbered_of
returns c = rw (
  sym c.figure_behind.ensures ∙ c.in_default.is,
  sym c.figure_behind-2.ensures ∙ c.in_default-figure_behind.is,
  sym c.behind.ensures ∙ c.in_default-behind.is,
  sym c.behind-2.ensures ∙ c.in_default-behind-2.is,
  sym c.behind-3.ensures ∙ c.in_default-behind-3.is,
  sym c.behind-4.ensures ∙ c.in_default-behind-4.is,
  sym c.behind-5.ensures,
) (last_or_bad c.behind-5.result c.map_or.ensures)
