-- `session::tables::all_sound` meets its contract: it asks of each row what the definition asks. Assumes nothing.
use borrow.Author.Rules.{rules}
use mathlib.Core.Path.{refl}
use Rattle.std.proofs.lemmas.List.Recursion.{and_is}
use Rattle.conduct.specs.Lists.{all}
use Rattle.conduct.specs.Sound.{sound_push}
use Rattle.session.specs.Rows.{no_push}
use Rattle.session.proofs.tables.all_sound.Goals as goal

pub returns : goal.returns
returns c = and_is (all (sound_push c.args.terms)) (sound_push c.args.terms) refl (λ _ _. refl) c.args.rows.now no_push c.all.result (search rules) (search rules)
