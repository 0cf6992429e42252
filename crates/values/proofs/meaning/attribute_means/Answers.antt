-- `values::meaning::attribute_means` meets its contract: what is read piece by piece is what is read letter by letter. Assumes nothing.
use mathlib.Core.Path.{ap, ◌∙◌}
use Rattle.std.proofs.Common.{rules}
use Rattle.message.specs.Class.{class_in}
use Rattle.message.specs.Values.{means}
use Rattle.values.specs.Pieces.{attribute_piece_at}
use Rattle.values.proofs.Pieces.{attribute_pieces, attribute_piece_on, goes_on}
use Rattle.values.proofs.meaning.attribute_means.Goals as goal

pub spells-requires-clause-goes_on : goal.spells-requires-clause-goes_on
spells-requires-clause-goes_on c = goes_on (attribute_piece_at (class_in c.args.table.now) c.args.s.now) _ (λ at r answers. search rules) (attribute_piece_on _ _)

pub returns : goal.returns
returns c = c.spells.ensures (attribute_piece_at _ _) (λ at r answers. search rules) ∙ ap (means _) (attribute_pieces _ _ _ _ _)
