-- `framing::gather_within` meets its contract. A call that is not refused has what the callees require (`accepted`, `cut_fits`), and is a case of `answer_of` and
-- `store_after`. Assumes nothing.
use mathlib.Core.Path.{refl, sym, ◌∙◌}
use native.Mathlib.Omega.{arith}
use Rattle.std.proofs.lemmas.Option.{IfSome_then}
use Rattle.framing.proofs.Refusals.{accepted}
use Rattle.framing.proofs.Call.{cut_fits, when_taken}
use Rattle.framing.proofs.gather_within.Goals as goal

pub cut_piece-cut-requires : goal.cut_piece-cut-requires
cut_piece-cut-requires c =
    let ok = accepted _ _ _ _ _ (sym c.in_ok-accepted.ensures) in
    (ok.below, ok.few)

pub kept-kept-requires : goal.kept-kept-requires
kept-kept-requires c = (accepted _ _ _ _ _ (sym c.in_ok-accepted.ensures)).few

pub lay-requires : goal.lay-requires
lay-requires c =
    let ok = accepted _ _ _ _ _ (sym c.in_ok-accepted.ensures) in
    let fit = rw (← c.cut_piece-cut.ensures) at (cut_fits c.args.boundary.now c.args.piece.now c.args.held.matched ok.below) in
    omega (arith, c.kept-kept.ensures)

pub of_cut-requires : goal.of_cut-requires
of_cut-requires c =
    let ok = accepted _ _ _ _ _ (sym c.in_ok-accepted.ensures) in
    let fit = rw (← c.cut_piece-cut.ensures) at (cut_fits c.args.boundary.now c.args.piece.now c.args.held.matched ok.below) in
    record {
      boundary_fits = ok.few;
      match_fits = IfSome_then c.cut_piece-cut.result.matched fit.held (λ j both. omega (arith, both.0, ok.few));
      end_behind_boundary = λ none. omega (arith, fit.whole none, ok.within);
    }

pub returns : goal.returns
returns c =
    let a = c.args in
    let said = when_taken a.limit a.boundary.now a.store.now a.piece.now a.held.gathered a.held.matched 0 c.in_ok-accepted.ensures refl in
    record {
      answer = rw c.cut_piece-cut.ensures at c.of_cut.ensures ∙ said.0;
      store = rw (c.kept-kept.ensures, c.cut_piece-cut.ensures) at c.lay.ensures ∙ said.1;
    }
