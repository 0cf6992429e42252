-- `session::Table::is_blank_after` meets its contract: it asks of each row what the definition asks. Assumes nothing.
use borrow.Author.Rules.{rules}
use mathlib.Core.Path.{refl, ap, ◌∙◌}
use Prim.Native.Nat.{◌-◌}
use native.Mathlib.Omega.{arith}
use lib.ListN.{take, drop, length-drop}
use lib.Seq.{take_all}
use Rattle.std.proofs.lemmas.List.Recursion.{and_is}
use Rattle.conduct.specs.Lists.{all}
use Rattle.session.specs.Rows.{no_push, is_blank}
use Rattle.session.proofs.Table.is_blank_after.Goals as goal

pub returns : goal.returns
returns c =
    let t = c.args.self.now in
    let behind = drop t.count t.rows in
    and_is (all is_blank) is_blank refl (λ _ _. refl) (take (32 - t.count) behind) no_push c.all.result (search rules) (search rules)
    ∙ ap (all is_blank) (take_all (32 - t.count) behind (simp length-drop (omega arith)))
