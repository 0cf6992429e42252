-- `session::holding::Holding::of` meets its contract: each push more puts its number behind the others, and at the end all are there. Assumes nothing.
use mathlib.Core.Path.{◌≡◌, ap, ◌∙◌}
use mathlib.Core.List.{List, ◌++◌}
use Prim.Native.Nat.{◌<◌}
use native.Mathlib.Omega.{arith}
use lib.ListN.{length, take, length-set}
use lib.Seq.{take_all}
use Rattle.conduct.specs.Session.{session_ok_numbers, push_numbers}
use Rattle.conduct.specs.declared.Push.{Push}
use Rattle.session.specs.Rows.{no_push, rows_of}
use Rattle.session.proofs.Rows.{rows_few}
use Rattle.session.proofs.NumberLaws.{held_next}
use Rattle.session.proofs.holding.Holding.of.Goals as goal

pub bounds-numbers-count : goal.bounds-numbers-count
bounds-numbers-count c = omega (arith, rows_few c.args.session.now.pushes, ap length c.open_rows-p-items.ensures)

pub loop-p-preserved : goal.loop-p-preserved
loop-p-preserved c =
    let l = c.loop-p in
    let s = c.args.session.now in
    let rows = rows_of s.pushes in
    let more : l.p-index < length rows = omega (arith, ap length c.open_rows-p-items.ensures) in
    record {
      size = length-set l.numbers l.count _ ∙ l.invariant.size;
      few = omega arith;
      so_far = rw c.open_rows-p-items.ensures
          (held_next (session_ok_numbers s.state) l.numbers l.count rows l.p-index no_push (omega (arith, rows_few s.pushes)) more l.invariant.so_far);
    }

pub invariant_of-result : goal.invariant_of-result
invariant_of-result c =
    let l = c.loop-p in
    let s = c.args.session.now in
    let rows = rows_of s.pushes in
    let size = ap length c.open_rows-p-items.ensures in
    let all : take l.p-index rows ≡ rows = take_all l.p-index rows (omega (arith, size)) in
    record {
      fits = omega (arith, size, rows_few s.pushes);
      held = l.invariant.so_far ∙ ap (λ (ps : List Push). session_ok_numbers s.state ++ push_numbers ps) all;
    }
