-- `session::holding::Holding::of` meets its contract: the places that are filled have the number of the open SessionOk, if any, and then those of
-- the pushes passed. Assumes nothing.
use Rattle.std.proofs.Common.{◌≡◌, ◌+◌, ◌≤◌, ◌++◌, length, take}
use Rattle.conduct.specs.Session.{session_ok_numbers, push_numbers}
use Rattle.session.specs.Rows.{rows_of}
use Rattle.session.proofs.holding.Holding.of.Given as goal

abbrev pub invariant-loop-p : goal.invariant-loop-p
invariant-loop-p l =
    record {
      size : length l.numbers ≡ 33;
      few : l.count ≤ l.p-index + 1;
      so_far : take l.count l.numbers ≡ session_ok_numbers l.session.state ++ push_numbers (take l.p-index (rows_of l.session.pushes));
    }
