-- `rules::numbers::next_free` meets its contract: what is left of the search comes to what the whole search does. Assumes nothing.
use Rattle.std.proofs.Common.{◌≡◌, ◌-◌, length}
use Rattle.conduct.specs.Numbers.{free_from, next_free}
use Rattle.rules.proofs.numbers.next_free.Given as goal

abbrev pub invariant-loop-held : goal.invariant-loop-held
invariant-loop-held l = next_free l.numbers l.last ≡ free_from (length l.numbers - l._held-index) l.number l.numbers
