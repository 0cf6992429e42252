-- THEOREMS on the link's own limit. `link_lent`: a store of 65,536 bytes is enough. `link_items`: which items there are, by the bytes before the
-- boundary. Assumes nothing.
use mathlib.Core.Path.{◌≡◌, ap, ◌∙◌}
use mathlib.Core.List.{◌++◌}
use Prim.Native.Nat.{ℕ, ◌+◌, ◌-◌}
use native.Mathlib.Omega.{arith}
use lib.ListN.{length, take, length-append}
use lib.Seq.{take-append_seam}
use borrow.Author.Tests.{eq-eqb, ne_eqb, le-leb, lt-leb}
use Rattle.framing.specs.Cutting.{link_limit}
use Rattle.framing.specs.Stream.{message, item_of_part}
use Rattle.framing.specs.Promises.{LinkLent, LinkItems}

pub link_lent : LinkLent
link_lent b s some few roomy = record { some = some; few = few; roomy = omega arith; countable = omega arith }

pub link_items : LinkItems
unfolding item_of_part
link_items b x =
    record {
      none = λ empty. rw (eq-eqb (length (x ++ b)) (length b) (omega (arith, size)));
      few =
          λ some fits.
          rw (ne_eqb (length (x ++ b)) (length b) (λ same. omega (arith, size)), le-leb (length (x ++ b) - length b) link_limit (omega (arith, size)))
          (ap message (ap (λ (n : ℕ). take n (x ++ b)) before ∙ take-append_seam x b));
      many =
          λ over.
          rw (ne_eqb (length (x ++ b)) (length b) (λ same. omega (arith, size)), lt-leb (length (x ++ b) - length b) link_limit (omega (arith, size)));
    }
  where
    size : length (x ++ b) ≡ length x + length b
    size = length-append x b

    before : length (x ++ b) - length b ≡ length x
    before = omega (arith, size)
