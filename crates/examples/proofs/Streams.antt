-- Streams and their items, whatever the pieces: by the theorems of the framing. Assumes nothing.
use mathlib.Core.Path.{◌≡◌, sym, ap, ◌∙◌}
use mathlib.Core.List.{List, [], ◌∷◌, ◌++◌, append-nil}
use Prim.Native.Nat.{ℕ, ◌≤◌}
use native.Mathlib.Omega.{arith}
use lib.ListN.{length, length-append}
use Rattle.laws.specs.Bytes.{same_bytes, ends_with}
use Rattle.laws.specs.Search.{least}
use Rattle.framing.specs.Cutting.{link_limit, item_end}
use Rattle.framing.specs.Stream.{Part, CutAt, parts_of, waiting_of, item_of_part, items_of_parts, StreamItem, message as item_of, too_long}
use Rattle.framing.proofs.Cuts.{cut_once}
use Rattle.framing.proofs.Found.{cut_found}
use Rattle.framing.proofs.Link.{link_items}
use Rattle.framing.proofs.Stream.{items_of_the_stream}
use Rattle.message.specs.Words.{codes}
use Rattle.examples.specs.Twelve.{Gives, limit, Holds}
use Rattle.examples.proofs.Rows.{Row}

-- the calls give the items of the one cut that there is
by_cut : (b stream : List ℕ) (parts : List (List ℕ)) (waiting : List ℕ) → (1 ≤ length b → CutAt b stream parts waiting)
    → Gives b stream (items_of_parts link_limit b parts) waiting
by_cut b stream parts waiting cut store pieces given last lent same calls =
    let d = items_of_the_stream link_limit b store lent pieces given last calls in
    let once = cut_once b stream d.parts parts d.waiting waiting (rw same at d.cuts) (cut lent.some) in
    (d.gives ∙ ap (items_of_parts link_limit b) once.0, rw once.1 at d.holds)

-- that cut as it is found
pub by_search : (b stream : List ℕ) → Gives b stream (items_of_parts link_limit b (parts_of (length stream) b stream)) (waiting_of (length stream) b stream)
by_search b stream = by_cut b stream (parts_of (length stream) b stream) (waiting_of (length stream) b stream) (λ some. cut_found (length stream) b stream some (omega arith))

cut_of_part : (b x : List ℕ) → Part b (x ++ b) → 1 ≤ length b → CutAt b (x ++ b) ((x ++ b) ∷ []) []
cut_of_part b x part some =
    record {
      whole = sym (append-nil (x ++ b ++ []) ∙ append-nil (x ++ b));
      each = (part, tt);
      left = λ y z e. omega (arith, some, ap length e, length-append y (b ++ z), length-append b z);
    }

pub first_cut : Row 1
unfolding same_bytes ends_with least item_end item_of_part parts_of waiting_of
first_cut = by_search (codes "aab") (codes "aaab")

pub second_cut : Row 2
unfolding same_bytes ends_with least item_end item_of_part parts_of waiting_of
second_cut = by_search (codes "aa") (codes "baaa")

-- the item of so many bytes and a boundary, by the law of the link's items
by_length : (bytes : ℕ) (item : List ℕ → StreamItem)
    → ((b x : List ℕ) → length x ≡ bytes → item_of_part link_limit b (x ++ b) ≡ item x) → Holds (limit bytes item)
by_length bytes item is b x size part =
    rw (is b x size) at (by_cut b (x ++ b) ((x ++ b) ∷ []) [] (cut_of_part b x part))

pub longest_message : Row 3
longest_message = by_length 65520 (λ x. item_of x) (λ b x size. (link_items b x).few (omega (arith, size)) (omega (arith, size)))

pub one_byte_more : Row 4
one_byte_more = by_length 65521 (λ x. too_long) (λ b x size. (link_items b x).many (omega (arith, size)))
