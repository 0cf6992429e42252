-- THEOREM `cut_found`: the parts and the bytes waiting that are found from left to right are the stream cut as `CutAt` says. Assumes nothing.
use mathlib.Core.Path.{◌≡◌, refl, sym, ap, ◌∙◌}
use mathlib.Core.Bool.{Bool, true, false, cond}
use mathlib.Core.List.{List, [], ◌∷◌, ◌++◌, append_assoc}
use Prim.Native.Nat.{ℕ, zero, suc, ◌≤◌, ◌<◌}
use native.Mathlib.Omega.{arith}
use lib.ListN.{length, take, drop, length-take, length-drop, take-append-drop}
use lib.Dec.{leb}
use borrow.Author.Tests.{leb-true, leb-false}
use Rattle.laws.specs.Bytes.{ends_with}
use Rattle.laws.proofs.Search.{least_passes, least_below}
use Rattle.laws.proofs.Tails.{ends_of_test, ends_shorter, too_long_lem}
use Rattle.framing.specs.Cutting.{item_end}
use Rattle.framing.specs.Stream.{joined, CutAt, parts_of, waiting_of}
use Rattle.framing.specs.Promises.{CutFound}
use Rattle.framing.proofs.Cuts.{none_free, part_first}

-- where the first item of w ends, with all that is known of it
module _ (b w : List ℕ) where
  ends : ℕ → Bool
  ends e = ends_with b (take e w)

  passes : item_end b w ≤ length w → ends_with b (take (item_end b w) w) ≡ true
  unfolding item_end ends
  passes within = least_passes ends (suc (length w)) (omega arith)

  none_before : (e : ℕ) → e < item_end b w → ends_with b (take e w) ≡ false
  unfolding item_end ends
  none_before e before = least_below ends (suc (length w)) e before

  some_taken : 1 ≤ length b → item_end b w ≤ length w → 1 ≤ item_end b w
  some_taken some within =
      let longer = ends_shorter b (take (item_end b w) w) (ends_of_test b (take (item_end b w) w) (passes within)) in
      omega (arith, length-take (item_end b w) w, longer)

pub cut_found : CutFound
unfolding parts_of waiting_of
cut_found zero b w some short =
    record {
      whole = refl;
      each = tt;
      left = none_free b w (λ e within. too_long_lem b (take e w) (omega (arith, length-take e w)));
    }
cut_found (suc fuel) b w some short = go (leb (item_end b w) (length w)) refl (cut_found fuel b (drop (item_end b w) w) some)
  where
    go : (t : Bool) → leb (item_end b w) (length w) ≡ t
        → (length (drop (item_end b w) w) ≤ fuel → CutAt b (drop (item_end b w) w) (parts_of fuel b (drop (item_end b w) w)) (waiting_of fuel b (drop (item_end b w) w)))
        → CutAt b w (cond t (take (item_end b w) w ∷ parts_of fuel b (drop (item_end b w) w)) []) (cond t (waiting_of fuel b (drop (item_end b w) w)) w)
    go true is rest =
        let within = leb-true (item_end b w) (length w) is in
        let after = rest (omega (arith, length-drop (item_end b w) w, some_taken b w some within)) in
        record {
          whole =
              sym (take-append-drop (item_end b w) w) ∙ ap (λ (l : List ℕ). take (item_end b w) w ++ l) after.whole
              ∙ sym (append_assoc (take (item_end b w) w) (joined (parts_of fuel b (drop (item_end b w) w))) (waiting_of fuel b (drop (item_end b w) w)));
          each = (part_first b w (item_end b w) within (passes b w within) (none_before b w), after.each);
          left = after.left;
        }
    go false is rest =
        record {
          whole = refl;
          each = tt;
          left = none_free b w (λ i within. none_before b w i (omega (arith, leb-false (item_end b w) (length w) is)));
        }
