-- LAWS on the list that C lends. `written_behind`: numbers placed right behind what is written are written together with it. `behind_written`: the
-- places behind what is written are as they were. Assumes nothing.
use mathlib.Core.Path.{◌≡◌, ap, ◌∙◌}
use mathlib.Core.List.{List, ◌++◌}
use Prim.Native.Nat.{ℕ}
use lib.ListN.{length, drop, length-append}
use lib.Seq.{take-append_seam, drop_at, drop-append-add, drop-drop}
use Rattle.line.specs.Lists.{written, placed}

pub written_behind : (xs ys a : List ℕ) → placed (length xs) ys (written xs a) ≡ written (xs ++ ys) a
written_behind xs ys a = rw (take-append_seam, drop-append-add, drop-drop, length-append)

-- in two steps: b has the first numbers, and c the others behind them
pub written_on : (xs ys a : List ℕ) {b c : List ℕ} → b ≡ written xs a → c ≡ placed (length xs) ys b → c ≡ written (xs ++ ys) a
written_on xs ys a first then = then ∙ ap (placed (length xs) ys) first ∙ written_behind xs ys a

pub behind_written : (xs a : List ℕ) (n : ℕ) → length xs ≡ n → drop n (written xs a) ≡ drop n a
behind_written xs a n many = drop_at xs (drop (length xs) a) n many ∙ ap (λ (k : ℕ). drop k a) many
