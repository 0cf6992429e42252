-- The law of the numbers that are held: their list as the code gathers it. Assumes nothing.
use mathlib.Core.Path.{◌≡◌, sym, ap}
use mathlib.Core.List.{List, [], ◌∷◌, ◌++◌, append_assoc}
use Prim.Native.Nat.{ℕ, ◌+◌, ◌<◌}
use native.Mathlib.Numerals.{add-one}
use lib.ListN.{length, take, get_or, set}
use lib.Seq.{take-suc, take-suc-set}
use Rattle.std.proofs.lemmas.List.{map-append}
use Rattle.conduct.specs.declared.Push.{Push}
use Rattle.conduct.specs.Session.{push_numbers}

-- one push more: its number is stored behind the others
pub held_next : (front ns : List ℕ) (at : ℕ) (rows : List Push) (i : ℕ) (d : Push) → at < length ns → i < length rows
    → take at ns ≡ front ++ push_numbers (take i rows)
    → take (at + 1) (set ns at (get_or rows i d).number) ≡ front ++ push_numbers (take (i + 1) rows)
held_next front ns at rows i d room more so_far =
    let p = get_or rows i d in
    rw (add-one at, add-one i, take-suc-set ns at p.number, so_far, take-suc rows i d, append_assoc)
    (ap (λ (l : List ℕ). front ++ l) (sym (map-append (λ (q : Push). q.number) (take i rows) (p ∷ []))))
