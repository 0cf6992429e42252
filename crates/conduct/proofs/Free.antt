-- The next free number is the first after the last one taken that is not held: of one more in a row than are held, one is free.
-- Assumes nothing.
use mathlib.Core.Path.{◌≡◌, refl, sym, ◌∙◌}
use mathlib.Core.Bool.{Bool, true, false, cond, not, ◌||◌}
use mathlib.Core.List.{List, [], ◌∷◌, ◌++◌}
use mathlib.Core.Logic.{◌⊎◌, inl, inr, ⊎_elim}
use Prim.Native.Nat.{ℕ, zero, suc, ◌+◌, ◌^◌, ◌≤◌, ◌<◌}
use native.Mathlib.Omega.{arith}
use native.Mathlib.Nat.{eq-or-lt_of_le}
use lib.Dec.{eqb}
use lib.ListN.{length}
use borrow.Author.Tests.{ne_eqb, eqb-true}
use Rattle.std.proofs.lemmas.Bool.{false_from_ne_true}
use Rattle.conduct.specs.Lists.{those, among}
use Rattle.conduct.specs.Numbers.{after, free_from, next_free}
use Rattle.conduct.specs.Order.{past, NextAfter}
use Rattle.conduct.proofs.Lists.{length_those}

-- ---- the held numbers without one of them

abbrev without : ℕ → List ℕ → List ℕ
without n held = those (λ (m : ℕ). not (eqb n m)) held

-- one that is held takes at least one away
without_less : (n : ℕ) (held : List ℕ) → among n held ≡ true → length (without n held) < length held
without_less n [] h = cc
without_less n (m ∷ held) h = go (eqb n m) h (λ e. without_less n held e)
  where
    go : (b : Bool) → (b || among n held) ≡ true → (among n held ≡ true → length (without n held) < length held)
        → length (cond (not b) (m ∷ []) [] ++ without n held) < suc (length held)
    go true e ih = omega (arith, length_those (λ (m : ℕ). not (eqb n m)) held)
    go false e ih = omega (arith, ih e)

-- another is held as before
among_without : (m n : ℕ) (held : List ℕ) → (m ≡ n → ⊥) → among m (without n held) ≡ among m held
among_without m n [] h = refl
among_without m n (x ∷ held) h = go (eqb n x) refl (among_without m n held h)
  where
    go : (b : Bool) → eqb n x ≡ b → among m (without n held) ≡ among m held
        → among m (cond (not b) (x ∷ []) [] ++ without n held) ≡ (eqb m x || among m held)
    go true e ih = rw (ne_eqb m x (λ q. h (q ∙ sym (eqb-true n x e)))) ih
    go false e ih = rw ih

-- ---- numbers in a row, counted from the one after n

module _ (n : ℕ) where
  abbrev HeldTo : List ℕ → ℕ → ℕ → Type 0
  HeldTo held from to = (j : ℕ) → from ≤ j → j < to → among (past n j) held ≡ true

  -- so many in a row that are all held are no more than are held
  crowd : (count from : ℕ) (held : List ℕ) → count ≤ 2 ^ 32 → HeldTo held from (from + count) → count ≤ length held
  crowd zero from held b h = omega arith
  crowd (suc count) from held b h =
      let x = past n from in
      let rest : HeldTo (without x held) (from + 1) (from + 1 + count) =
      λ j l m. among_without (past n j) x held (λ e. omega arith) ∙ h j (omega arith) (omega arith)
      in
      let ih : count ≤ length (without x held) = crowd count (from + 1) (without x held) (omega arith) rest in
      omega (arith, without_less x held (h from (omega arith) (omega arith)))

  -- where the search goes: past held ones, to one that is free or as far as it may
  record Found (held : List ℕ) (most from m : ℕ) : Type 0 where
    at : ℕ
    is : m ≡ past n at
    passed : HeldTo held from at
    ends : (among m held ≡ false) ⊎ (at ≡ from + most)

  search_from : (most from : ℕ) (held : List ℕ) → Found held most from (free_from most (past n from) held)
  search_from zero from held = record { at = from; is = refl; passed = λ j l m. absurd (omega arith); ends = inr (omega arith) }
  search_from (suc most) from held =
      let onward : after (past n from) ≡ past n (from + 1) = omega arith in
      go (among (past n from) held) refl (rw onward (search_from most (from + 1) held))
    where
      go : (b : Bool) → among (past n from) held ≡ b → Found held most (from + 1) (free_from most (after (past n from)) held)
          → Found held (suc most) from (cond b (free_from most (after (past n from)) held) (past n from))
      go true e f =
          record {
            at = f.at;
            is = f.is;
            passed = λ j l m. ⊎_elim (λ q. rw (← q) e) (λ q. f.passed j (omega arith) m) (eq-or-lt_of_le l);
            ends = ⊎_elim (λ q. inl q) (λ q. inr (omega arith)) f.ends;
          }
      go false e f = record { at = from; is = refl; passed = λ j l m. absurd (omega arith); ends = inl e }

  -- a search that may pass as many as are held ends at a free one
  free_at_lem : (held : List ℕ) (m : ℕ) → length held < 2 ^ 32 → Found held (length held) 0 m → among m held ≡ false
  free_at_lem held m h f = ⊎_elim (λ q. q) (λ q. false_from_ne_true (among m held) (λ t. full q t)) f.ends
    where
      full : f.at ≡ 0 + length held → among m held ≡ true → ⊥
      full e t =
          let last_too : among (past n f.at) held ≡ true = rw f.is at t in
          let all_held : HeldTo held 0 (0 + suc (length held)) =
          λ j l k. ⊎_elim (λ q. rw q last_too) (λ q. f.passed j l q) (eq-or-lt_of_le {n = j} {m = f.at} (omega arith))
          in
          omega (arith, crowd (suc (length held)) 0 held (omega arith) all_held)

search_after : (held : List ℕ) (last : ℕ) → Found last held (length held) 0 (next_free held last)
unfolding next_free
search_after held last =
    let start : after last ≡ past last 0 = omega arith in
    rw start (search_from last (length held) 0 held)

pub next_after : (held : List ℕ) (last : ℕ) → length held < 2 ^ 32 → NextAfter held last (next_free held last)
next_after held last h =
    let f = search_after held last in
    record { passed = f.at; is = f.is; free = free_at_lem last held _ h f; all_held = λ j l. f.passed j (omega arith) l }

pub next_is_free : (held : List ℕ) (last : ℕ) → length held < 2 ^ 32 → among (next_free held last) held ≡ false
next_is_free held last h = (next_after held last h).free
