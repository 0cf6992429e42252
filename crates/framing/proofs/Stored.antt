-- The store over a call: where it began with the bytes gathered before, it begins with those gathered after (`store_begins`), and its later
-- places are as they were (`store_rest`). Assumes nothing.
use mathlib.Core.Path.{◌≡◌, refl, sym, ap, ◌∙◌}
use mathlib.Core.Bool.{Bool, true, false}
use mathlib.Core.List.{List, ◌++◌}
use Prim.Native.Nat.{ℕ, ◌+◌, ◌-◌, ◌≤◌, ◌<◌, min}
use native.Mathlib.Omega.{arith}
use lib.ListN.{length, take, drop, length-append, length-take}
use lib.Seq.{take_all, take-take, take-append-add, take-append-le, paste, paste-zero, take-paste, drop-paste}
use lib.Dec.{leb}
use borrow.Author.Tests.{leb-true, leb-false}
use Rattle.framing.specs.Cutting.{kept}

-- s is the store before the call and h what was gathered, of which the first limit + k bytes stand in s; t bytes of p are taken
module _ (limit k t : ℕ) (h p s : List ℕ) (taken : t ≤ length p) (room : limit + k ≤ length s)
    (begins : take (min (limit + k) (length h)) s ≡ take (limit + k) h) where
  -- how far the store is the gathered bytes, and how many of the t bytes stand there
  abbrev reach : ℕ
  reach = min (limit + k) (length h + t)

  abbrev n : ℕ
  n = kept limit k (length h) t

  -- where the bytes before the call fill the room, none is stored
  full : limit + k ≤ length h → paste s (length h) p n ≡ s
  full over =
      let zero_kept : n ≡ 0 = omega arith in
      rw zero_kept (sym (paste-zero s (length h) p))

  -- else the store is what was gathered, and then n bytes
  before : length h < limit + k → take (length h) s ≡ h
  before under =
      let same : min (limit + k) (length h) ≡ length h = omega arith in
      rw same at begins ∙ take_all (limit + k) h (omega arith)

  part : length h < limit + k → take (limit + k) (h ++ take t p) ≡ h ++ take n p
  part under = go (leb t (limit + k - length h)) refl
    where
      split : limit + k ≡ length h + (limit + k - length h)
      split = omega arith

      go : (r : Bool) → leb t (limit + k - length h) ≡ r → take (limit + k) (h ++ take t p) ≡ h ++ take n p
      go true e =
          let few = leb-true t (limit + k - length h) e in
          let all : n ≡ t = omega arith in
          rw all (take_all (limit + k) (h ++ take t p) (simp (length-append, length-take) (omega arith)))
      go false e =
          let many = leb-false t (limit + k - length h) e in
          let some : n ≡ limit + k - length h = omega arith in
          rw some
          (ap (λ (i : ℕ). take i (h ++ take t p)) split ∙ take-append-add h (take t p) (limit + k - length h)
          ∙ ap (λ (l : List ℕ). h ++ l) (take-take (limit + k - length h) t p (omega arith)))

  pub store_begins : take reach (paste s (length h) p n) ≡ take (limit + k) (h ++ take t p)
  store_begins = go (leb (limit + k) (length h)) refl
    where
      go : (r : Bool) → leb (limit + k) (length h) ≡ r → take reach (paste s (length h) p n) ≡ take (limit + k) (h ++ take t p)
      go true e =
          let over = leb-true (limit + k) (length h) e in
          let far : reach ≡ limit + k = omega arith in
          let same : min (limit + k) (length h) ≡ limit + k = omega arith in
          rw (full over, far) (rw same at begins ∙ sym (take-append-le (limit + k) h (take t p) over))
      go false e =
          let under = leb-false (limit + k) (length h) e in
          let far : reach ≡ length h + n = omega arith in
          rw far
          (take-paste s (length h) p n (omega arith) (omega arith) ∙ ap (λ (l : List ℕ). l ++ take n p) (before under) ∙ sym (part under))

  pub store_rest : drop reach (paste s (length h) p n) ≡ drop reach s
  store_rest = go (leb (limit + k) (length h)) refl
    where
      go : (r : Bool) → leb (limit + k) (length h) ≡ r → drop reach (paste s (length h) p n) ≡ drop reach s
      go true e = rw (full (leb-true (limit + k) (length h) e))
      go false e =
          let under = leb-false (limit + k) (length h) e in
          let far : reach ≡ length h + n = omega arith in
          rw far (drop-paste s (length h) p n (omega arith) (omega arith))
