-- THEOREMS on the refusals of `ali_read`. `read_refused_writes_nothing`: a refused call leaves the list as it was. `read_refused_exactly`: it returns 3
-- exactly where the list has fewer than 40 places, and else 0. Assumes nothing.
use mathlib.Core.Path.{◌≡◌, refl, subst}
use mathlib.Core.Bool.{Bool, true, false, cond}
use Prim.Native.Nat.{ℕ}
use lib.ListN.{length}
use borrow.Author.Tests.{ltb-true, ltb-false, lt-ltb, le-ltb}
use Rattle.line.specs.Lists.{too_short}
use Rattle.line.specs.Read.{read_return, read_list}
use Rattle.line.specs.Refusals.{DueForRead, short, enough, ReadRefusedExactly, ReadRefusedWritesNothing}

pub read_refused_writes_nothing : ReadRefusedWritesNothing
unfolding read_return read_list
read_refused_writes_nothing s a some = go (too_short a) refl
  where
    go : (t : Bool) → too_short a ≡ t → read_list s a ≡ a
    go true e = rw e
    go false e = absurd (some (rw e))

pub read_refused_exactly : ReadRefusedExactly
unfolding read_return
read_refused_exactly a number = (λ is. subst (DueForRead a) is (due (too_short a) refl), given number)
  where
    due : (t : Bool) → too_short a ≡ t → DueForRead a (cond t 3 0)
    due true e = short (ltb-true (length a) 40 e)
    due false e = enough (ltb-false (length a) 40 e)

    given : (number : ℕ) → DueForRead a number → cond (too_short a) 3 0 ≡ number
    given _ (short few) = rw (lt-ltb (length a) 40 few)
    given _ (enough many) = rw (le-ltb (length a) 40 many)
