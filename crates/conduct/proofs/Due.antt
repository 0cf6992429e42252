-- What a call says of an open push is what is due: whether a sending is left, and whether a tick is the 20th, is told by its sendings and its age. Assumes nothing.
use mathlib.Core.Path.{◌≡◌, refl, sym}
use mathlib.Core.Bool.{Bool, true, false, cond, not}
use mathlib.Core.List.{List, [], ◌∷◌}
use Prim.Native.Nat.{ℕ, ◌+◌, ◌≤◌, ◌<◌}
use native.Mathlib.Omega.{arith}
use lib.Dec.{ltb, eqb, leb-suc-zero}
use Rattle.std.proofs.lemmas.Bool.Decides.{nat_tests}
use Rattle.conduct.specs.Pushes.{may_go_again, again_or, told_by}
use Rattle.conduct.specs.History.{codes_of, Bearing}
use Rattle.conduct.specs.History.Bearing.{ticked, acknowledged, unreadable_message, advised}
use Rattle.conduct.specs.Followed.{most_resendings, due_for}
use Rattle.conduct.specs.declared.Push.{Push}
use Rattle.conduct.specs.declared.Pushed.{Pushed}
use Rattle.conduct.specs.declared.Pushed.TheVariants.{Response, Advisory}
use Rattle.conduct.specs.declared.Terms.{Terms}
use Rattle.conduct.proofs.Bearings.{fate_in}
use Rattle.conduct.proofs.Turns.{fate_after}

-- ---- under any terms

again_says : (terms : Terms) (code : ℕ) (q : Push) → codes_of (told_by (again_or terms code q)) ≡ cond (may_go_again terms q) (5 ∷ []) (code ∷ [])
again_says terms code q = grind (arith, nat_tests)

-- a tick is the last for an answer, if it does not only make the push older
abbrev pub is_last_tick : Terms → Push → Bool
is_last_tick terms q = not (ltb (q.age + 1) terms.ticks)

says_due : (terms : Terms) (q : Push) (bs : List Bearing) → codes_of (told_by (fate_in terms bs q)) ≡ due_for (may_go_again terms q) (is_last_tick terms q) bs
says_due terms q [] = refl
says_due terms q (ticked ∷ bs) = grind (arith, nat_tests)
says_due terms q (acknowledged ∷ bs) = refl
says_due terms q (unreadable_message ∷ bs) = again_says terms 10 q
says_due terms q (advised ∷ bs) = refl

pub said_after : (up : Bool) (terms : Terms) (q : Push) (bs : List Bearing)
    → codes_of (told_by (fate_after up terms bs q)) ≡ cond up (due_for (may_go_again terms q) (is_last_tick terms q) bs) (12 ∷ [])
said_after true terms q bs = says_due terms q bs
said_after false terms q bs = refl

-- ---- under a site's

pub twentieth : (terms : Terms) (q : Push) → terms.ticks ≡ 20 → q.age < 20 → is_last_tick terms q ≡ eqb (q.age + 1) 20
twentieth terms q ticks young = grind (arith, nat_tests)

-- the push was sent again so often, and so once more in all
pub left_as : (terms : Terms) (q : Push) (what : Pushed) (resent : ℕ) → q.what ≡ what → q.sent ≡ 1 + resent → terms.resends ≤ 3
    → may_go_again terms q ≡ ltb resent (most_resendings terms.resends what)
left_as terms q Response resent kind sent few = rw kind (grind (arith, nat_tests))
left_as terms q Advisory resent kind sent few = rw kind (sym (leb-suc-zero resent))
