-- One push among the open ones: a sweep says of the pushes with the number n, and leaves of them, what it would with no others beside
-- them. Assumes nothing.
use mathlib.Core.Path.{◌≡◌, refl, sym, ap}
use mathlib.Core.Bool.{Bool, true, false, cond, ◌||◌}
use mathlib.Core.List.{List, [], append-nil}
use Prim.Native.Nat.{ℕ, ◌+◌}
use lib.Dec.{ltb, eqb}
use Rattle.message.proofs.Laws.{on_either}
use Rattle.conduct.specs.Lists.{flat, those}
use Rattle.conduct.specs.Codes.{closed_advised, closed_timed_out}
use Rattle.conduct.specs.Pushes.{event_of, may_go_again, again_or, fate_of, kept_by, told_by, keeps, tells}
use Rattle.conduct.specs.History.{closing, about}
use Rattle.conduct.specs.declared.Event.{Event}
use Rattle.conduct.specs.declared.Push.{Push}
use Rattle.conduct.specs.declared.Sweep.{Sweep}
use Rattle.conduct.specs.declared.Sweep.TheVariants.{Still, Older, Lost, Acknowledged, UnreadableMessage, Advised}
use Rattle.conduct.specs.declared.Fate.{Fate}
use Rattle.conduct.specs.declared.Fate.TheVariants.{Keep, Again, Close}
use Rattle.conduct.specs.declared.Terms.{Terms}
use Rattle.conduct.proofs.Lists.{sieve}

-- the open pushes with the number n
abbrev pub is : ℕ → Push → Bool
is n p = eqb p.number n

abbrev pub mine : ℕ → List Push → List Push
mine n ps = those (is n) ps

-- ---- fates

-- the same push, sent again perhaps, or older
pub record Same (p q : Push) : Type 0 where
  pub kind : q.what ≡ p.what
  pub named : q.number ≡ p.number
  pub handled : q.handle ≡ p.handle

-- an event that carries the push's number and handle
pub record Tells (p : Push) (e : Event) : Type 0 where
  pub named : e.number ≡ p.number
  pub handled : e.detail ≡ p.handle

-- a fate of the push p: it stays that push, sent again is 5, and closed is a closing
abbrev pub Of : Push → Fate → Type 0
Of p (Keep q) = Same p q
Of p (Again q e) = Same p q × Tells p e × (e.code ≡ 5)
Of p (Close e) = Tells p e × (closing e.code ≡ true)

the_same : (p : Push) → Same p p
the_same p = record { kind = refl; named = refl; handled = refl }

its : (p : Push) (code : ℕ) → Tells p (event_of code p)
its p code = record { named = refl; handled = refl }

again_or_of : (terms : Terms) (p : Push) (code : ℕ) → closing code ≡ true → Of p (again_or terms code p)
again_or_of terms p code c = on_either (Of p) (may_go_again terms p) (record { kind = refl; named = refl; handled = refl }, its p 5, refl) (its p code, c)

pub fate_of_lem : (terms : Terms) (sweep : Sweep) (p : Push) → Of p (fate_of terms sweep p)
fate_of_lem terms Still p = the_same p
fate_of_lem terms Older p =
    on_either (Of p) (ltb (p.age + 1) terms.ticks) (record { kind = refl; named = refl; handled = refl }) (again_or_of terms p closed_timed_out refl)
fate_of_lem terms Lost p = (its p 12, refl)
fate_of_lem terms (Acknowledged n) p = on_either (Of p) (is n p) (its p 9, refl) (the_same p)
fate_of_lem terms (UnreadableMessage n) p = on_either (Of p) (is n p) (again_or_of terms p closed_advised refl) (the_same p)
fate_of_lem terms (Advised n) p = on_either (Of p) (is n p) (its p 10, refl) (the_same p)

-- ---- what is said of n, and left of n

cond_same : {A : Type 0} (b : Bool) (x : A) → cond b x x ≡ x
cond_same true x = refl
cond_same false x = refl

-- whether a code is said of an open push
abbrev pub telling : ℕ → Bool
telling code = closing code || eqb code 5

about_as : (n : ℕ) (e : Event) (p : Push) → telling e.code ≡ true → Tells p e → about n e ≡ is n p
about_as n e p t h = rw (t, h.named)

told_mine : (n : ℕ) (p : Push) (f : Fate) → Of p f → those (about n) (told_by f) ≡ cond (is n p) (told_by f) []
told_mine n p (Keep q) h = sym (cond_same (is n p) [])
told_mine n p (Again q e) h = rw (about_as n e p (ap telling h.2) h.1) (append-nil _)
told_mine n p (Close e) h = rw (about_as n e p (rw h.1) h.0) (append-nil _)

kept_mine : (n : ℕ) (p : Push) (f : Fate) → Of p f → mine n (kept_by f) ≡ cond (is n p) (kept_by f) []
kept_mine n p (Keep q) h = rw h.named (append-nil _)
kept_mine n p (Again q e) h = rw h.0.named (append-nil _)
kept_mine n p (Close e) h = sym (cond_same (is n p) [])

module _ (n : ℕ) (terms : Terms) (sweep : Sweep) (ps : List Push) where
  pub sweep_told : those (about n) (flat (tells terms sweep) ps) ≡ flat (tells terms sweep) (mine n ps)
  sweep_told = sieve (about n) (is n) (tells terms sweep) (λ p. told_mine n p (fate_of terms sweep p) (fate_of_lem terms sweep p)) ps

  pub sweep_kept : mine n (flat (keeps terms sweep) ps) ≡ flat (keeps terms sweep) (mine n ps)
  sweep_kept = sieve (is n) (is n) (keeps terms sweep) (λ p. kept_mine n p (fate_of terms sweep p) (fate_of_lem terms sweep p)) ps
