-- What becomes of a push by what bears on it. `fate_by` looks at no number and no handle, so pushes that differ in these alone have one
-- `tale`. In a sound session that is up and stays up, an accepted call does to the pushes with the number n what it is to n.
-- Assumes nothing.
use Rattle.std.specs.Prelude.{Option, None, Some}
use mathlib.Core.Path.{◌≡◌, refl, sym, ap, ap₂, subst⁻¹, ◌∙◌}
use mathlib.Core.Bool.{Bool, true, false, cond}
use mathlib.Core.List.{List, [], ◌∷◌, ◌++◌}
use Prim.Native.Nat.{ℕ, ◌+◌}
use native.Mathlib.Omega.{arith}
use lib.Dec.{eqb, ltb}
use borrow.Author.Tests.{ne_eqb, eqb-true}
use Rattle.std.proofs.lemmas.Bool.{both_ways}
use Rattle.std.proofs.lemmas.Bool.Decides.{nat_tests}
use Rattle.message.proofs.Laws.{on_either}
use Rattle.conduct.specs.Lists.{flat, among, distinct}
use Rattle.conduct.specs.Codes.{closed_acknowledged, closed_advised}
use Rattle.conduct.specs.Pushes.{terms_of, event_of, older, sent_again, again_or, fate_of, kept_by, told_by}
use Rattle.conduct.specs.Session.{Session, is_up, awaited_numbers, push_numbers, held}
use Rattle.conduct.specs.Sound.{sound}
use Rattle.conduct.specs.Rules.{tick, move_of}
use Rattle.conduct.specs.History.{codes_of, Bearing, call_bearing}
use Rattle.conduct.specs.History.Bearing.{ticked, acknowledged, unreadable_message, advised}
use Rattle.conduct.specs.declared.State.{State}
use Rattle.conduct.specs.declared.State.TheVariants.{Waiting, Connecting, Opening, Confirming, Up, Stopped}
use Rattle.conduct.specs.declared.Site.{Site}
use Rattle.conduct.specs.declared.Pushed.{Pushed}
use Rattle.conduct.specs.declared.Push.{Push}
use Rattle.conduct.specs.declared.Call.{Call}
use Rattle.conduct.specs.declared.Call.TheVariants as calls
use Rattle.conduct.specs.declared.Sweep.TheVariants as sweeps
use Rattle.conduct.specs.declared.Fate.{Fate}
use Rattle.conduct.specs.declared.Fate.TheVariants.{Keep, Close}
use Rattle.conduct.specs.declared.Move.{Move}
use Rattle.conduct.specs.declared.Terms.{Terms}
use Rattle.conduct.proofs.Lists.{distinct_head}
use Rattle.conduct.proofs.Story.{tick_in}
use Rattle.conduct.proofs.Named.{move_by, Naming, heard_naming}
use Rattle.conduct.proofs.Named.Naming.{names_one, names_none}
use Rattle.conduct.proofs.Good.{good}
use Rattle.conduct.proofs.Sweeps.{mine}
use Rattle.conduct.proofs.Calls.{none_mine}

-- ---- fates

abbrev fate_by : Terms → Bearing → Push → Fate
fate_by terms ticked p = fate_of terms sweeps.Older p
fate_by terms acknowledged p = Close (event_of closed_acknowledged p)
fate_by terms unreadable_message p = again_or terms closed_advised p
fate_by terms advised p = Close (event_of closed_advised p)

-- of a call: one that bears on nothing leaves a push as it is
abbrev pub fate_in : Terms → List Bearing → Push → Fate
fate_in terms [] p = Keep p
fate_in terms (b ∷ bs) p = fate_by terms b p

-- what is said of the pushes ms at each of what bears on them, one after the other
abbrev pub tale : Terms → List Push → List Bearing → List (List ℕ)
tale terms ms [] = []
tale terms ms (b ∷ bs) = codes_of (flat (λ (p : Push). told_by (fate_by terms b p)) ms) ∷ tale terms (flat (λ (p : Push). kept_by (fate_by terms b p)) ms) bs

-- ---- pushes that differ in their numbers and handles

abbrev push_with : Pushed → ℕ → ℕ → ℕ → ℕ → Push
push_with what sent age n h = record { what = what; number = n; handle = h; sent = sent; age = age }

module _ (terms : Terms) (bs : List Bearing) (what : Pushed) (sent age n n' h h' : ℕ) where
  abbrev p : Push
  p = push_with what sent age n h

  abbrev q : Push
  q = push_with what sent age n' h'

  abbrev tales_agree : List Push → List Push → Type 0
  tales_agree ms ms' = tale terms ms bs ≡ tale terms ms' bs

  -- a tale that begins with a fate: p's and q's
  abbrev tale_from : Fate → List (List ℕ)
  tale_from f = codes_of (told_by f ++ []) ∷ tale terms (kept_by f ++ []) bs

  abbrev agree : Fate → Fate → Type 0
  agree f f' = tale_from f ≡ tale_from f'

  again_agrees : (code : ℕ) → tales_agree (sent_again p ∷ []) (sent_again q ∷ []) → agree (again_or terms code p) (again_or terms code q)
  again_agrees code anew = grind (arith, nat_tests)

  tick_agrees : tales_agree (older p ∷ []) (older q ∷ []) → tales_agree (sent_again p ∷ []) (sent_again q ∷ [])
      → agree (fate_by terms ticked p) (fate_by terms ticked q)
  tick_agrees longer anew = grind (arith, nat_tests)

pub same_tale : (terms : Terms) (bs : List Bearing) (what : Pushed) (sent age n n' h h' : ℕ)
    → tale terms (push_with what sent age n h ∷ []) bs ≡ tale terms (push_with what sent age n' h' ∷ []) bs
same_tale terms [] what sent age n n' h h' = refl
same_tale terms (ticked ∷ bs) what sent age n n' h h' =
    tick_agrees terms bs what sent age n n' h h' (same_tale terms bs what sent (age + 1) n n' h h') (same_tale terms bs what (sent + 1) 0 n n' h h')
same_tale terms (acknowledged ∷ bs) what sent age n n' h h' = refl
same_tale terms (unreadable_message ∷ bs) what sent age n n' h h' =
    again_agrees terms bs what sent age n n' h h' closed_advised (same_tale terms bs what (sent + 1) 0 n n' h h')
same_tale terms (advised ∷ bs) what sent age n n' h h' = refl

-- ---- a call, and a push p with the number n, in Up, where n is an open push's number and not the open SessionOk's

module _ (n : ℕ) (p : Push) (own : p.number ≡ n) (site : Site) (last : ℕ) (waiting : Option ℕ) (age : ℕ) (ps : List Push)
    (not_awaited : among n (awaited_numbers waiting) ≡ false) (is_open : among n (push_numbers ps) ≡ true)
  where
    abbrev terms : Terms
    terms = terms_of site

    abbrev s : Session
    s = record { site = site; state = Up waiting age; pushes = ps; last = last }

    abbrev fate_from : Move → Fate
    fate_from m = fate_of terms m.sweep p

    -- one that names the number j is something to p just if j is n
    named_is : (j : ℕ) (b : Bearing) → tick_in (b ∷ []) ≡ 0
        → fate_from (move_by j waiting age (among j (awaited_numbers waiting)) (among j (push_numbers ps)) b) ≡ fate_in terms (cond (eqb j n) (b ∷ []) []) p
    named_is j b quiet = grind (arith, nat_tests)

    heard_is : {bearing : ℕ → List Bearing} {m : Move} → Naming waiting age ps bearing m → fate_from m ≡ fate_in terms (bearing n) p
    heard_is (names_none still none) = rw (still, none n)
    heard_is (names_one j b quiet is bears) = ap fate_from is ∙ (named_is j b quiet ∙ ap (λ (bs : List Bearing). fate_in terms bs p) (sym (bears n)))

    -- a tick after which the session is still up
    abbrev TickIs : Move → Type 0
    TickIs m = is_up m.to ≡ true → fate_from m ≡ fate_of terms sweeps.Older p

    tick_is : (next : ℕ) (w : Option ℕ) → TickIs (tick site.interval next (Up w age))
    tick_is next None = on_either TickIs (ltb (age + 1) site.interval) (λ u. refl) (λ u. refl)
    tick_is next (Some number) = on_either TickIs (ltb age 19) (λ u. refl) (λ u. cc)

    call_is : (c : Call) → is_up (move_of s c).to ≡ true → fate_from (move_of s c) ≡ fate_in terms (call_bearing n c) p
    call_is calls.Tick u = tick_is _ waiting u
    call_is calls.Connected u = cc
    call_is calls.Lost u = cc
    call_is calls.Stop u = cc
    call_is (calls.Push what handle) u = refl
    call_is (calls.Heard m) u = heard_is (heard_naming site last waiting age ps m m.kind)
    call_is (calls.Unreadable refusal) u = refl

-- ---- a call, and all pushes with the number n

-- an open push's number is not the open SessionOk's
pub not_awaited_too : (n : ℕ) (w : Option ℕ) (ms : List ℕ) → distinct (awaited_numbers w ++ ms) ≡ true → among n ms ≡ true
    → among n (awaited_numbers w) ≡ false
not_awaited_too n None ms d h = refl
not_awaited_too n (Some m) ms d h = rw (ne_eqb n m (λ e. both_ways _ (rw e (distinct_head m ms d)) h))

flat_mine : {B : Type 0} (n : ℕ) (f g : Push → List B) → ((p : Push) → p.number ≡ n → f p ≡ g p) → (ps : List Push)
    → flat f (mine n ps) ≡ flat g (mine n ps)
flat_mine n f g h [] = refl
flat_mine n f g h (p ∷ ps) = go (eqb p.number n) refl (flat_mine n f g h ps)
  where
    go : (b : Bool) → eqb p.number n ≡ b → flat f (mine n ps) ≡ flat g (mine n ps)
        → flat f (cond b (p ∷ []) [] ++ mine n ps) ≡ flat g (cond b (p ∷ []) [] ++ mine n ps)
    go true e ih = ap₂ ◌++◌ (h p (eqb-true p.number n e)) ih
    go false e ih = ih

-- g is what is said of a push, or what is left of it
module _ {B : Type 0} (g : Fate → List B) (n : ℕ) (c : Call) where
  abbrev Borne : Session → Type 0
  Borne s =
      flat (λ (p : Push). g (fate_of (terms_of s.site) (move_of s c).sweep p)) (mine n s.pushes)
      ≡ flat (λ (p : Push). g (fate_in (terms_of s.site) (call_bearing n c) p)) (mine n s.pushes)

  borne_up : (site : Site) (last : ℕ) (w : Option ℕ) (age : ℕ) (ps : List Push)
      → let s : Session = record { site = site; state = Up w age; pushes = ps; last = last } in
      distinct (held s) ≡ true → is_up (move_of s c).to ≡ true → Borne s
  borne_up site last w age ps d u = go (among n (push_numbers ps)) refl
    where
      s : Session
      s = record { site = site; state = Up w age; pushes = ps; last = last }

      go : (b : Bool) → among n (push_numbers ps) ≡ b → Borne s
      go true e =
          flat_mine n (λ (p : Push). g (fate_of (terms_of s.site) (move_of s c).sweep p)) (λ (p : Push). g (fate_in (terms_of s.site) (call_bearing n c) p))
          (λ p own. ap g (call_is n p own site last w age ps (not_awaited_too n w (push_numbers ps) d e) e c u))
          ps
      go false e = rw (none_mine n ps e)

  pub borne : (s : Session) → sound s ≡ true → is_up s.state ≡ true → is_up (move_of s c).to ≡ true → Borne s
  borne s ok up stays = go s.state refl up
    where
      go : (state : State) → s.state ≡ state → is_up state ≡ true → Borne s
      go (Waiting left) e u = cc
      go Connecting e u = cc
      go (Opening age) e u = cc
      go (Confirming number age) e u = cc
      go (Up w age) e u =
          subst⁻¹ (λ (t : Session). distinct (held t) ≡ true → is_up (move_of t c).to ≡ true → Borne t)
          (λ i. record { site = s.site; state = e i; pushes = s.pushes; last = s.last })
          (borne_up s.site s.last w age s.pushes)
          (good {s = s} ok).numbers_are stays
      go Stopped e u = cc
