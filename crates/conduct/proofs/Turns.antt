-- A call on a sound session in which one push with the number n is open: what becomes of that push is a turn of its life, by what bears on
-- it, and n is not given. Assumes nothing.
use mathlib.Core.Path.{◌≡◌, refl, sym, ◌∙◌}
use mathlib.Core.Bool.{Bool, true, false, cond}
use mathlib.Core.List.{List, [], ◌∷◌, append-nil}
use mathlib.Core.Logic.{◌⊎◌, inl, inr}
use Prim.Native.Nat.{ℕ, zero, suc, ◌+◌, ◌≤◌}
use native.Mathlib.Omega.{arith}
use lib.Dec.{eqb, ltb, eqb-suc-zero}
use lib.ListN.{length}
use borrow.Author.Tests.{ltb-true, ltb-false}
use Rattle.std.proofs.lemmas.Bool.{both_ways, cond_both, false_from_ne_true, or_parts}
use Rattle.std.proofs.lemmas.Bool.Decides.{nat_tests}
use Rattle.message.specs.declared.Kind.{Kind}
use Rattle.message.specs.declared.Kind.TheVariants as kinds
use Rattle.message.specs.declared.Message.{Message}
use Rattle.message.proofs.Laws.{on_either}
use Rattle.conduct.specs.Lists.{those, some, among}
use Rattle.conduct.specs.Codes.{closed_advised, closed_timed_out, closed_lost}
use Rattle.conduct.specs.Pushes.{terms_of, event_of, may_go_again, again_or, kept_by, told_by}
use Rattle.conduct.specs.Session.{Session, is_up, push_numbers, session_ok_numbers, refusal_of}
use Rattle.conduct.specs.Sound.{sound}
use Rattle.conduct.specs.Table.{action_of}
use Rattle.conduct.specs.Rules.{acted, move_of}
use Rattle.conduct.specs.Step.{events_by, moved_by, answer, step}
use Rattle.conduct.specs.History.{Entry, entry, is_tick, ticks, names, says_unreadable, about, gives}
use Rattle.conduct.specs.History.{Bearing, advice_bearing, message_bearing, call_bearing, bearing}
use Rattle.conduct.specs.History.Bearing.{ticked, acknowledged, unreadable_message, advised}
use Rattle.conduct.specs.declared.State.{State}
use Rattle.conduct.specs.declared.Push.{Push}
use Rattle.conduct.specs.declared.Event.{Event}
use Rattle.conduct.specs.declared.Fate.{Fate}
use Rattle.conduct.specs.declared.Fate.TheVariants.{Keep, Close}
use Rattle.conduct.specs.declared.Call.{Call}
use Rattle.conduct.specs.declared.Call.TheVariants as calls
use Rattle.conduct.specs.declared.Sweep.TheVariants as sweeps
use Rattle.conduct.specs.declared.Move.{Move}
use Rattle.conduct.specs.declared.Terms.{Terms}
use Rattle.conduct.proofs.Lists.{among_append}
use Rattle.conduct.proofs.Good.{good, few_held}
use Rattle.conduct.proofs.Moves.{Usual, move_usual}
use Rattle.conduct.proofs.Moves.Usual.{stays as remains, departs}
use Rattle.conduct.proofs.Sweeps.{mine}
use Rattle.conduct.proofs.Calls.{none_mine, given_free, call_left, call_told}
use Rattle.conduct.proofs.Bearings.{fate_in, borne}
use Rattle.conduct.proofs.Story.{Turned, tick_in}
use Rattle.conduct.proofs.Story.Turned.{stays, ages, again, closes}

-- ---- what bears on a push in one call: one thing at most, which is a tick or not

abbrev Few : ℕ → List Bearing → Type 0
Few k bs = (length bs ≤ 1) × (tick_in bs ≡ k)

advice_cases : (P : Bearing → Type 0) (m : Message) → P unreadable_message → P advised
    → P (advice_bearing (says_unreadable m))
advice_cases P m x y = go (says_unreadable m)
  where
    go : (b : Bool) → P (advice_bearing b)
    go true = x
    go false = y

few_message : (n : ℕ) (m : Message) (kind : Kind) → Few 0 (message_bearing n m kind)
few_message n m kinds.SessionOpenRequest = (omega arith, refl)
few_message n m kinds.SessionOpenResponse = (omega arith, refl)
few_message n m kinds.SessionOk = (omega arith, refl)
few_message n m kinds.Ok = on_either (Few 0) (names n m.in_response_to) (omega arith, refl) (omega arith, refl)
few_message n m kinds.Advisory = grind (arith, nat_tests)
few_message n m kinds.Request = (omega arith, refl)
few_message n m kinds.Response = (omega arith, refl)

pub few_call : (n : ℕ) (c : Call) → Few (cond (is_tick c) 1 0) (call_bearing n c)
few_call n calls.Tick = (omega arith, refl)
few_call n calls.Connected = (omega arith, refl)
few_call n calls.Lost = (omega arith, refl)
few_call n calls.Stop = (omega arith, refl)
few_call n (calls.Push what handle) = (omega arith, refl)
few_call n (calls.Heard m) = few_message n m m.kind
few_call n (calls.Unreadable refusal) = (omega arith, refl)

-- so ticks are counted by what bears on the push
pub ticks_borne : (n : ℕ) (x : Entry) (xs : List Entry) → ticks (x ∷ xs) ≡ tick_in (bearing n x) + ticks xs
ticks_borne n x xs = grind (arith, nat_tests)

-- ---- turns by what bears on the push

again_or_lem : (terms : Terms) (bs : List Bearing) (code : ℕ) (q : Push) → ((bs ≡ ticked ∷ []) × (terms.ticks ≤ q.age + 1)) ⊎ (bs ≡ unreadable_message ∷ [])
    → Turned terms bs q (Close (event_of code q)) → Turned terms bs q (again_or terms code q)
again_or_lem terms bs code q by else = cond_both (may_go_again terms q) _ _ (Turned terms bs q) (λ e. again by e) (λ e. else)

turned_by : (terms : Terms) (bs : List Bearing) (q : Push) → length bs ≤ 1 → Turned terms bs q (fate_in terms bs q)
turned_by terms [] q few = stays refl
turned_by terms (ticked ∷ []) q few =
    cond_both (ltb (q.age + 1) terms.ticks) _ _ (Turned terms (ticked ∷ []) q) (λ e. ages refl (ltb-true (q.age + 1) terms.ticks e))
    (λ e.
    again_or_lem terms (ticked ∷ []) closed_timed_out q (inl (refl, ltb-false (q.age + 1) terms.ticks e))
    (closes 11 refl (λ i. absurd (omega arith)) (λ i. cc)))
turned_by terms (acknowledged ∷ []) q few = closes 9 refl (λ e. refl) (λ e. refl)
turned_by terms (unreadable_message ∷ []) q few =
    again_or_lem terms (unreadable_message ∷ []) closed_advised q (inr refl) (closes 10 refl (λ e. absurd (omega arith)) (λ e. cc))
turned_by terms (advised ∷ []) q few = closes 10 refl (λ e. absurd (omega arith)) (λ e. cc)
turned_by terms (b ∷ b' ∷ bs) q few = absurd (omega arith)

-- ---- leaving Up: no Ok does

abbrev is_acknowledged : Bearing → Bool
is_acknowledged ticked = false
is_acknowledged acknowledged = true
is_acknowledged unreadable_message = false
is_acknowledged advised = false

abbrev Unacknowledged : List Bearing → Type 0
Unacknowledged bs = some is_acknowledged bs ≡ false

module _ (n : ℕ) (s : Session) (up : is_up s.state ≡ true) where
  message_leaves : (m : Message) (state : State) (kind : Kind) → is_up state ≡ true → is_up (acted s m (action_of state kind)).to ≡ false
      → Unacknowledged (message_bearing n m kind)
  message_leaves m state kinds.SessionOpenRequest u h = refl
  message_leaves m state kinds.SessionOpenResponse u h = refl
  message_leaves m state kinds.SessionOk u h = refl
  message_leaves m state kinds.Ok u h = grind (arith, nat_tests)
  message_leaves m state kinds.Advisory u h =
      on_either Unacknowledged (names n m.in_relation_to) (advice_cases (λ (b : Bearing). Unacknowledged (b ∷ [])) m refl refl) refl
  message_leaves m state kinds.Request u h = refl
  message_leaves m state kinds.Response u h = refl

  call_leaves : (c : Call) → is_up (move_of s c).to ≡ false → Unacknowledged (call_bearing n c)
  call_leaves calls.Tick h = refl
  call_leaves calls.Connected h = refl
  call_leaves calls.Lost h = refl
  call_leaves calls.Stop h = refl
  call_leaves (calls.Push what handle) h = refl
  call_leaves (calls.Heard m) h = message_leaves m s.state m.kind up h
  call_leaves (calls.Unreadable refusal) h = refl

-- ---- the turn

-- what becomes of a push in a call, after which the session is up or not
abbrev pub fate_after : Bool → Terms → List Bearing → Push → Fate
fate_after up terms bs q = cond up (fate_in terms bs q) (Close (event_of closed_lost q))

pub record Turn (terms : Terms) (n : ℕ) (q : Push) (up : Bool) (bs : List Bearing) (es : List Event) (rest : List Push) : Type 0 where
  pub fate : Fate
  pub just : fate ≡ fate_after up terms bs q
  pub is : Turned terms bs q fate
  pub told : those (about n) es ≡ told_by fate
  pub kept : rest ≡ kept_by fate
  pub ungiven : some (gives n) es ≡ false

module _ (n : ℕ) (q : Push) (s : Session) (ok : sound s ≡ true) (alone : mine n s.pushes ≡ q ∷ []) where
  one_not_none : mine n s.pushes ≡ [] → ⊥
  one_not_none e = cc

  is_up_lem : is_up s.state ≡ true
  is_up_lem = go (is_up s.state) refl
    where
      go : (b : Bool) → is_up s.state ≡ b → b ≡ true
      go true e = refl
      go false e = absurd (one_not_none (rw ((good {s = s} ok).quiet e)))

  not_given : (c : Call) → some (gives n) (events_by s (move_of s c)) ≡ false
  not_given c =
      false_from_ne_true (some (gives n) (events_by s (move_of s c)))
      (λ g.
      let free = given_free n s (move_of s c) (omega (arith, few_held {s = s} (good ok))) g in
      let parts = among_append n (session_ok_numbers s.state) (push_numbers s.pushes) in
      one_not_none (none_mine n s.pushes (or_parts (among n (session_ok_numbers s.state)) _ (sym parts ∙ free)).1))

  abbrev Accepted : Call → Type 0
  Accepted c = Turn (terms_of s.site) n q (is_up (move_of s c).to) (call_bearing n c) (events_by s (move_of s c)) (mine n (moved_by s (move_of s c)).pushes)

  -- the session stays up, or is left and every push is closed
  while_up : (c : Call) → refusal_of s c ≡ 0 → is_up (move_of s c).to ≡ true → Accepted c
  while_up c z u =
      let bs : List Bearing = call_bearing n c in
      record {
        fate = fate_in (terms_of s.site) bs q;
        just = rw u;
        is = turned_by (terms_of s.site) bs q (few_call n c).0;
        told = call_told n s c z ∙ (borne told_by n c s ok is_up_lem u ∙ rw alone (append-nil _));
        kept = call_left n s (move_of s c) (not_given c) ∙ (borne kept_by n c s ok is_up_lem u ∙ rw alone (append-nil _));
        ungiven = not_given c;
      }

  leaving_up : (c : Call) → refusal_of s c ≡ 0 → is_up (move_of s c).to ≡ false → (move_of s c).sweep ≡ sweeps.Lost → Accepted c
  leaving_up c z d e =
      let other : call_bearing n c ≡ acknowledged ∷ [] → ⊥ = λ i. both_ways _ (call_leaves n s is_up_lem c d) (rw i) in
      record {
        fate = Close (event_of closed_lost q);
        just = rw d;
        is = closes 12 refl (λ i. absurd (omega arith)) (λ i. absurd (other i));
        told = call_told n s c z ∙ rw (e, alone);
        kept = call_left n s (move_of s c) (not_given c) ∙ rw (e, alone);
        ungiven = not_given c;
      }

  on_accepted : (c : Call) → refusal_of s c ≡ 0 → Accepted c
  on_accepted c z = go (is_up (move_of s c).to) refl
    where
      departing : (m : Move) → Usual s.state m → is_up m.to ≡ false → m.sweep ≡ sweeps.Lost
      departing m (remains to sweep remark up lost usual free) d = absurd (both_ways _ d (up is_up_lem))
      departing m (departs to parting down few) d = refl

      go : (b : Bool) → is_up (move_of s c).to ≡ b → Accepted c
      go true u = while_up c z u
      go false d = leaving_up c z d (departing (move_of s c) (move_usual s c z) d)

  pub turn : (c : Call) → Turn (terms_of s.site) n q (is_up (entry s c).state) (bearing n (entry s c)) (entry s c).events (mine n (step s c).next.pushes)
  turn c = go (refusal_of s c) refl
    where
      go : (k : ℕ) → refusal_of s c ≡ k
          → Turn (terms_of s.site) n q (is_up (answer k s c).next.state) (cond (eqb (answer k s c).refusal 0) (call_bearing n c) []) (answer k s c).events
          (mine n (answer k s c).next.pushes)
      go zero z = on_accepted c z
      go (suc k) z = rw (eqb-suc-zero k) (record { fate = Keep q; just = rw is_up_lem; is = stays refl; told = refl; kept = alone; ungiven = refl })
