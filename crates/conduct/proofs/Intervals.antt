-- From one SessionOk to the next it is an interval of ticks, whatever else is called meanwhile. Assumes nothing.
use Rattle.std.specs.Prelude.{None, Some}
use mathlib.Core.Path.{◌≡◌, refl, sym, ap, ◌∙◌}
use mathlib.Core.Bool.{Bool, true, false, not, ◌&&◌}
use mathlib.Core.List.{List}
use mathlib.Core.Logic.{◌⊎◌, inl, inr}
use Prim.Native.Nat.{ℕ, suc, ◌+◌, ◌≤◌, ◌<◌}
use native.Mathlib.Omega.{arith}
use lib.Dec.{leb, ltb}
use borrow.Author.Tests.{ltb-true, lt-ltb, leb-true, not-true}
use Rattle.std.proofs.lemmas.Bool.{and_parts, both_ways, false_from_ne_true}
use native.Mathlib.Nat.{add-zero}
use Rattle.std.proofs.lemmas.Bool.Decides.{nat_tests}
use Rattle.conduct.specs.Lists.{all}
use Rattle.conduct.specs.Session.{Session, is_stopped}
use Rattle.conduct.specs.Sound.{sound_state, sound}
use Rattle.conduct.specs.Rules.{tick, next_number}
use Rattle.conduct.specs.Step.{Answered, step}
use Rattle.conduct.specs.History.{Entry, entry, history, session_after, ticks}
use Rattle.conduct.specs.Timers.{says_session_ok, is_confirming_or_up, EveryInterval}
use Rattle.conduct.specs.declared.State.{State}
use Rattle.conduct.specs.declared.State.TheVariants.{Waiting, Connecting, Opening, Confirming, Up, Stopped}
use Rattle.conduct.specs.declared.Call.{Call}
use Rattle.conduct.specs.declared.Call.TheVariants as calls
use Rattle.conduct.specs.declared.Move.{Move}
use Rattle.conduct.proofs.Moves.{is_session_ok}
use Rattle.conduct.proofs.Good.{Good, good}
use Rattle.conduct.proofs.Reached.{reached_is_sound}
use Rattle.conduct.proofs.Onward.{Onward}
use Rattle.conduct.proofs.Onward.Onward.{same, opens, answers, confirms, hears, ends, stops}
use Rattle.conduct.proofs.Clocks.{counts, by_turns, tick_taken, counted}
use Rattle.conduct.proofs.Sent.{heartbeat_due, says_by_lem}

-- the ticks since the last SessionOk, where the session is confirming or up
abbrev since : State → ℕ
since (Waiting left) = 0
since Connecting = 0
since (Opening age) = 0
since (Confirming number age) = age
since (Up waiting age) = age
since Stopped = 0

-- ---- a tick

-- one that leaves the session confirming or up and sends no other counts as one
tick_counts : (interval next : ℕ) (state : State) → is_confirming_or_up state ≡ true → is_confirming_or_up (tick interval next state).to ≡ true
    → is_session_ok (tick interval next state).remark ≡ false → since (tick interval next state).to ≡ since state + 1
tick_counts interval next (Waiting left) h = cc
tick_counts interval next Connecting h = cc
tick_counts interval next (Opening age) h = cc
tick_counts interval next (Confirming number age) h = grind (arith, nat_tests)
tick_counts interval next (Up (Some number) age) h = grind (arith, nat_tests)
tick_counts interval next (Up None age) h = grind (arith, nat_tests)
tick_counts interval next Stopped h = cc

-- fewer ticks than an interval were counted, and the last of it sends one
record Ticks (interval next : ℕ) (state : State) : Type 0 where
  fewer : since state < interval
  quiet : suc (since state) < interval → is_session_ok (tick interval next state).remark ≡ false
  due : suc (since state) ≡ interval → is_session_ok (tick interval next state).remark ≡ true

-- with a SessionOk open, none is due
abbrev Says : Bool → Move → Type 0
Says b m = is_session_ok m.remark ≡ b

-- and with none open not before the last tick of the interval
rests_quiet : (interval next age : ℕ) → suc age < interval → Says false (tick interval next (Up None age))
rests_quiet interval next age l = rw (lt-ltb (age + 1) interval (omega arith))

rests_due : (interval next age : ℕ) → suc age ≡ interval → Says true (tick interval next (Up None age))
rests_due interval next age e =
    rw (heartbeat_due interval next age (false_from_ne_true (ltb (age + 1) interval) (λ l. omega (arith, ltb-true (age + 1) interval l))))

tick_says : (interval next : ℕ) (state : State) → 21 ≤ interval → is_confirming_or_up state ≡ true → sound_state interval state ≡ true
    → Ticks interval next state
tick_says interval next (Waiting left) i h t = cc
tick_says interval next Connecting i h t = cc
tick_says interval next (Opening age) i h t = cc
tick_says interval next (Confirming number age) i h t = grind (arith, nat_tests)
tick_says interval next (Up (Some number) age) i h t = grind (arith, nat_tests)
tick_says interval next (Up None age) i h t =
    record {
      fewer = ltb-true age interval t;
      quiet = rests_quiet interval next age;
      due = rests_due interval next age;
    }
tick_says interval next Stopped i h t = cc

-- ---- any call

-- one that is no tick and leaves the session confirming or up leaves the ticks
onward_counts : {next : ℕ} {c : Call} {from : State} (m : Move) → Onward next c from m → is_confirming_or_up from ≡ true → is_confirming_or_up m.to ≡ true
    → since m.to ≡ since from
onward_counts m (same e q) h t = ap since e
onward_counts m (opens f to q) h t = absurd (both_ways _ (ap is_confirming_or_up f) h)
onward_counts m (answers age f to) h t = absurd (both_ways _ (ap is_confirming_or_up f) h)
onward_counts m (confirms n age f to q) h t = ap since to ∙ sym (ap since f)
onward_counts m (hears n age f to q b) h t = ap since to ∙ sym (ap since f)
onward_counts m (ends more to q) h t = absurd (both_ways _ (ap is_confirming_or_up to) t)
onward_counts m (stops to q) h t = absurd (both_ways _ (ap is_confirming_or_up to) t)

record Since (interval a : ℕ) (s : Session) : Type 0 where
  its_interval : s.site.interval ≡ interval
  stands : is_confirming_or_up s.state ≡ true
  aged : since s.state ≡ a

one_more : (s : Session) (c : Call) (interval a : ℕ) → Since interval a s → is_confirming_or_up (entry s c).state ≡ true
    → says_session_ok (entry s c).events ≡ false → Since interval (a + counts c (step s c)) (step s c).next
one_more s c interval a h =
    by_turns
    (λ (k : ℕ) (r : Answered). is_confirming_or_up r.next.state ≡ true → says_session_ok r.events ≡ false → Since interval (a + k) r.next) s c
    (λ k t q. record { its_interval = h.its_interval; stands = t; aged = h.aged ∙ sym (add-zero a) })
    (λ m o t q. record { its_interval = h.its_interval; stands = t; aged = onward_counts m o h.stands t ∙ (h.aged ∙ sym (add-zero a)) })
    (λ e t q.
    let unsaid = sym (says_by_lem s (tick s.site.interval (next_number s) s.state)) ∙ q in
    let counted-one = tick_counts s.site.interval (next_number s) s.state h.stands t unsaid in
    record { its_interval = h.its_interval; stands = t; aged = counted-one ∙ ap (λ (k : ℕ). k + 1) h.aged })

-- ---- over any calls

abbrev unsent : Entry → Bool
unsent x = is_confirming_or_up x.state && not (says_session_ok x.events)

since_sent : (interval : ℕ) (cs : List Call) (s : Session) → sound s ≡ true → Since interval 0 s → all unsent (history s cs) ≡ true
    → Since interval (ticks (history s cs)) (session_after s cs)
since_sent interval cs s ok h k =
    counted (Since interval) (λ (xs : List Entry). all unsent xs ≡ true)
    (λ t c xs a ok h k.
    let b = and_parts (unsent (entry t c)) (all unsent xs) k in
    let q = and_parts (is_confirming_or_up (entry t c).state) _ b.0 in
    (one_more t c interval a h q.0 (not-true (says_session_ok (entry t c).events) q.1), b.1))
    cs s ok h k

at_first : (s : Session) (n : ℕ) → (s.state ≡ Confirming n 0) ⊎ (s.state ≡ Up (Some n) 0) → Since s.site.interval 0 s
at_first s n (inl e) = record { its_interval = refl; stands = ap is_confirming_or_up e; aged = ap since e }
at_first s n (inr e) = record { its_interval = refl; stands = ap is_confirming_or_up e; aged = ap since e }

going : (state : State) → is_confirming_or_up state ≡ true → is_stopped state ≡ false
going (Waiting left) h = refl
going Connecting h = refl
going (Opening age) h = refl
going (Confirming number age) h = refl
going (Up waiting age) h = refl
going Stopped h = cc

-- what a tick says where the session is confirming or up
tick_events : (t : Session) → is_confirming_or_up t.state ≡ true
    → says_session_ok (step t calls.Tick).events ≡ is_session_ok (tick t.site.interval (next_number t) t.state).remark
tick_events t h =
    ap (λ (r : Answered). says_session_ok r.events) (tick_taken t t.state refl (going t.state h))
    ∙ says_by_lem t (tick t.site.interval (next_number t) t.state)

pub every_interval : EveryInterval
every_interval s cs n ok e unsent-so-far =
    let t : Session = session_after s cs in
    let now : Since s.site.interval (ticks (history s cs)) t = since_sent s.site.interval cs s ok (at_first s n e) unsent-so-far in
    let g : Good t = good {s = t} (reached_is_sound s cs ok) in
    let long = leb-true 21 t.site.interval (and_parts (leb 21 t.site.interval) _ g.interval_is).0 in
    let says : Ticks t.site.interval (next_number t) t.state = tick_says t.site.interval (next_number t) t.state long now.stands g.state_is in
    record {
      shorter = omega (arith, says.fewer, now.its_interval, now.aged);
      quiet = λ l. tick_events t now.stands ∙ says.quiet (omega (arith, now.its_interval, now.aged));
      last = λ l. tick_events t now.stands ∙ says.due (omega (arith, now.its_interval, now.aged));
    }
