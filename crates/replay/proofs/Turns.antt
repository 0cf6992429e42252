-- LAWS for the proofs of the program's own functions: calls and ticks, a line, a call of the framing, and the bytes that wait at the end.
-- Assumes nothing.
use mathlib.Core.Path.{◌≡◌, refl, sym, ap, ◌∙◌}
use mathlib.Core.List.{List, []}
use mathlib.Core.Bool.{false}
use lib.Dec.{eqb}
use Prim.Native.Nat.{ℕ, zero, suc, ◌+◌, ◌-◌, ◌≤◌, ◌<◌}
use native.Mathlib.Omega.{arith}
use lib.ListN.{length, take, drop, length-take, length-drop}
use lib.Seq.{take_all}
use borrow.Author.Tests.{ne_eqb, le-leb, lt-leb}
use Rattle.message.specs.Class.{class_of}
use Rattle.message.specs.Limits.{link_limits}
use Rattle.message.specs.Messages.{message_of}
use Rattle.conduct.specs.declared.Call.{Call}
use Rattle.conduct.specs.declared.Call.TheVariants as calls
use Rattle.session.specs.declared.Session.{Session}
use Rattle.session.specs.Answers.{Told, call_of, told}
use Rattle.session.specs.Answers.{refusal_number as number_of_why}
use Rattle.session.specs.declared.Refusal.{Refusal as Why}
use Rattle.session.specs.declared.Refusal.TheVariants as whys
use Rattle.session.proofs.Histories.{list_fits}
use Rattle.framing.specs.declared.Refusal.{Refusal}
use Rattle.framing.specs.declared.Taken.{Taken}
use Rattle.framing.specs.Cutting.{link_limit, store_after, refusal_number, refused_with, taken_said}
use Rattle.replay.specs.declared.script.Line.{Line}
use Rattle.replay.specs.declared.script.Line.TheVariants as lines
use Rattle.replay.specs.declared.runs.Phase.{Phase}
use Rattle.replay.specs.declared.runs.Run.{Run}
use Rattle.replay.specs.declared.Held.{Held}
use Rattle.replay.specs.declared.Turn.{Turn}
use Rattle.replay.specs.Script.{line_of}
use Rattle.replay.specs.Runs.{Done, ready_for, after_call, called, ticked, taken_in, taken}
use Rattle.replay.specs.Replay.{taken_rest}
use Rattle.replay.specs.Turns.{boundary, answer_in, taken_after, done_of_turn, turn_of}

-- ---- calls and ticks

-- the event list of a call has room
pub events_fit : (d : Session) (c : Call) {t : Told} → t ≡ told 40 d c → t.events.count ≤ 40
events_fit d c is = rw is (list_fits 40 d c).0

-- a call that is refused is so by a number other than 0
pub refused_by_a_number : (why : Why) → eqb (number_of_why why) 0 ≡ false
refused_by_a_number whys.ListTooShort = refl
refused_by_a_number whys.Stopped = refl
refused_by_a_number whys.OutOfState = refl
refused_by_a_number whys.TooManyPushes = refl
refused_by_a_number whys.Inconsistent = refl

pub called_run : (run : Run) (c : Call) {t : Told} {next : Run} → t ≡ told 40 run.session c → next ≡ after_call run t
    → next ≡ (called run c).run
unfolding called
called_run run c is after = after ∙ ap (after_call run) is

-- the bytes of a message, which stand behind the 8 of the word and its space
pub heard_run : (run : Run) (bytes : List ℕ) {t : Told} {next : Run}
    → t ≡ told 40 run.session (call_of (message_of class_of link_limits (take (length bytes - 8) (drop 8 bytes)))) → next ≡ after_call run t
    → next ≡ (called run (call_of (message_of class_of link_limits (drop 8 bytes)))).run
heard_run run bytes is after =
    called_run run (call_of (message_of class_of link_limits (take (length bytes - 8) (drop 8 bytes)))) is after
    ∙ ap (λ (w : List ℕ). (called run (call_of (message_of class_of link_limits w))).run)
    (take_all (length bytes - 8) (drop 8 bytes) (omega (arith, length-drop 8 bytes)))

pub tick_on : (n left : ℕ) (run : Run) {t : Told} {next : Run} → 0 < n → n ≡ left + 1 → t ≡ told 40 run.session calls.Tick
    → next ≡ after_call run t → (ticked left next).run ≡ (ticked n run).run
unfolding ticked called
tick_on zero left run some one is after = absurd (omega arith)
tick_on (suc n) left run some one is after =
    let same : left ≡ n = omega arith in
    rw (same, after, is)

pub no_more_ticks : (n : ℕ) (run : Run) → n ≤ 0 → run ≡ (ticked n run).run
unfolding ticked
no_more_ticks zero run over = refl
no_more_ticks (suc n) run over = absurd (omega arith)

-- ---- a line

pub taken_ready : (before : Run) {run : Run} (line : Line) (bytes : List ℕ) {phase : Phase} → run ≡ ready_for before line
    → run.phase ≡ phase → (taken_in phase run line bytes).run ≡ (taken before line bytes).run
unfolding taken
taken_ready before {run} line bytes ready is =
    sym (ap (λ (p : Phase). (taken_in p run line bytes).run) is) ∙ ap (λ (r : Run). (taken_in r.phase r line bytes).run) ready

-- ---- a call of the framing

module _ (s p : List ℕ) (h : Held) where
  pub turn_is : (t : Taken) {left : List ℕ} {run : Run} → taken_said t ≡ answer_in s p h
      → left ≡ store_after link_limit boundary s p h.gathered 0 → run ≡ (taken_after h.run t.item left).run
      → ◌≡◌ {A = Turn} (record { taken = t.taken; held = record { gathered = t.held.gathered; run = run } }) (turn_of s p h)
  unfolding done_of_turn turn_of
  turn_is t is leaves does = rw (does, leaves, ← is)

  pub refused_turn_is : (why : Refusal) → refused_with (refusal_number why) h.gathered 0 ≡ answer_in s p h
      → ◌≡◌ {A = Turn} (record { taken = 0; held = h }) (turn_of s p h)
  unfolding done_of_turn turn_of taken_after
  refused_turn_is why is = rw (← is)

-- ---- the bytes that wait at the end: the first g of the store, as far as it goes

pub too_long_rest : (run : Run) (w : List ℕ) → link_limit < length w → taken_rest run w ≡ taken run lines.Bad []
unfolding taken_rest
too_long_rest run w many = rw (ne_eqb (length w) 0 (λ e. omega arith), lt-leb (length w) link_limit many)

module _ (run : Run) (s : List ℕ) (g : ℕ) where
  pub nothing_waits : g ≡ 0 → run ≡ (taken_rest run (take g s)).run
  unfolding taken_rest
  nothing_waits none = rw none

  module _ (roomy : 65536 ≤ length s) where
    pub too_much_waits : link_limit < g → (taken run lines.Bad []).run ≡ (taken_rest run (take g s)).run
    too_much_waits many = sym (ap (λ (d : Done). d.run) (too_long_rest run (take g s) (omega (arith, length-take g s))))

    pub a_line_waits : (g ≡ 0 → ⊥) → g ≤ link_limit → (taken run (line_of (take g s)) (take g s)).run ≡ (taken_rest run (take g s)).run
    unfolding taken_rest
    a_line_waits some few =
        let long : length (take g s) ≡ g = omega (arith, length-take g s) in
        rw (ne_eqb (length (take g s)) 0 (λ e. some (sym long ∙ e)), le-leb (length (take g s)) link_limit (omega arith))
