-- Laws of the record: one that passes the test is the one record of its session, and what its answers are. Assumes nothing.
use mathlib.Core.Path.{◌≡◌, refl, sym, ap, ap₂, ◌∙◌}
use mathlib.Core.Bool.{true}
use mathlib.Core.List.{List, [], ◌∷◌, ◌++◌}
use Prim.Native.Nat.{ℕ, zero, suc, ◌+◌, ◌-◌, ◌≤◌}
use native.Mathlib.Omega.{arith}
use lib.Dec.{leb, eqb}
use lib.ListN.{length, take, drop, replicate, take-append-drop, length-drop}
use borrow.Author.Tests.{leb-true, eqb-true}
use Rattle.std.proofs.lemmas.Bool.{and_parts, both_ways}
use Rattle.conduct.specs.declared.Push.{Push}
use Rattle.conduct.specs.declared.Pushed.{Pushed}
use Rattle.conduct.specs.declared.Pushed.TheVariants.{Response, Advisory}
use Rattle.conduct.specs.declared.Call.{Call}
use Rattle.conduct.specs.declared.Remark.{Remark}
use Rattle.conduct.specs.declared.Remark.TheVariants as remarks
use Rattle.conduct.specs.Lists.{all}
use Rattle.conduct.specs.Pushes.{is_response}
use Rattle.conduct.specs.Session.{Session, refusal_of}
use Rattle.conduct.specs.Sound.{sound}
use Rattle.conduct.specs.Rules.{move_of}
use Rattle.conduct.specs.Step.{opens, answer, step}
use Rattle.conduct.proofs.Good.{good}
use Rattle.conduct.proofs.Fair.{Taking, sent_number, new_pushes, fair}
use Rattle.conduct.proofs.Fair.Taking.{holds, frees, sends, opens_one}
use Rattle.session.specs.Rows.{no_push, table_of, rows_of, is_blank}
use Rattle.session.specs.Record.{session_of, record_of, consistent}
use Rattle.session.specs.Answers.{told_of, refuse}
use Rattle.session.specs.declared.Table.{Table}
use Rattle.session.specs.declared.Session.{Session as Record}
use Rattle.session.proofs.Rows.{rows_of_lem, rows_count}

-- ---- what the test says

pub count_fits : (d : Record) → consistent d ≡ true → d.pushes.count ≤ 32
count_fits d h = leb-true d.pushes.count 32 (and_parts (leb d.pushes.count 32) _ h).0

blanks_behind : (d : Record) → consistent d ≡ true → all is_blank (drop d.pushes.count d.pushes.rows) ≡ true
blanks_behind d h =
    (and_parts (all is_blank (drop d.pushes.count d.pushes.rows)) (sound (session_of d)) (and_parts (leb d.pushes.count 32) _ h).1).0

pub sound_session : (d : Record) → consistent d ≡ true → sound (session_of d) ≡ true
sound_session d h =
    (and_parts (all is_blank (drop d.pushes.count d.pushes.rows)) (sound (session_of d)) (and_parts (leb d.pushes.count 32) _ h).1).1

-- ---- a table with blanks behind its count is the one table of its pushes

response_is : (what : Pushed) → is_response what ≡ true → what ≡ Response
response_is Response h = refl
response_is Advisory h = absurd (both_ways _ (sym h) refl)

blank_is : (p : Push) → is_blank p ≡ true → p ≡ no_push
blank_is p h =
    let a = and_parts (is_response p.what) _ h in
    let b = and_parts (eqb p.number 0) _ a.1 in
    let e = and_parts (eqb p.handle 0) _ b.1 in
    let f = and_parts (eqb p.sent 0) _ e.1 in
    λ i. record {
      what = response_is p.what a.0 i;
      number = eqb-true p.number 0 b.0 i;
      handle = eqb-true p.handle 0 e.0 i;
      sent = eqb-true p.sent 0 f.0 i;
      age = eqb-true p.age 0 f.1 i;
    }

blanks_are : (ps : List Push) → all is_blank ps ≡ true → ps ≡ replicate (length ps) no_push
blanks_are [] h = refl
blanks_are (p ∷ ps) h =
    let e = and_parts (is_blank p) (all is_blank ps) h in
    ap₂ ◌∷◌ (blank_is p e.0) (blanks_are ps e.1)

same_table : (t : Table) → length t.rows ≡ 32 → t.count ≤ 32 → all is_blank (drop t.count t.rows) ≡ true → table_of (rows_of t) ≡ t
unfolding table_of rows_of
same_table t size room blank =
    let front : length (take t.count t.rows) ≡ t.count = rows_count t size room in
    let behind : 32 - length (take t.count t.rows) ≡ length (drop t.count t.rows) =
    omega (arith, length-drop t.count t.rows)
    in
    let rows : take t.count t.rows ++ replicate (32 - length (take t.count t.rows)) no_push ≡ t.rows =
    ap (λ (n : ℕ). take t.count t.rows ++ replicate n no_push) behind
    ∙ ap (λ (ps : List Push). take t.count t.rows ++ ps) (sym (blanks_are (drop t.count t.rows) blank))
    ∙ take-append-drop t.count t.rows
    in
    λ i. record { rows = rows i; count = front i }

pub same_record : (d : Record) → length d.pushes.rows ≡ 32 → consistent d ≡ true → record_of (session_of d) ≡ d
same_record d size h =
    let table = same_table d.pushes size (count_fits d h) (blanks_behind d h) in
    λ i. record { site = d.site; state = d.state; pushes = table i; last = d.last }

-- the session of a session's record
pub same_session : (s : Session) → session_of (record_of s) ≡ s
same_session s = λ i. record { site = s.site; state = s.state; pushes = rows_of_lem s.pushes i; last = s.last }

-- ---- an accepted call has room for the push that it opens

one_number : (m n : ℕ) (remark : Remark) → length (opens m remark) ≡ length (opens n remark)
one_number m n remarks.Nothing = refl
one_number m n (remarks.Note code detail) = refl
one_number m n (remarks.Send what handle) = refl

pub room_opens : (s : Session) (c : Call) → sound s ≡ true → refusal_of s c ≡ 0
    → length s.pushes + length (opens 0 (move_of s c).remark) ≤ 32
room_opens s c h accepted =
    omega (arith, by_taking (fair s (good h) c accepted).taking, one_number 0 (sent_number s (move_of s c)) (move_of s c).remark)
  where
    by_taking : Taking s (move_of s c) → length s.pushes + length (new_pushes s (move_of s c)) ≤ 32
    by_taking (holds n o) = omega (arith, ap length o, (good {s = s} h).room)
    by_taking (frees n o) = omega (arith, ap length o, (good {s = s} h).room)
    by_taking (sends n o) = omega (arith, ap length o, (good {s = s} h).room)
    by_taking (opens_one what handle stays up o few) = omega (arith, ap length o)

-- ---- what is answered, where the test passes

pub when_refused : (d : Record) (c : Call) (k : ℕ) → length d.pushes.rows ≡ 32 → consistent d ≡ true
    → k ≡ refusal_of (session_of d) c → (k ≡ 0 → ⊥) → refuse k d ≡ told_of (step (session_of d) c)
when_refused d c zero size h e other = absurd (other refl)
when_refused d c (suc k) size h e other =
    ap (refuse (suc k)) (sym (same_record d size h)) ∙ ap (λ (n : ℕ). told_of (answer n (session_of d) c)) e
