-- As specs/Reached promises: each session that is made passes the test of specs/Sound, and each call on such a one leaves such a one. So no two numbers
-- that are held are the same, and at most 32 pushes are open. Assumes nothing.
use mathlib.Core.Path.{◌≡◌, refl, ap, ◌∙◌}
use mathlib.Core.Bool.{true, false}
use mathlib.Core.List.{List, [], ◌∷◌, ◌++◌, append-nil, append_assoc}
use mathlib.Core.Logic.{⊎_elim}
use Prim.Native.Nat.{ℕ, zero, suc, ◌+◌}
use native.Mathlib.Omega.{arith}
use lib.ListN.{length-append}
use Rattle.std.proofs.lemmas.Bool.{and_from, or_parts}
use Rattle.std.proofs.lemmas.List.{map-append}
use Rattle.std.proofs.lemmas.Bool.Decides.{nat_tests}
use Rattle.conduct.specs.Lists.{flat, among, distinct}
use Rattle.conduct.specs.Numbers.{next_free}
use Rattle.conduct.specs.Pushes.{terms_of, opened, keeps}
use borrow.Author.Tests.{le-leb}
use Rattle.conduct.specs.Session.{Session, is_up, session_ok_numbers, push_numbers, held, refusal_of}
use Rattle.conduct.specs.Rules.{next_number, move_of}
use Rattle.conduct.specs.Step.{last_after_parting, moved_by, answer, step}
use Rattle.conduct.specs.Sound.{sound_push, sound}
use Rattle.conduct.specs.History.{session_after}
use Rattle.conduct.specs.Reached.{MadeIsSound, ReachedIsSound, NumbersDiffer, FewPushes}
use Rattle.conduct.specs.declared.Push.{Push}
use Rattle.conduct.specs.declared.Pushed.{Pushed}
use Rattle.conduct.specs.declared.Pushed.TheVariants.{Response, Advisory}
use Rattle.conduct.specs.declared.Sweep.TheVariants as sweeps
use Rattle.conduct.specs.declared.Call.{Call}
use Rattle.conduct.specs.declared.Move.{Move}
use Rattle.conduct.specs.declared.Site.{Site}
use Rattle.conduct.proofs.Lists.{flat_nothing, all_append, among_append, distinct_cons, distinct_back}
use Rattle.conduct.proofs.Lists.{distinct_more}
use Rattle.conduct.proofs.Good.{Good, good, sound_of, some_number_free}
use Rattle.conduct.proofs.Kept.{kept_few, kept_sound, kept_unheld, kept_differ}
use Rattle.conduct.proofs.Fair.{Fair, Taking, sent_number, new_pushes, fair}
use Rattle.conduct.proofs.Fair.Taking.{holds, frees, sends, opens_one}

-- ---- a fair move leads to a session that passes

opened_sound : (site : Site) (what : Pushed) (number handle : ℕ) → sound_push (terms_of site) (opened what number handle) ≡ true
opened_sound site Response number handle = and_from _ _ (le-leb 1 (site.resends + 1) (omega arith)) refl
opened_sound site Advisory number handle = refl

module _ (s : Session) (m : Move) (g : Good s) (f : Fair s m) where
  abbrev left_open : List Push
  left_open = flat (keeps (terms_of s.site) m.sweep) s.pushes

  -- outside Up nothing is left open
  none_left : is_up m.to ≡ false → left_open ≡ []
  none_left u =
      ⊎_elim (λ e. rw e (flat_nothing (keeps (terms_of s.site) sweeps.Lost) (λ p. refl) s.pushes)) (λ e. rw (g.quiet e)) (f.leaving u)

  -- where no push is opened
  settled : new_pushes s m ≡ [] → distinct (session_ok_numbers m.to ++ push_numbers left_open) ≡ true → Good (moved_by s m)
  settled o d =
      let as_left : left_open ++ new_pushes s m ≡ left_open = ap (λ (qs : List Push). left_open ++ qs) o ∙ append-nil left_open in
      record {
        interval_is = g.interval_is;
        resends_is = g.resends_is;
        state_is = f.to_is;
        room = rw as_left (omega (arith, kept_few (terms_of s.site) m.sweep s.pushes, g.room));
        quiet = λ u. as_left ∙ none_left u;
        pushes_are = rw as_left (kept_sound (terms_of s.site) m.sweep s.pushes g.pushes_are);
        numbers_are = rw as_left d;
      }

  -- no number comes back, and those that were held still differ
  free_still : (last : ℕ) → among (next_free (held s) last) (session_ok_numbers s.state ++ push_numbers left_open) ≡ false
  free_still last = kept_unheld (terms_of s.site) m.sweep (next_free (held s) last) (session_ok_numbers s.state) s.pushes (some_number_free g last)

  still_differ : distinct (session_ok_numbers s.state ++ push_numbers left_open) ≡ true
  still_differ = kept_differ (terms_of s.site) m.sweep (session_ok_numbers s.state) s.pushes g.numbers_are

  pushes_differ : distinct (push_numbers left_open) ≡ true
  pushes_differ = distinct_back (session_ok_numbers s.state) (push_numbers left_open) still_differ

  good_by : Taking s m → Good (moved_by s m)
  good_by (holds n o) = settled o (rw n still_differ)
  good_by (frees n o) = settled o (rw n pushes_differ)
  good_by (sends n o) =
      let unheld = rw (among_append (next_number s) (session_ok_numbers s.state) (push_numbers left_open)) at (free_still s.last) in
      let other = (or_parts (among (next_number s) (session_ok_numbers s.state)) (among (next_number s) (push_numbers left_open)) unheld).1 in
      settled o (rw n (distinct_cons (next_number s) (push_numbers left_open) other pushes_differ))
  good_by (opens_one what handle stays up o few) =
      let new : Push = opened what (sent_number s m) handle in
      let one_more : left_open ++ new_pushes s m ≡ left_open ++ new ∷ [] = ap (λ (qs : List Push). left_open ++ qs) o in
      let before : List ℕ = session_ok_numbers s.state ++ push_numbers left_open in
      let numbers : session_ok_numbers m.to ++ push_numbers (left_open ++ new ∷ []) ≡ before ++ sent_number s m ∷ [] =
      rw (stays, map-append (λ (p : Push). p.number) left_open (new ∷ []), append_assoc)
      in
      record {
        interval_is = g.interval_is;
        resends_is = g.resends_is;
        state_is = f.to_is;
        room = rw one_more (simp length-append (omega (arith, kept_few (terms_of s.site) m.sweep s.pushes)));
        quiet = λ u. cc;
        pushes_are =
            rw (one_more, all_append (sound_push (terms_of s.site)) left_open (new ∷ []))
            (and_from _ _ (kept_sound (terms_of s.site) m.sweep s.pushes g.pushes_are) (and_from _ _ (opened_sound s.site what (sent_number s m) handle) refl));
        numbers_are =
            rw (one_more, numbers)
            (distinct_more before (sent_number s m) still_differ (free_still (last_after_parting s m)));
      }

-- ---- calls

good_answer : (k : ℕ) (s : Session) (c : Call) → refusal_of s c ≡ k → Good s → Good (answer k s c).next
good_answer zero s c r g = let f = fair s g c r in good_by s (move_of s c) g f f.taking
good_answer (suc k) s c r g = g

pub good_step : (s : Session) (c : Call) → Good s → Good (step s c).next
good_step s c g = good_answer (refusal_of s c) s c refl g

pub sound_step : (s : Session) (c : Call) → sound s ≡ true → sound (step s c).next ≡ true
sound_step s c h = sound_of (good_step s c (good h))

pub reached_is_sound : ReachedIsSound
reached_is_sound s [] h = h
reached_is_sound s (c ∷ cs) h = reached_is_sound (step s c).next cs (sound_step s c h)

pub made_is_sound : MadeIsSound
made_is_sound site = grind (arith, nat_tests)

-- ---- what that means of the numbers and of the room

pub numbers_differ : NumbersDiffer
numbers_differ s cs h = (good {s = session_after s cs} (reached_is_sound s cs h)).numbers_are

pub few_pushes : FewPushes
few_pushes s cs h = (good {s = session_after s cs} (reached_is_sound s cs h)).room
