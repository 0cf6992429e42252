-- What a second message does to the push, or to the open SessionOk, that both name. Assumes nothing.
use Rattle.std.specs.Prelude.{Option, None, Some}
use mathlib.Core.Path.{◌≡◌, refl, sym, ap, ◌∙◌, subst⁻¹}
use mathlib.Core.Bool.{Bool, true, false}
use mathlib.Core.List.{List, [], ◌∷◌, ◌++◌, map}
use Prim.Native.Nat.{ℕ}
use native.Mathlib.Omega.{arith}
use lib.Dec.{leb}
use borrow.Author.Tests.{eq-eqb}
use Rattle.std.proofs.lemmas.Bool.{or_parts}
use Rattle.std.proofs.lemmas.List.{map-append}
use Rattle.conduct.specs.Lists.{flat, some, among}
use Rattle.conduct.specs.Pushes.{terms_of}
use Rattle.conduct.specs.Session.{Session, awaited_numbers, push_numbers, held}
use Rattle.conduct.specs.Sound.{sound}
use Rattle.conduct.specs.Step.{Answered, step}
use Rattle.conduct.specs.History.{Bearing, is_closing}
use Rattle.conduct.specs.History.Bearing.{ticked, acknowledged, unreadable_message, advised}
use Rattle.conduct.specs.Followed.{most_resendings, due_for}
use Rattle.conduct.specs.Swapped.{Names, says_of, once_more, stays_by, judged, unmatched_in, says_of_session_ok, heard_in}
use Rattle.conduct.specs.Swapped.{NothingOpenNamed, OneAfterOther, OnePushNamedTwice, SessionOkNamed, SessionOkNamedTwice}
use Rattle.conduct.specs.declared.Site.{Site}
use Rattle.conduct.specs.declared.Push.{Push}
use Rattle.conduct.specs.declared.Call.{Call}
use Rattle.conduct.proofs.Lists.{among_append, distinct_head}
use Rattle.conduct.proofs.Good.{good}
use Rattle.conduct.proofs.Reached.{sound_step}
use Rattle.conduct.proofs.Story.{tick_in}
use Rattle.conduct.proofs.Others.{all_aside}
use Rattle.conduct.proofs.Named.{up_with}
use Rattle.conduct.proofs.Touched.{named_step, no_tick}
use Rattle.conduct.proofs.Swapped.{in_up_lem}
use Rattle.conduct.proofs.Judged.{others, not_awaited, judged_up, in_place}

-- what is due on a message closes it, and then nothing is left of it, or else it was an UnreadableMessage with a sending left
due_closes : (p : Push) (left : Bool) (b : Bearing) → some is_closing (map (says_of p) (due_for left false (b ∷ []))) ≡ true
    → flat (stays_by p) (due_for left false (b ∷ [])) ≡ []
due_closes p left ticked h = refl
due_closes p left acknowledged h = refl
due_closes p true unreadable_message h = cc
due_closes p false unreadable_message h = refl
due_closes p left advised h = refl

due_again : (p : Push) (left : Bool) (b : Bearing) → tick_in (b ∷ []) ≡ 0 → some is_closing (map (says_of p) (due_for left false (b ∷ []))) ≡ false
    → (b ≡ unreadable_message) × (left ≡ true)
due_again p left ticked message h = absurd (omega (arith, message))
due_again p left acknowledged message h = cc
due_again p true unreadable_message message h = (refl, refl)
due_again p false unreadable_message message h = cc
due_again p left advised message h = cc

-- ---- nothing open has the number

unmatched_up : (site : Site) (last : ℕ) (w : Option ℕ) (age : ℕ) (ps : List Push) (n : ℕ) (c : Call) → Names c n
    → among n (awaited_numbers w) ≡ false → among n (push_numbers ps) ≡ false
    → let s : Session = up_with site last w age ps in
    sound s ≡ true → step s c ≡ unmatched_in s
unmatched_up site last w age ps n c x not_awaited not_pushed ok =
    named_step site last w age ps n c x (good {s = up_with site last w age ps} ok).numbers_are
    ∙ rw (not_awaited, not_pushed, (all_aside (terms_of site) n x.bearing ps not_pushed).0)

pub nothing_open_named : NothingOpenNamed
nothing_open_named s n a ok up none x =
    in_up_lem (λ (t : Session). among n (held t) ≡ false → step t a ≡ unmatched_in t) s up
    (λ w age ok none.
    let e = or_parts (among n (awaited_numbers w)) (among n (push_numbers s.pushes)) (sym (among_append n (awaited_numbers w) (push_numbers s.pushes)) ∙ none) in
    unmatched_up s.site s.last w age s.pushes n a x e.0 e.1 ok)
    ok none

-- ---- a second message about the push

module _ (site : Site) (last : ℕ) (w : Option ℕ) (age : ℕ) (before : List Push) (p : Push) (behind : List Push) (a b : Call)
    (x : Names a p.number) (y : Names b p.number) (ok : sound (up_with site last w age (before ++ p ∷ behind)) ≡ true)
  where
    abbrev n : ℕ
    n = p.number

    abbrev s : Session
    s = up_with site last w age (before ++ p ∷ behind)

    abbrev sending_left : Bool
    sending_left = leb p.sent (most_resendings site.resends p.what)

    said : some is_closing (step s a).events ≡ some is_closing (map (says_of p) (due_for sending_left false (x.bearing ∷ [])))
    said = ap (λ (t : Answered). some is_closing t.events) (judged_up site last w age before p behind ok a x)

    gone : among n (push_numbers (before ++ behind)) ≡ false
    gone =
        let none = others site last w age before p behind ok in
        rw (map-append (λ (q : Push). q.number) before behind, among_append n (push_numbers before) (push_numbers behind), none.0, none.1)

    decides : some is_closing (step s a).events ≡ true → step (step s a).next b ≡ unmatched_in (step s a).next
    decides h =
        let none = due_closes p sending_left x.bearing (sym said ∙ h) in
        let next = ap (λ (t : Answered). t.next) (judged_up site last w age before p behind ok a x) ∙ ap (λ (qs : List Push). up_with site last w age (before ++ (qs ++ behind))) none in
        subst⁻¹ (λ (t : Session). sound t ≡ true → step t b ≡ unmatched_in t) next
        (unmatched_up site last w age (before ++ behind) n b y (not_awaited site last w age before p behind ok) gone) (sound_step s a ok)

    again : some is_closing (step s a).events ≡ false
        → (x.bearing ≡ unreadable_message)
        × (step s a ≡ record { refusal = 0; next = up_with site last w age (before ++ once_more p ∷ behind); events = says_of p 5 ∷ [] })
    again h =
        let due = due_again p sending_left x.bearing (no_tick site last w age (before ++ p ∷ behind) n a x) (sym said ∙ h) in
        (due.0, judged_up site last w age before p behind ok a x ∙ rw (due.0, due.1))

    one_after_other : OneAfterOther s before p behind a b x.bearing y.bearing
    one_after_other =
        record {
          first_decides = decides;
          else_sent_again =
              λ h.
              let sent = again h in (
                sent.0,
                sent.1,
                subst⁻¹ (λ (t : Session). sound t ≡ true → step t b ≡ judged t before (once_more p) behind y.bearing) (ap (λ (t : Answered). t.next) sent.1)
                    (λ ok. judged_up site last w age before (once_more p) behind ok b y) (sound_step s a ok),
              );
        }

pub one_push_named_twice : OnePushNamedTwice
one_push_named_twice s before behind p a b ok up is x y =
    in_place (λ (t : Session). OneAfterOther t before p behind a b x.bearing y.bearing) s before behind p up is
    (λ w age ok. one_after_other s.site s.last w age before p behind a b x y ok) ok

-- ---- the open SessionOk

module _ (site : Site) (last n age : ℕ) (ps : List Push) where
  abbrev waiting : Session
  waiting = up_with site last (Some n) age ps

  abbrev heard : Session
  heard = up_with site last None age ps

  unpushed : sound waiting ≡ true → among n (push_numbers ps) ≡ false
  unpushed ok = distinct_head n (push_numbers ps) (good {s = waiting} ok).numbers_are

  answered_up : (a : Call) (x : Names a n) → sound waiting ≡ true → step waiting a ≡ record { refusal = 0; next = heard; events = says_of_session_ok x.bearing }
  answered_up a x ok =
      named_step site last (Some n) age ps n a x (good {s = waiting} ok).numbers_are
      ∙ rw (eq-eqb n n refl, (all_aside (terms_of site) n x.bearing ps (unpushed ok)).0)

  twice_up : (a b : Call) → Names a n → Names b n → sound waiting ≡ true → step (step waiting a).next b ≡ unmatched_in (step waiting a).next
  twice_up a b x y ok =
      subst⁻¹ (λ (t : Session). sound t ≡ true → step t b ≡ unmatched_in t) (ap (λ (t : Answered). t.next) (answered_up a x ok))
      (unmatched_up site last None age ps n b y refl (unpushed ok)) (sound_step waiting a ok)

pub session_ok_named : SessionOkNamed
session_ok_named s n age a ok e x =
    subst⁻¹ (λ (t : Session). sound t ≡ true → step t a ≡ record { refusal = 0; next = heard_in t age; events = says_of_session_ok x.bearing })
    (λ i. record { site = s.site; state = e i; pushes = s.pushes; last = s.last }) (answered_up s.site s.last n age s.pushes a x) ok

pub session_ok_named_twice : SessionOkNamedTwice
session_ok_named_twice s n age a b ok e x y =
    subst⁻¹ (λ (t : Session). sound t ≡ true → step (step t a).next b ≡ unmatched_in (step t a).next)
    (λ i. record { site = s.site; state = e i; pushes = s.pushes; last = s.last }) (twice_up s.site s.last n age s.pushes a b x y) ok
