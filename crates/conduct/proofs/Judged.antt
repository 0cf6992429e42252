-- What a message does to the one push that it names, among the others. Assumes nothing.
use Rattle.std.specs.Prelude.{Option}
use mathlib.Core.Path.{◌≡◌, refl, sym, ap, ◌∙◌, subst⁻¹}
use mathlib.Core.Bool.{Bool, true, false}
use mathlib.Core.List.{List, [], ◌∷◌, ◌++◌, map, append-nil}
use Prim.Native.Nat.{ℕ, ◌≤◌}
use native.Mathlib.Omega.{arith}
use lib.Dec.{leb, eqb}
use borrow.Author.Tests.{eq-eqb, leb-true}
use Rattle.std.proofs.lemmas.Bool.{and_parts, both_ways, or_parts}
use Rattle.std.proofs.lemmas.List.{map-append}
use Rattle.std.proofs.lemmas.Bool.Decides.{nat_tests}
use Rattle.message.specs.declared.Advice.{Advice}
use Rattle.message.specs.declared.Advice.TheVariants.{UnreadableMessage, Other}
use Rattle.conduct.specs.Lists.{flat, all, among, distinct}
use Rattle.conduct.specs.Pushes.{terms_of, may_go_again, keeps, tells}
use Rattle.conduct.specs.Session.{Session, is_up, awaited_numbers, push_numbers}
use Rattle.conduct.specs.Sound.{sound_push, sound}
use Rattle.conduct.specs.Step.{step}
use Rattle.conduct.specs.History.{Bearing, says_unreadable}
use Rattle.conduct.specs.History.Bearing.{ticked, acknowledged, unreadable_message, advised}
use Rattle.conduct.specs.Followed.{most_resendings, due_for}
use Rattle.conduct.specs.Swapped.{Names, UnreadableByItsType, says_of, stays_by, judged}
use Rattle.conduct.specs.Swapped.{NamedPushJudged}
use Rattle.conduct.specs.declared.Site.{Site}
use Rattle.conduct.specs.declared.Push.{Push}
use Rattle.conduct.specs.declared.Call.{Call}
use Rattle.conduct.specs.declared.Terms.{Terms}
use Rattle.conduct.proofs.Lists.{flat_append, all_append, among_append, eqb_sym, distinct_back, distinct_head, distinct_tail}
use Rattle.conduct.proofs.Good.{good}
use Rattle.conduct.proofs.Story.{tick_in}
use Rattle.conduct.proofs.Bearings.{not_awaited_too}
use Rattle.conduct.proofs.Others.{sweep_by, all_aside, left_by}
use Rattle.conduct.proofs.Named.{up_with}
use Rattle.conduct.proofs.Touched.{named_step, no_tick}
use Rattle.conduct.proofs.Swapped.{in_up_lem}

-- ---- which Advisory is an UnreadableMessage

pub unreadable_by_its_type : UnreadableByItsType
unreadable_by_its_type m = (
  λ h.
      let there = is_there m.advisory_type.there refl h in
      (there, is_it m.advisory_type.meaning refl there h),
  λ there is. rw (there, is),
)
  where
    is_there : (there : Bool) → m.advisory_type.there ≡ there → says_unreadable m ≡ true → there ≡ true
    is_there true e h = refl
    is_there false e h = absurd (both_ways _ (rw e) h)

    is_it : (advice : Advice) → m.advisory_type.meaning ≡ advice → m.advisory_type.there ≡ true → says_unreadable m ≡ true → advice ≡ UnreadableMessage
    is_it UnreadableMessage e there h = refl
    is_it Other e there h = absurd (both_ways _ (rw (there, e)) h)

-- ---- the push alone

module _ (terms : Terms) (p : Push) where
  abbrev codes : Bearing → List ℕ
  codes b = due_for (may_go_again terms p) false (b ∷ [])

  its_own : eqb p.number p.number ≡ true
  its_own = eq-eqb p.number p.number refl

  stays_due : (b : Bearing) → tick_in (b ∷ []) ≡ 0 → keeps terms (sweep_by p.number b) p ≡ flat (stays_by p) (codes b)
  stays_due ticked h = absurd (omega (arith, h))
  stays_due acknowledged h = rw its_own
  stays_due unreadable_message h = grind (arith, nat_tests)
  stays_due advised h = rw its_own

  told_due : (b : Bearing) → tick_in (b ∷ []) ≡ 0 → tells terms (sweep_by p.number b) p ≡ map (says_of p) (codes b)
  told_due ticked h = absurd (omega (arith, h))
  told_due acknowledged h = rw its_own
  told_due unreadable_message h = grind (arith, nat_tests)
  told_due advised h = rw its_own

-- a sending is left just if it may go again
left_of : (terms : Terms) (p : Push) → terms.resends ≤ 3 → sound_push terms p ≡ true → may_go_again terms p ≡ leb p.sent (most_resendings terms.resends p.what)
left_of terms p few fit = grind (arith, nat_tests)

-- ---- the push among the others

-- no other has its number
alone : (n : ℕ) (ms ks : List ℕ) → distinct (ms ++ n ∷ ks) ≡ true → (among n ms ≡ false) × (among n ks ≡ false)
alone n [] ks d = (refl, distinct_head n ks d)
alone n (m ∷ ms) ks d =
    let rest = alone n ms ks (distinct_tail m (ms ++ n ∷ ks) d) in
    let e = or_parts (among m ms) (among m (n ∷ ks)) (sym (among_append m ms (n ∷ ks)) ∙ distinct_head m (ms ++ n ∷ ks) d) in
    let other = or_parts (eqb m n) (among m ks) e.1 in
    (rw (eqb_sym n m, other.0) rest.0, rest.1)

module _ (site : Site) (last : ℕ) (w : Option ℕ) (age : ℕ) (before : List Push) (p : Push) (behind : List Push)
    (ok : sound (up_with site last w age (before ++ p ∷ behind)) ≡ true)
  where
    abbrev n : ℕ
    n = p.number

    abbrev terms : Terms
    terms = terms_of site

    abbrev s : Session
    s = up_with site last w age (before ++ p ∷ behind)

    differ : distinct (awaited_numbers w ++ push_numbers (before ++ p ∷ behind)) ≡ true
    differ = (good {s = s} ok).numbers_are

    numbers : push_numbers (before ++ p ∷ behind) ≡ push_numbers before ++ n ∷ push_numbers behind
    numbers = map-append (λ (q : Push). q.number) before (p ∷ behind)

    pub others : (among n (push_numbers before) ≡ false) × (among n (push_numbers behind) ≡ false)
    others = alone n (push_numbers before) (push_numbers behind) (ap distinct (sym numbers) ∙ distinct_back (awaited_numbers w) _ differ)

    is_open : among n (push_numbers (before ++ p ∷ behind)) ≡ true
    is_open = rw (numbers, among_append n (push_numbers before) (n ∷ push_numbers behind), others.0, eq-eqb n n refl)

    pub not_awaited : among n (awaited_numbers w) ≡ false
    not_awaited = not_awaited_too n w (push_numbers (before ++ p ∷ behind)) differ is_open

    left_among : (b : Bearing) → left_by terms n b (before ++ p ∷ behind) ≡ before ++ (keeps terms (sweep_by n b) p ++ behind)
    left_among b =
        flat_append (keeps terms (sweep_by n b)) before (p ∷ behind)
        ∙ rw ((all_aside terms n b before others.0).0, (all_aside terms n b behind others.1).0)

    told_among : (b : Bearing) → flat (tells terms (sweep_by n b)) (before ++ p ∷ behind) ≡ tells terms (sweep_by n b) p
    told_among b =
        flat_append (tells terms (sweep_by n b)) before (p ∷ behind)
        ∙ rw ((all_aside terms n b before others.0).1, (all_aside terms n b behind others.1).1) (append-nil _)

    sending_left_lem : may_go_again terms p ≡ leb p.sent (most_resendings site.resends p.what)
    sending_left_lem =
        let g = good {s = s} ok in
        let later = (and_parts (all (sound_push terms) before) _ (sym (all_append (sound_push terms) before (p ∷ behind)) ∙ g.pushes_are)).1 in
        left_of terms p (leb-true site.resends 3 g.resends_is) (and_parts (sound_push terms p) _ later).0

    pub judged_up : (a : Call) (x : Names a n) → step s a ≡ judged s before p behind x.bearing
    judged_up a x =
        let b = x.bearing in
        let message = no_tick site last w age (before ++ p ∷ behind) n a x in
        let kept = left_among b ∙ ap (λ (qs : List Push). before ++ (qs ++ behind)) (stays_due terms p b message) in
        let told = told_among b ∙ told_due terms p b message in
        named_step site last w age (before ++ p ∷ behind) n a x differ
        ∙ (rw (not_awaited, is_open) (λ i. record { refusal = 0; next = up_with site last w age (kept i); events = told i })
        ∙ ap (λ (left : Bool). record {
          refusal = 0;
          next = up_with site last w age (before ++ (flat (stays_by p) (due_for left false (b ∷ [])) ++ behind));
          events = map (says_of p) (due_for left false (b ∷ []));
        }) sending_left_lem)

-- ---- of any session that is up and has the push there

pub in_place : (P : Session → Type 0) (s : Session) (before behind : List Push) (p : Push) → is_up s.state ≡ true → s.pushes ≡ before ++ p ∷ behind
    → ((w : Option ℕ) (age : ℕ)
    → let t : Session = up_with s.site s.last w age (before ++ p ∷ behind) in
    sound t ≡ true → P t)
    → sound s ≡ true → P s
in_place P s before behind p up is h =
    in_up_lem P s up
    (λ w age.
    subst⁻¹
    (λ (ps : List Push).
    let t : Session = up_with s.site s.last w age ps in
    sound t ≡ true → P t)
    is (h w age))

pub named_push_judged : NamedPushJudged
named_push_judged s before behind p a ok up is x =
    in_place (λ (t : Session). step t a ≡ judged t before p behind x.bearing) s before behind p up is
    (λ w age ok. judged_up s.site s.last w age before p behind ok a x) ok
