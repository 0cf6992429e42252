-- The theorem on histories: what a history says of a push is its life, so every accepted push is followed to its end. Assumes nothing.
use mathlib.Core.Path.{◌≡◌, refl, sym, ap, ap₂, subst, subst⁻¹, ◌∙◌}
use mathlib.Core.Bool.{Bool, true, false, cond, ◌&&◌}
use mathlib.Core.List.{List, [], ◌∷◌, ◌++◌}
use mathlib.Core.Logic.{◌⊎◌, inl, inr, ⊎_elim}
use Prim.Native.Nat.{ℕ, zero, suc, ◌+◌, ◌*◌, ◌≤◌}
use native.Mathlib.Omega.{arith}
use lib.Dec.{ltb, eqb}
use lib.ListN.{length}
use borrow.Author.Tests.{leb-true}
use Rattle.conduct.specs.Lists.{only, those, some}
use Rattle.conduct.specs.Pushes.{terms_of, opened, may_go_again, kept_by, told_by}
use Rattle.conduct.specs.Session.{Session, is_up, refusal_of}
use Rattle.conduct.specs.Sound.{sound}
use Rattle.conduct.specs.Rules.{next_number, move_of}
use Rattle.conduct.specs.Step.{answer, step}
use Rattle.conduct.specs.History.{codes_of, Entry, entry, history, session_after, ticks, bearing, span, events_in, said, closings, resendings, sayings}
use Rattle.conduct.specs.History.{closing, is_closing, sends_again, acknowledges, about, gives}
use Rattle.conduct.specs.History.Bearing.{ticked, acknowledged, unreadable_message}
use Rattle.conduct.specs.Followed.{first_code, most_resendings, most_ticks, ticks_since_sent, sending_left, due_for, due_in, Followed, EveryPushIsFollowed}
use Rattle.conduct.specs.declared.Event.{Event}
use Rattle.conduct.specs.declared.Push.{Push}
use Rattle.conduct.specs.declared.Pushed.{Pushed}
use Rattle.conduct.specs.declared.Pushed.TheVariants.{Response, Advisory}
use Rattle.conduct.specs.declared.Fate.{Fate}
use Rattle.conduct.specs.declared.Fate.TheVariants.{Keep, Again, Close}
use Rattle.conduct.specs.declared.Site.{Site}
use Rattle.conduct.specs.declared.Call.{Call}
use Rattle.conduct.specs.declared.Call.TheVariants as calls
use Rattle.conduct.specs.declared.Terms.{Terms}
use Rattle.conduct.proofs.Lists.{flat_append}
use Rattle.conduct.proofs.Good.{good}
use Rattle.conduct.proofs.Reached.{sound_step, reached_is_sound}
use Rattle.conduct.proofs.Refused.{refused_by}
use Rattle.conduct.proofs.Sites.{site_stays, site_kept}
use Rattle.conduct.proofs.Sweeps.{mine, telling}
use Rattle.conduct.proofs.Calls.{call_left, call_told}
use Rattle.conduct.proofs.Places.{place, at_front, at_place}
use Rattle.conduct.proofs.Given.{accepted_sent}
use Rattle.conduct.proofs.Story.{Life, is_resending, chance, rounds, due}
use Rattle.conduct.proofs.Story.{closed_once, closed_last, resent_few, closed_in_time, all_handled, acknowledged_by, resent_by}
use Rattle.conduct.proofs.Story.Life.{so_far, gone, turned}
use Rattle.conduct.proofs.Turns.{Turn, turn, ticks_borne}
use Rattle.conduct.proofs.Sayings.{those_said, some_said, closing_told, resending_told, acknowledging_told}
use Rattle.conduct.proofs.Still.{Still, still}
use Rattle.conduct.proofs.Due.{is_last_tick, said_after, twentieth, left_as}

-- ---- where no push has the number n, nothing is said of it until it is given

module _ (n : ℕ) (s : Session) (c : Call) (none : mine n s.pushes ≡ []) where
  says_nothing : those (about n) (entry s c).events ≡ []
  says_nothing = go (refusal_of s c) refl
    where
      go : (k : ℕ) → refusal_of s c ≡ k → those (about n) (answer k s c).events ≡ []
      go zero z = call_told n s c z ∙ rw none
      go (suc k) z = refl

  opens_none : some (gives n) (entry s c).events ≡ false → mine n (step s c).next.pushes ≡ []
  opens_none = go (refusal_of s c)
    where
      go : (k : ℕ) → some (gives n) (answer k s c).events ≡ false → mine n (answer k s c).next.pushes ≡ []
      go zero h = call_left n s (move_of s c) h ∙ rw none
      go (suc k) h = none

silent : (n : ℕ) (cs : List Call) (s : Session) → mine n s.pushes ≡ [] → said n (history s cs) ≡ []
silent n [] s none = refl
silent n (c ∷ cs) s none = go (some (gives n) (entry s c).events) refl (λ e. silent n cs (step s c).next e)
  where
    go : (b : Bool) → some (gives n) (entry s c).events ≡ b
        → (mine n (step s c).next.pushes ≡ [] → said n (history (step s c).next cs) ≡ [])
        → those (about n) (events_in (cond b [] (entry s c ∷ span n (history (step s c).next cs)))) ≡ []
    go true e ih = refl
    go false e ih =
        flat_append (only (about n)) (entry s c).events (events_in (span n (history (step s c).next cs)))
        ∙ ap₂ ◌++◌ (says_nothing n s c none) (ih (opens_none n s c none e))

-- ---- a history is the life of the one open push with the number n

abbrev LifeIn : Terms → ℕ → List Push → Session → List Call → Type 0
LifeIn terms n ms s cs = Life terms ms (said n (history s cs)) (ticks (history s cs)) (mine n (session_after s cs).pushes)

life : (terms : Terms) (n : ℕ) (cs : List Call) (s : Session) (q : Push) → terms_of s.site ≡ terms → sound s ≡ true → mine n s.pushes ≡ q ∷ []
    → LifeIn terms n (q ∷ []) s cs
life terms n [] s q same ok alone = rw alone (so_far (q ∷ []))
life terms n (c ∷ cs) s q same ok alone =
    let t : T terms = subst T same (turn n q s ok alone c) in
    let next : Session = (step s c).next in
    onward t (later t.fate t.kept (λ p e. life terms n cs next p (ap terms_of (site_stays s c) ∙ same) (sound_step s c ok) e))
  where
    T : Terms → Type 0
    T k = Turn k n q (is_up (entry s c).state) (bearing n (entry s c)) (entry s c).events (mine n (step s c).next.pushes)

    later : (f : Fate) → mine n (step s c).next.pushes ≡ kept_by f
        → ((p : Push) → mine n (step s c).next.pushes ≡ p ∷ [] → LifeIn terms n (p ∷ []) (step s c).next cs)
        → LifeIn terms n (kept_by f) (step s c).next cs
    later (Keep p) e ih = ih p e
    later (Again p a) e ih = ih p e
    later (Close a) e ih = rw (silent n cs (step s c).next e) (gone _ _)

    onward : (t : T terms) → LifeIn terms n (kept_by t.fate) (step s c).next cs → LifeIn terms n (q ∷ []) s (c ∷ cs)
    onward t l =
        rw (
          ticks_borne n (entry s c) (history (step s c).next cs),
          t.ungiven,
          flat_append (only (about n)) (entry s c).events (events_in (span n (history (step s c).next cs))),
          t.told,
        )
        (turned (bearing n (entry s c)) q t.fate _ _ _ t.is l)

-- ---- a push that was just accepted

resendings_of : (terms : Terms) (what : Pushed) (n h : ℕ) → chance terms (opened what n h) ≡ most_resendings terms.resends what
resendings_of terms Response n h = omega arith
resendings_of terms Advisory n h = refl

rounds_of_twenty : (more : ℕ) → rounds 20 more ≡ 20 * (more + 1)
rounds_of_twenty zero = refl
rounds_of_twenty (suc more) = omega (arith, rounds_of_twenty more)

ticks_of_lem : (terms : Terms) (what : Pushed) (n h : ℕ) → terms.ticks ≡ 20 → due terms (opened what n h) ≡ most_ticks terms.resends what
ticks_of_lem terms what n h twenty =
    rw (twenty, rounds_of_twenty (chance terms (opened what n h))) (omega (arith, resendings_of terms what n h))

module _ (what : Pushed) (n h : ℕ) (s : Session) (ok : sound s ≡ true) (alone : mine n s.pushes ≡ opened what n h ∷ []) where
  its_life : (cs : List Call) → LifeIn (terms_of s.site) n (opened what n h ∷ []) s cs
  its_life cs = life (terms_of s.site) n cs s (opened what n h) refl ok alone

  closings_are : (cs : List Call) → closings n (history s cs) ≡ those is_closing (said n (history s cs))
  closings_are cs = those_said n closing closing_told (events_in (span n (history s cs)))

  resendings_are : (cs : List Call) → resendings n (history s cs) ≡ those is_resending (said n (history s cs))
  resendings_are cs = those_said n (λ (code : ℕ). eqb code 5) resending_told (events_in (span n (history s cs)))

  -- an entry before which it is not closed
  module _ (cs : List Call) (c : Call) (unclosed : closings n (history s cs) ≡ []) where
    abbrev there : Session
    there = session_after s cs

    abbrev here : Entry
    here = entry there c

    still_open : Still n s cs (opened what n h)
    still_open = still n cs s (opened what n h) ok alone (omega arith) unclosed

    its_turn : Turn (terms_of there.site) n still_open.push (is_up here.state) (bearing n here) here.events (mine n (step there c).next.pushes)
    its_turn = turn n still_open.push there (reached_is_sound s cs ok) still_open.alone c

    said_here : (test : ℕ → Bool) → ((code : ℕ) → test code ≡ true → telling code ≡ true)
        → some (λ (e : Event). test e.code && eqb e.number n) here.events
        ≡ some (λ (e : Event). test e.code) (told_by its_turn.fate)
    said_here test tells = some_said n test tells here.events ∙ ap (some (λ (e : Event). test e.code)) its_turn.told

    acknowledged_here : (some (acknowledges n) here.events ≡ true → bearing n here ≡ acknowledged ∷ [])
        × (bearing n here ≡ acknowledged ∷ [] → some (acknowledges n) here.events ≡ true)
    acknowledged_here =
        let e = said_here (λ (code : ℕ). eqb code 9) acknowledging_told in
        let by = acknowledged_by its_turn.is in
        (λ a. by.0 (sym e ∙ a), λ b. e ∙ by.1 b)

    resent_here : some (sends_again n) here.events ≡ true
        → ((bearing n here ≡ ticked ∷ []) × (ticks_since_sent n (history s cs) + 1 ≡ 20)) ⊎ (bearing n here ≡ unreadable_message ∷ [])
    resent_here a =
        ⊎_elim (λ b. inl (b.0, omega (arith, b.1, still_open.young, still_open.aged))) (λ b. inr b)
        (resent_by its_turn.is (sym (said_here (λ (code : ℕ). eqb code 5) resending_told) ∙ a))

    -- what is due, by the history and by the push that is open
    exactly_here : sayings n here ≡ due_in s.site.resends what n (history s cs) here
    exactly_here =
        let q : Push = still_open.push in
        let terms : Terms = terms_of there.site in
        let same : there.site.resends ≡ s.site.resends = ap (λ (site : Site). site.resends) (site_kept s cs) in
        let few : there.site.resends ≤ 3 = leb-true _ 3 (good {s = there} (reached_is_sound s cs ok)).resends_is in
        let left : may_go_again terms q ≡ sending_left s.site.resends what n (history s cs) =
        left_as terms q what (length (resendings n (history s cs))) still_open.kind still_open.sendings few
        ∙ ap (λ (k : ℕ). ltb (length (resendings n (history s cs))) (most_resendings k what)) same
        in
        let last : is_last_tick terms q ≡ eqb (ticks_since_sent n (history s cs) + 1) 20 =
        twentieth terms q refl still_open.young ∙ ap (λ (k : ℕ). eqb (k + 1) 20) still_open.aged
        in
        ap codes_of (its_turn.told ∙ ap told_by its_turn.just)
        ∙ (said_after (is_up here.state) terms q (bearing n here)
        ∙ ap₂ (λ (l t : Bool). cond (is_up here.state) (due_for l t (bearing n here)) (12 ∷ [])) left last)

  closed_by : (cs : List Call) → most_ticks s.site.resends what ≤ ticks (history s cs) → length (closings n (history s cs)) ≡ 1
  closed_by cs t = rw (closings_are cs) (closed_in_time (its_life cs) (omega arith) (rw (ticks_of_lem (terms_of s.site) what n h refl) t))

  followed : (cs : List Call) → Followed s.site.resends what n h (history s cs)
  followed cs =
      record {
        once = rw (closings_are cs) (closed_once (its_life cs));
        last_word = closed_last (its_life cs);
        resent = rw (resendings_are cs, ← resendings_of (terms_of s.site) what n h) (resent_few (its_life cs));
        in_time = at_front cs s _ closed_by;
        as_acknowledged = at_place cs s _ acknowledged_here;
        resent_when = at_place cs s _ resent_here;
        exactly = at_place cs s _ exactly_here;
        unshared = at_place cs s _ (λ ds d o. (its_turn ds d o).ungiven);
        handled = all_handled (its_life cs);
      }

-- ---- the theorem

abbrev FollowedFrom : ℕ → Pushed → ℕ → Session → Call → Type 0
FollowedFrom most what h t d =
    (n : ℕ) × ((step t d).events ≡ record { code = first_code what; number = n; detail = h } ∷ [])
    × ((es : List Call) → Followed most what n h (history (step t d).next es))

given_followed : (most : ℕ) (t : Session) (what : Pushed) (h : ℕ) → t.site.resends ≡ most → sound t ≡ true → refusal_of t (calls.Push what h) ≡ 0
    → FollowedFrom most what h t (calls.Push what h)
given_followed most t what h same ok z =
    let sent = accepted_sent t what h ok z in
    let after : Session = (step t (calls.Push what h)).next in
    let kept : after.site.resends ≡ most = ap (λ (site : Site). site.resends) (site_stays t (calls.Push what h)) ∙ same in (
      next_number t,
      sent.says,
      λ es. subst (λ (k : ℕ). Followed k what (next_number t) h (history after es)) kept
          (followed what (next_number t) h after (sound_step t (calls.Push what h) ok) sent.alone es),
    )

pub every_push_is_followed : EveryPushIsFollowed
every_push_is_followed s cs before rest x what h ok e c z =
    let q = place cs s before rest x e in
    let t : Session = session_after s q.0 in
    let d : q.1 ≡ calls.Push what h = sym (ap (λ (y : Entry). y.call) q.4) ∙ c in
    let a : refusal_of t q.1 ≡ 0 = sym (refused_by t q.1) ∙ (sym (ap (λ (y : Entry). y.refusal) q.4) ∙ z) in
    let kept : t.site.resends ≡ s.site.resends = ap (λ (site : Site). site.resends) (site_kept s q.0) in
    let f : FollowedFrom s.site.resends what h t q.1 =
    rw d (given_followed s.site.resends t what h kept (reached_is_sound s q.0 ok) (rw d at a))
    in
    (f.0, ap (λ (y : Entry). y.events) q.4 ∙ f.1, subst⁻¹ (λ (ys : List Entry). Followed s.site.resends what f.0 h ys) q.5 (f.2 q.2))
