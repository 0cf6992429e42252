-- Two messages that name numbers, one after the other, in Up: whichever comes first, the same session is left; and where the numbers differ each finds what it
-- names as the other found it. Assumes nothing.
use Rattle.std.specs.Prelude.{Option, None, Some}
use mathlib.Core.Path.{◌≡◌, refl, sym, ap, ◌∙◌, subst}
use mathlib.Core.Bool.{true}
use mathlib.Core.List.{List, [], ◌∷◌}
use Prim.Native.Nat.{ℕ}
use Rattle.std.proofs.lemmas.List.{map-append}
use Rattle.std.proofs.lemmas.Bool.Decides.{nat_tests}
use native.Mathlib.Omega.{arith}
use Rattle.conduct.specs.Lists.{flat, among}
use Rattle.conduct.specs.Pushes.{terms_of, keeps, tells}
use Rattle.conduct.specs.Session.{Session, is_up, awaited_numbers, push_numbers}
use Rattle.conduct.specs.Sound.{sound}
use Rattle.conduct.specs.Step.{Answered, step}
use Rattle.conduct.specs.History.{history, session_after, Bearing}
use Rattle.conduct.specs.Swapped.{Names, EitherLeavesAlike, EitherSaysTheSame}
use Rattle.conduct.specs.declared.Site.{Site}
use Rattle.conduct.specs.declared.Push.{Push}
use Rattle.conduct.specs.declared.Call.{Call}
use Rattle.conduct.specs.declared.Terms.{Terms}
use Rattle.conduct.proofs.Lists.{flat_flat, flat_same, among_append}
use Rattle.conduct.proofs.Good.{good}
use Rattle.conduct.proofs.Reached.{sound_step}
use Rattle.conduct.proofs.Others.{sweep_by, left_by}
use Rattle.conduct.proofs.Named.{up_with}
use Rattle.conduct.proofs.Touched.{waits_beside, says_by, named_step}

-- ---- one push: what is left of it after both

module _ (terms : Terms) (p : Push) where
  abbrev left_by_both : ℕ → Bearing → ℕ → Bearing → List Push
  left_by_both n b k d = left_by terms k d (keeps terms (sweep_by n b) p)

  either_left : (n k : ℕ) (b d : Bearing) → left_by_both n b k d ≡ left_by_both k d n b
  either_left n k b d = grind (arith, nat_tests)

  -- what the second says of it, where they name different ones
  told_behind : (n k : ℕ) (b d : Bearing) → (n ≡ k → ⊥) → flat (tells terms (sweep_by k d)) (keeps terms (sweep_by n b) p) ≡ tells terms (sweep_by k d) p
  told_behind n k b d differ = grind (arith, nat_tests)

  -- whether its number is k is not the other message's business
  named_behind : (n k : ℕ) (b : Bearing) → (n ≡ k → ⊥) → among k (push_numbers (keeps terms (sweep_by n b) p)) ≡ among k (p.number ∷ [])
  named_behind n k b differ = grind (arith, nat_tests)

-- ---- all pushes

module _ (terms : Terms) (n k : ℕ) (b d : Bearing) where
  all_left : (ps : List Push) → left_by terms k d (left_by terms n b ps) ≡ left_by terms n b (left_by terms k d ps)
  all_left ps =
      flat_flat (keeps terms (sweep_by k d)) (keeps terms (sweep_by n b)) ps
      ∙ (flat_same _ _ (λ p. either_left terms p n k b d) ps ∙ sym (flat_flat (keeps terms (sweep_by n b)) (keeps terms (sweep_by k d)) ps))

  all_told : (n ≡ k → ⊥) → (ps : List Push) → flat (tells terms (sweep_by k d)) (left_by terms n b ps) ≡ flat (tells terms (sweep_by k d)) ps
  all_told differ ps =
      flat_flat (tells terms (sweep_by k d)) (keeps terms (sweep_by n b)) ps ∙ flat_same _ _ (λ p. told_behind terms p n k b d differ) ps

all_named : (terms : Terms) (n k : ℕ) (b : Bearing) → (n ≡ k → ⊥) → (ps : List Push) → among k (push_numbers (left_by terms n b ps)) ≡ among k (push_numbers ps)
all_named terms n k b differ [] = refl
all_named terms n k b differ (p ∷ ps) =
    ap (among k) (map-append (λ (q : Push). q.number) (keeps terms (sweep_by n b) p) (left_by terms n b ps))
    ∙ (among_append k (push_numbers (keeps terms (sweep_by n b) p)) (push_numbers (left_by terms n b ps))
    ∙ rw (named_behind terms p n k b differ, all_named terms n k b differ ps) (sym (among_append k (p.number ∷ []) (push_numbers ps))))

-- ---- the open SessionOk

either_waits : (n k : ℕ) (w : Option ℕ) → waits_beside k (waits_beside n w) ≡ waits_beside n (waits_beside k w)
either_waits n k None = refl
either_waits n k (Some m) = grind (arith, nat_tests)

waits_behind : (n k : ℕ) (w : Option ℕ) → (n ≡ k → ⊥) → among k (awaited_numbers (waits_beside n w)) ≡ among k (awaited_numbers w)
waits_behind n k None differ = refl
waits_behind n k (Some m) differ = grind (arith, nat_tests)

-- ---- both

module _ (site : Site) (last : ℕ) (w : Option ℕ) (age : ℕ) (ps : List Push) (a c : Call) (n k : ℕ) (x : Names a n) (y : Names c k)
    (ok : sound (up_with site last w age ps) ≡ true)
  where
    abbrev s : Session
    s = up_with site last w age ps

    abbrev terms : Terms
    terms = terms_of site

    abbrev after : Session
    after = up_with site last (waits_beside n w) age (left_by terms n x.bearing ps)

    first : step s a ≡ record { refusal = 0; next = after; events = says_by terms w ps n x.bearing }
    first = named_step site last w age ps n a x (good {s = s} ok).numbers_are

    sound_after : sound after ≡ true
    sound_after = subst (λ (t : Answered). sound t.next ≡ true) first (sound_step s a ok)

    second : step (step s a).next c
        ≡ record {
          refusal = 0;
          next = up_with site last (waits_beside k (waits_beside n w)) age (left_by terms k y.bearing (left_by terms n x.bearing ps));
          events = says_by terms (waits_beside n w) (left_by terms n x.bearing ps) k y.bearing;
        }
    second =
        ap (λ (t : Answered). step t.next c) first
        ∙ named_step site last (waits_beside n w) age (left_by terms n x.bearing ps) k c y (good {s = after} sound_after).numbers_are

says_behind : (terms : Terms) (w : Option ℕ) (ps : List Push) (n k : ℕ) (b d : Bearing) → (n ≡ k → ⊥)
    → says_by terms (waits_beside n w) (left_by terms n b ps) k d ≡ says_by terms w ps k d
says_behind terms w ps n k b d differ =
    rw (waits_behind n k w differ, all_named terms n k b differ ps, all_told terms n k b d differ ps)

-- of any session that is up
pub in_up_lem : (P : Session → Type 0) (s : Session) → is_up s.state ≡ true
    → ((w : Option ℕ) (age : ℕ) → sound (up_with s.site s.last w age s.pushes) ≡ true → P (up_with s.site s.last w age s.pushes))
    → sound s ≡ true → P s
in_up_lem P s up h = grind (arith, nat_tests)

pub same_session_left : (s : Session) (a c : Call) (n k : ℕ) → sound s ≡ true → is_up s.state ≡ true → Names a n → Names c k
    → session_after s (a ∷ c ∷ []) ≡ session_after s (c ∷ a ∷ [])
same_session_left s a c n k ok up x y =
    in_up_lem (λ (t : Session). session_after t (a ∷ c ∷ []) ≡ session_after t (c ∷ a ∷ [])) s up
    (λ w age ok.
    ap (λ (t : Answered). t.next) (second s.site s.last w age s.pushes a c n k x y ok)
    ∙ ((λ i.
    up_with s.site s.last (either_waits n k w i) age (all_left (terms_of s.site) n k x.bearing y.bearing s.pushes i))
    ∙ ap (λ (t : Answered). t.next) (sym (second s.site s.last w age s.pushes c a k n y x ok))))
    ok

pub either_leaves_alike : EitherLeavesAlike
either_leaves_alike s a c n k ok up x y later = ap (λ (t : Session). history t later) (same_session_left s a c n k ok up x y)

pub either_says_the_same : EitherSaysTheSame
either_says_the_same s a c n k ok up x y differ =
    in_up_lem
    (λ (t : Session).
    ((step t a).refusal ≡ 0) × ((step (step t c).next a).refusal ≡ 0) × ((step (step t c).next a).events ≡ (step t a).events)) s up
    (λ w age ok.
    let alone = first s.site s.last w age s.pushes a c n k x y ok in
    let behind = second s.site s.last w age s.pushes c a k n y x ok in (
      ap (λ (t : Answered). t.refusal) alone,
      ap (λ (t : Answered). t.refusal) behind,
      ap (λ (t : Answered). t.events) behind
          ∙ (says_behind (terms_of s.site) w s.pushes k n y.bearing x.bearing (λ e. differ (sym e)) ∙ ap (λ (t : Answered). t.events) (sym alone)),
    ))
    ok
