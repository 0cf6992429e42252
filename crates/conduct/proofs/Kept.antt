-- What a sweep leaves open: no more pushes than there were, each in the bounds of specs/Sound, and with no number that was not there.
-- Assumes nothing.
use mathlib.Core.Path.{◌≡◌, refl, ◌∙◌}
use mathlib.Core.Bool.{true, false}
use mathlib.Core.List.{List, [], ◌∷◌, ◌++◌}
use Prim.Native.Nat.{ℕ, ◌≤◌, ◌+◌}
use native.Mathlib.Omega.{arith}
use lib.Dec.{eqb, leb}
use lib.ListN.{length}
use borrow.Author.Tests.{le-leb, leb-true, ltb-true, lt-ltb}
use Rattle.conduct.specs.declared.Pushed.{Pushed}
use Rattle.conduct.specs.declared.Pushed.TheVariants.{Response, Advisory}
use Rattle.std.proofs.lemmas.Bool.{and_from, or_parts, and_parts, cond_both}
use Rattle.std.proofs.lemmas.Bool.Decides.{nat_tests}
use Rattle.message.proofs.Laws.{on_either}
use Rattle.conduct.specs.Lists.{flat, all, among, distinct}
use Rattle.conduct.specs.Pushes.{again_or, fate_of, kept_by, keeps, is_response, may_go_again}
use Rattle.conduct.specs.Session.{push_numbers}
use Rattle.conduct.specs.Sound.{sound_push, most_sendings}
use Rattle.conduct.specs.declared.Push.{Push}
use Rattle.conduct.specs.declared.Sweep.{Sweep}
use Rattle.conduct.specs.declared.Sweep.TheVariants.{Still, Older, Lost, Acknowledged, UnreadableMessage, Advised}
use Rattle.conduct.specs.declared.Fate.{Fate}
use Rattle.conduct.specs.declared.Fate.TheVariants.{Keep, Again, Close}
use Rattle.conduct.specs.declared.Terms.{Terms}
use Rattle.conduct.proofs.Lists.{all_flat, all_implies, length_flat_le, among_append, distinct_head}
use Rattle.conduct.proofs.Lists.{distinct_tail, distinct_cons}

-- ---- how many

pub kept_few : (terms : Terms) (sweep : Sweep) (ps : List Push) → length (flat (keeps terms sweep) ps) ≤ length ps
kept_few terms sweep ps = length_flat_le (keeps terms sweep) (λ p. one (fate_of terms sweep p)) ps
  where
    one : (f : Fate) → length (kept_by f) ≤ 1
    one (Keep q) = omega arith
    one (Again q e) = omega arith
    one (Close e) = omega arith

-- ---- their sendings and ages

abbrev SoundFate : Terms → Fate → Type 0
SoundFate terms f = all (sound_push terms) (kept_by f) ≡ true

response_again : (terms : Terms) (sent : ℕ) (what : Pushed) → is_response what ≡ true → leb sent terms.resends ≡ true
    → leb (sent + 1) (most_sendings terms what) ≡ true
response_again terms sent Response e l = le-leb (sent + 1) (terms.resends + 1) (omega (arith, leb-true sent terms.resends l))
response_again terms sent Advisory e l = cc

-- one that is sent again is less old than the one before, which was young enough
again_or_sound : (terms : Terms) (code : ℕ) (p : Push) → sound_push terms p ≡ true → SoundFate terms (again_or terms code p)
again_or_sound terms code p h =
    cond_both (may_go_again terms p) _ _ (SoundFate terms)
    (λ e.
    let response = and_parts (is_response p.what) _ e in
    let few = (and_parts (leb p.sent terms.resends) _ response.1).0 in
    let young = ltb-true p.age terms.ticks (and_parts (leb p.sent (most_sendings terms p.what)) _ (and_parts (leb 1 p.sent) _ h).1).1 in
    and_from _ _
    (and_from _ _ (le-leb 1 (p.sent + 1) (omega arith))
    (and_from _ _ (response_again terms p.sent p.what response.0 few) (lt-ltb 0 terms.ticks (omega arith))))
    refl)
    (λ e. refl)

fate_sound : (terms : Terms) (sweep : Sweep) (p : Push) → sound_push terms p ≡ true → SoundFate terms (fate_of terms sweep p)
fate_sound terms Still p h = and_from _ _ h refl
fate_sound terms Older p h = grind (arith, nat_tests)
fate_sound terms Lost p h = refl
fate_sound terms (Acknowledged n) p h = on_either (SoundFate terms) (eqb p.number n) refl (and_from _ _ h refl)
fate_sound terms (UnreadableMessage n) p h = on_either (SoundFate terms) (eqb p.number n) (again_or_sound terms _ p h) (and_from _ _ h refl)
fate_sound terms (Advised n) p h = on_either (SoundFate terms) (eqb p.number n) refl (and_from _ _ h refl)

pub kept_sound : (terms : Terms) (sweep : Sweep) (ps : List Push) → all (sound_push terms) ps ≡ true → all (sound_push terms) (flat (keeps terms sweep) ps) ≡ true
kept_sound terms sweep ps h =
    all_flat (sound_push terms) (keeps terms sweep) ps
    ∙ all_implies (sound_push terms) (λ (p : Push). all (sound_push terms) (keeps terms sweep p)) (λ p e. fate_sound terms sweep p e) ps h

-- ---- their numbers

module _ (terms : Terms) (sweep : Sweep) where
  -- what one push leaves has its number
  kept_cases : (p : Push) (ps : List Push) (P : List ℕ → Type 0)
      → P (push_numbers (flat (keeps terms sweep) ps)) → P (p.number ∷ push_numbers (flat (keeps terms sweep) ps))
      → P (push_numbers (flat (keeps terms sweep) (p ∷ ps)))
  kept_cases p ps P without with_it = grind (arith, nat_tests)

  kept_among : (n : ℕ) (ps : List Push) → among n (push_numbers ps) ≡ false → among n (push_numbers (flat (keeps terms sweep) ps)) ≡ false
  kept_among n [] h = refl
  kept_among n (p ∷ ps) h =
      let e = or_parts (eqb n p.number) (among n (push_numbers ps)) h in
      let ih = kept_among n ps e.1 in
      kept_cases p ps (λ (ns : List ℕ). among n ns ≡ false) ih (rw e.0 ih)

  kept_distinct : (ps : List Push) → distinct (push_numbers ps) ≡ true → distinct (push_numbers (flat (keeps terms sweep) ps)) ≡ true
  kept_distinct [] h = refl
  kept_distinct (p ∷ ps) h =
      let ih = kept_distinct ps (distinct_tail p.number (push_numbers ps) h) in
      let other = kept_among p.number ps (distinct_head p.number (push_numbers ps) h) in
      kept_cases p ps (λ (ns : List ℕ). distinct ns ≡ true) ih (distinct_cons p.number (push_numbers (flat (keeps terms sweep) ps)) other ih)

  -- the same with other numbers in front
  pub kept_unheld : (n : ℕ) (xs : List ℕ) (ps : List Push) → among n (xs ++ push_numbers ps) ≡ false
      → among n (xs ++ push_numbers (flat (keeps terms sweep) ps)) ≡ false
  kept_unheld n xs ps h =
      let e = or_parts (among n xs) (among n (push_numbers ps)) (rw (among_append n xs (push_numbers ps)) at h) in
      among_append n xs (push_numbers (flat (keeps terms sweep) ps)) ∙ rw e.0 (kept_among n ps e.1)

  pub kept_differ : (xs : List ℕ) (ps : List Push) → distinct (xs ++ push_numbers ps) ≡ true
      → distinct (xs ++ push_numbers (flat (keeps terms sweep) ps)) ≡ true
  kept_differ [] ps h = kept_distinct ps h
  kept_differ (x ∷ xs) ps h =
      distinct_cons x (xs ++ push_numbers (flat (keeps terms sweep) ps))
      (kept_unheld x xs ps (distinct_head x (xs ++ push_numbers ps) h))
      (kept_differ xs ps (distinct_tail x (xs ++ push_numbers ps) h))
