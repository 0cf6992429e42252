-- Behind an opening of refusal 12 no message can end. Assumes nothing.
use Prim.Native.Nat.{ℕ, suc, ◌+◌}
use mathlib.Core.Path.{◌≡◌, refl, sym, ◌∙◌, ap}
use mathlib.Core.Logic.{◌⊎◌, ⊎_elim}
use mathlib.Core.Bool.{Bool, true, false, not, ◌&&◌, ◌||◌}
use mathlib.Core.List.{List, [], ◌∷◌}
use native.Mathlib.Numerals.{add-one}
use native.Mathlib.Decide.{dec_lt}
use native.Mathlib.Omega.{arith}
use lib.ListN.{length, drop, drop_of_length-le}
use lib.Seq.{drop-cons}
use borrow.Author.Tests.{eqb-true, not-true, not-false}
use Rattle.std.proofs.lemmas.Bool.{and_parts, or_cases}
use Rattle.message.specs.Class.{class_of, is_space}
use Rattle.message.specs.Reading.{is_whole, is, byte_at, has, word_at}
use Rattle.message.specs.Markup.{doctype, cdata, declares}
use Rattle.message.specs.Limits.{Limits}
use Rattle.message.proofs.Laws.{has_in, has_lt, has_byte, one_yes}
use Rattle.message.proofs.Runs.{byte_is, word_begins}
use Rattle.message.proofs.Automaton.{exact, exactly, Ground, first, before, behind, inside, State, ground, opened, expect, declared, version_word, comment, dead, goes, only, step, steps}
use Rattle.message.proofs.Dues.{is_first, may_end, opening}
use Rattle.message.proofs.Ways.{steps_on, steps_dead}

module _ (s : List ℕ) (st : State) (ends : may_end st ≡ true) where
  -- From a state in which no message ends, over a byte that passes a test: what fails it is dead.
  passes : (from : State) (test : ℕ → Bool) (i : ℕ) → may_end from ≡ false → ((x : ℕ) → test x ≡ false → step from x ≡ dead)
      → steps from (drop i s) ≡ goes st → has test s i ≡ true
  unfolding steps
  passes from test i unended dies h =
      elim (dec_lt i (length s)) [
        | yes within ↦ has_in test s i within ∙ go (test (byte_at s i)) refl (sym (ap (steps from) (drop-cons s i 0 within)) ∙ h)
        | no out ↦ absurd (short (sym (ap (steps from) (drop_of_length-le s {i = i} (omega arith))) ∙ h))
      ]
    where
      go : (t : Bool) → test (byte_at s i) ≡ t → steps from (byte_at s i ∷ drop (suc i) s) ≡ goes st → t ≡ true
      go true e q = refl
      go false e q =
          let y : dead ≡ goes st = sym (steps_dead from (byte_at s i) (drop (suc i) s) (dies (byte_at s i) e)) ∙ q in
          cc

      short : goes from ≡ goes st → ⊥
      short q =
          let e : from ≡ st = cc in
          let y : false ≡ true = sym unended ∙ ap may_end e ∙ ends in
          cc

  -- and where a byte takes the machine on
  on : (from next : State) (test : ℕ → Bool) (i : ℕ) → has test s i ≡ true → ((x : ℕ) → test x ≡ true → step from x ≡ goes next)
      → steps from (drop i s) ≡ goes st → steps next (drop (i + 1) s) ≡ goes st
  on from next test i has-it goes_on h =
      rw add-one
      (sym (steps_on from (byte_at s i) (drop (suc i) s) (goes_on (byte_at s i) (has_byte test s i has-it)))
      ∙ sym (ap (steps from) (drop-cons s i 0 (has_lt test s i has-it))) ∙ h)

  -- one byte that has to come, and the state behind it
  must : (from next : State) (test : ℕ → Bool) (i : ℕ) → may_end from ≡ false → ((x : ℕ) → step from x ≡ only (test x) next)
      → steps from (drop i s) ≡ goes st → (has test s i ≡ true) × (steps next (drop (i + 1) s) ≡ goes st)
  must from next test i unended is-step h =
      let there = passes from test i unended (λ x e. is-step x ∙ rw e) h in
      (there, on from next test i there (λ x e. is-step x ∙ rw e) h)

  -- `<!`, and a `-` has to come
  bang_on : (g : Ground) (i : ℕ) → has (is 33) s i ≡ true → steps (opened g) (drop i s) ≡ goes st → has (is 45) s (i + 1) ≡ true
  bang_on g i bang h = passes (comment g) (is 45) (i + 1) refl (λ x e. rw e) (on (opened g) (comment g) (is 33) i bang (λ x e. rw e) h)

  -- `<?` at the start is the declaration
  question_declares : has (is 60) s 0 ≡ true → has (is 63) s 1 ≡ true → steps (opened first) (drop 1 s) ≡ goes st
      → declares class_of s ≡ true
  unfolding word_at
  question_declares opens question h =
      let behind_it = on (opened first) (expect (exact 120) (exactly (109 ∷ 108 ∷ [])) declared) (is 63) 1 question
      (λ x e. rw (eqb-true x 63 e)) h in
      let x = must (expect (exact 120) _ declared) (expect (exact 109) (exactly (108 ∷ [])) declared) (is 120) 2 refl
      (λ x. refl) behind_it in
      let m = must (expect (exact 109) _ declared) (expect (exact 108) [] declared) (is 109) 3 refl (λ x. refl) x.1 in
      let l = must (expect (exact 108) [] declared) declared (is 108) 4 refl (λ x. refl) m.1 in
      let space = must declared version_word (is_space class_of) 5 refl (λ x. refl) l.1 in
      rw (
        one_yes (is 60) s 0 opens,
        one_yes (is 63) s 1 question,
        one_yes (is 120) s 2 x.0,
        one_yes (is 109) s 3 m.0,
        one_yes (is 108) s 4 l.0,
      )
      space.0

  -- elsewhere it is dead
  question_dead : (g : Ground) (i : ℕ) → has (is 63) s i ≡ true → ((x : ℕ) → is 63 x ≡ true → step (opened g) x ≡ dead)
      → steps (opened g) (drop i s) ≡ goes st → ⊥
  question_dead g i question dies h =
      let other = has_byte (λ x. not (is 63 x)) s i
      (passes (opened g) (λ x. not (is 63 x)) i refl (λ x e. dies x (not-false (is 63 x) e)) h) in
      let z : true ≡ false = sym (has_byte (is 63) s i question) ∙ not-true (is 63 (byte_at s i)) other in
      cc

  question_ends : (g : Ground) (p : ℕ) → (is_first g ≡ true → p ≡ 0) → has (is 60) s p ≡ true → has (is 63) s (p + 1) ≡ true
      → (is_first g && declares class_of s) ≡ false → steps (opened g) (drop (p + 1) s) ≡ goes st → ⊥
  unfolding class_of
  question_ends first p start opens question undeclared h =
      let at : p ≡ 0 = start refl in
      let z : true ≡ false = sym (question_declares (rw at at opens) (rw at at question) (rw at at h)) ∙ undeclared in
      cc
  question_ends before p start opens question undeclared h = question_dead before (p + 1) question (λ x e. rw (eqb-true x 63 e)) h
  question_ends behind p start opens question undeclared h = question_dead behind (p + 1) question (λ x e. rw (eqb-true x 63 e)) h
  question_ends (inside b v o) p start opens question undeclared h =
      question_dead (inside b v o) (p + 1) question (λ x e. rw (eqb-true x 63 e)) h

-- ---- the openings

-- two bytes at one place
two_bytes : (b c : ℕ) (s : List ℕ) (i : ℕ) → has (is b) s i ≡ true → has (is c) s i ≡ true → b ≡ c
two_bytes b c s i h k = sym (byte_is b s i h) ∙ byte_is c s i k

pub opening_ends : (l : Limits) (s : List ℕ) (g : Ground) (p : ℕ) → (is_first g ≡ true → p ≡ 0) → has (is 60) s p ≡ true
    → opening l s g p ≡ true
    → (st : State) → steps (ground g) (drop p s) ≡ goes st → may_end st ≡ true → ⊥
opening_ends l s g p start opens op st h ends =
    ⊎_elim
    (λ e. bang (and_parts (has (is 33) s (p + 1)) _ e).0
    (or_cases (is_whole (word_at doctype s (p + 2))) _ (and_parts (has (is 33) s (p + 1)) _ e).1))
    (λ e. question_ends s st ends g p start opens (and_parts (has (is 63) s (p + 1)) _ e).0
    (not-true _ (and_parts (has (is 63) s (p + 1)) _ e).1)
    behind_it)
    (or_cases (has (is 33) s (p + 1) && (is_whole (word_at doctype s (p + 2)) || is_whole (word_at cdata s (p + 2)))) _ op)
  where
    behind_it : steps (opened g) (drop (p + 1) s) ≡ goes st
    behind_it = on s st ends (ground g) (opened g) (is 60) p opens (λ x e. rw e) h

    bang : has (is 33) s (p + 1) ≡ true → (is_whole (word_at doctype s (p + 2)) ≡ true) ⊎ (is_whole (word_at cdata s (p + 2)) ≡ true) → ⊥
    bang e words =
        let two : p + 1 + 1 ≡ p + 2 = omega arith in
        let hyphen : has (is 45) s (p + 2) ≡ true = ap (has (is 45) s) (sym two) ∙ bang_on s st ends g (p + 1) e behind_it in
        ⊎_elim
        (λ w. let z : ◌≡◌ {A = ℕ} 45 68 = two_bytes 45 68 s (p + 2) hyphen (word_begins 68 _ s (p + 2) w) in omega arith)
        (λ w. let z : ◌≡◌ {A = ℕ} 45 91 = two_bytes 45 91 s (p + 2) hyphen (word_begins 91 _ s (p + 2) w) in omega arith) words
