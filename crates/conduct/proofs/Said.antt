-- What a call can say, by where it comes from: a parting, an open push, or a remark. Of each, a test that its few codes pass, all its
-- events pass. Assumes nothing.
use mathlib.Core.Path.{◌≡◌, refl, ◌∙◌}
use mathlib.Core.Bool.{Bool, true, false, not}
use mathlib.Core.List.{List, [], ◌∷◌}
use Prim.Native.Nat.{ℕ, ◌≤◌}
use native.Mathlib.Omega.{arith}
use lib.Dec.{eqb}
use lib.ListN.{length}
use borrow.Author.Tests.{not-true}
use Rattle.std.proofs.lemmas.Bool.{and_from, and_parts, or_right}
use Rattle.std.proofs.lemmas.Bool.Decides.{nat_tests}
use Rattle.conduct.specs.Lists.{flat, some, all, among}
use Rattle.conduct.specs.Codes.{sending}
use Rattle.conduct.specs.Numbers.{numbered, last_after, all_numbered}
use Rattle.conduct.specs.Pushes.{told_by, tells, fate_of}
use Rattle.conduct.specs.Step.{noted, parting_notes, remark_notes}
use Rattle.conduct.specs.History.{closing}
use Rattle.conduct.specs.declared.Event.{Event}
use Rattle.conduct.specs.declared.Pushed.{Pushed}
use Rattle.conduct.specs.declared.Push.{Push}
use Rattle.conduct.specs.declared.Sweep.{Sweep}
use Rattle.conduct.specs.declared.Fate.{Fate}
use Rattle.conduct.specs.declared.Fate.TheVariants.{Keep, Again, Close}
use Rattle.conduct.specs.declared.Parting.{Parting}
use Rattle.conduct.specs.declared.Parting.TheVariants as partings
use Rattle.conduct.specs.declared.Remark.{Remark}
use Rattle.conduct.specs.declared.Remark.TheVariants as remarks
use Rattle.conduct.specs.declared.Terms.{Terms}
use Rattle.conduct.proofs.Lists.{all_flat, all_always}
use Rattle.conduct.proofs.Among.{row_among, all_among}
use Rattle.conduct.proofs.Sweeps.{Of, fate_of_lem}
use Rattle.conduct.proofs.Moves.{plain_codes, usual}

-- where all fail a test, none passes it
all_fail : {A : Type 0} (test : A → Bool) (xs : List A) → all (λ (x : A). not (test x)) xs ≡ true → some test xs ≡ false
all_fail test [] h = refl
all_fail test (x ∷ xs) h =
    let b = and_parts (not (test x)) _ h in
    rw (not-true (test x) b.0) (all_fail test xs b.1)

-- ---- open pushes

abbrev pub told_codes : List ℕ
told_codes = 5 ∷ 9 ∷ 10 ∷ 11 ∷ 12 ∷ []

closing_code : (code : ℕ) → closing code ≡ true → among code told_codes ≡ true
closing_code code h = or_right (eqb code 5) _ (row_among 3 9 code ∙ h)

module _ (test : Event → Bool)
    (h : (number detail : ℕ) → all (λ (code : ℕ). test (record { code = code; number = number; detail = detail })) told_codes ≡ true) where
  told_one : (e : Event) → among e.code told_codes ≡ true → test e ≡ true
  told_one e m =
      all_among (λ (code : ℕ). test (record { code = code; number = e.number; detail = e.detail })) told_codes
      (h e.number e.detail) e.code m

  told_fate : (p : Push) (f : Fate) → Of p f → all test (told_by f) ≡ true
  told_fate p (Keep q) o = refl
  told_fate p (Again q e) o = and_from _ _ (told_one e (rw o.2)) refl
  told_fate p (Close e) o = and_from _ _ (told_one e (closing_code e.code o.1)) refl

  pub told_pass : (terms : Terms) (sweep : Sweep) (ps : List Push) → all test (flat (tells terms sweep) ps) ≡ true
  told_pass terms sweep ps =
      all_flat test (tells terms sweep) ps
      ∙ all_always (λ (p : Push). all test (tells terms sweep p)) (λ p. told_fate p (fate_of terms sweep p) (fate_of_lem terms sweep p)) ps

pub told_fails : (test : Event → Bool)
    → ((number detail : ℕ) → all (λ (code : ℕ). not (test (record { code = code; number = number; detail = detail }))) told_codes ≡ true)
    → (terms : Terms) (sweep : Sweep) (ps : List Push) → some test (flat (tells terms sweep) ps) ≡ false
told_fails test h terms sweep ps = all_fail test (flat (tells terms sweep) ps) (told_pass (λ (e : Event). not (test e)) h terms sweep ps)

-- ---- partings

abbrev pub parting_codes : List ℕ
parting_codes = 7 ∷ 18 ∷ 19 ∷ []

module _ (test : Event → Bool) (held : List ℕ)
    (h : (last : ℕ) → all (λ (code : ℕ). test (numbered held last (noted code 0))) parting_codes ≡ true) where
  parting_one : (last code : ℕ) → among code parting_codes ≡ true → test (numbered held last (noted code 0)) ≡ true
  parting_one last code m = all_among (λ (code : ℕ). test (numbered held last (noted code 0))) parting_codes (h last) code m

  pub parting_pass : (parting : Parting) (last : ℕ) → all test (all_numbered held last (parting_notes parting)) ≡ true
  parting_pass partings.Nothing last = refl
  parting_pass partings.Disconnect last = and_from _ _ (parting_one last 7 refl) refl
  parting_pass partings.GoingOut last =
      let then = last_after held last (noted 19 0) in
      and_from _ _ (parting_one last 19 refl) (and_from _ _ (parting_one then 7 refl) refl)
  parting_pass partings.Alert last = grind (arith, nat_tests)

pub parting_fails : (test : Event → Bool) (held : List ℕ)
    → ((last : ℕ) → all (λ (code : ℕ). not (test (numbered held last (noted code 0)))) parting_codes ≡ true)
    → (parting : Parting) (last : ℕ) → some test (all_numbered held last (parting_notes parting)) ≡ false
parting_fails test held h parting last =
    all_fail test (all_numbered held last (parting_notes parting)) (parting_pass (λ (e : Event). not (test e)) held h parting last)

-- ---- remarks, one event at most

pub remark_short : (held : List ℕ) (last : ℕ) (remark : Remark) → length (all_numbered held last (remark_notes remark)) ≤ 1
remark_short held last remarks.Nothing = omega arith
remark_short held last (remarks.Note code detail) = omega arith
remark_short held last (remarks.Send what handle) = omega arith

module _ (test : Event → Bool) (held : List ℕ) (last : ℕ)
    (plain : all (λ (code : ℕ). test (numbered held last (noted code 0))) plain_codes ≡ true)
    (unreadable : (refusal : ℕ) → test (numbered held last (noted 16 refusal)) ≡ true) where
  pub note_pass : (code detail : ℕ) → usual (remarks.Note code detail) ≡ true → test (numbered held last (noted code detail)) ≡ true
  note_pass code detail u = grind (arith, nat_tests)

  pub remark_pass : ((what : Pushed) (handle : ℕ) → test (numbered held last (noted (sending what) handle)) ≡ true)
      → (remark : Remark) → usual remark ≡ true → all test (all_numbered held last (remark_notes remark)) ≡ true
  remark_pass sent remarks.Nothing u = refl
  remark_pass sent (remarks.Note code detail) u = and_from _ _ (note_pass code detail u) refl
  remark_pass sent (remarks.Send what handle) u = and_from _ _ (sent what handle) refl

pub remark_fails : (test : Event → Bool) (held : List ℕ) (last : ℕ)
    → all (λ (code : ℕ). not (test (numbered held last (noted code 0)))) plain_codes ≡ true
    → ((refusal : ℕ) → not (test (numbered held last (noted 16 refusal))) ≡ true)
    → ((what : Pushed) (handle : ℕ) → not (test (numbered held last (noted (sending what) handle))) ≡ true)
    → (remark : Remark) → usual remark ≡ true → some test (all_numbered held last (remark_notes remark)) ≡ false
remark_fails test held last plain unreadable sent remark u =
    all_fail test (all_numbered held last (remark_notes remark))
    (remark_pass (λ (e : Event). not (test e)) held last plain unreadable sent remark u)
