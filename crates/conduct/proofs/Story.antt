-- The life of one push: what can become of it in a call, by what bears on it, and what is said of it and left of it over many. Each law is
-- first of one turn and then of a life; no session is looked at. Assumes nothing.
use mathlib.Core.Path.{◌≡◌, refl, sym, ap, ◌∙◌}
use mathlib.Core.Bool.{Bool, true, false, cond, or-false}
use mathlib.Core.List.{List, [], ◌∷◌, ◌++◌}
use mathlib.Core.Logic.{◌⊎◌, inl, inr}
use Prim.Native.Nat.{ℕ, zero, suc, ◌+◌, ◌-◌, ◌≤◌, ◌<◌}
use native.Mathlib.Omega.{arith}
use lib.Dec.{leb, eqb}
use lib.ListN.{length, length-append}
use borrow.Author.Tests.{eq-eqb, ne_eqb, eqb-true, leb-true}
use Rattle.std.proofs.lemmas.Bool.{and_from, and_parts, both_ways}
use Rattle.conduct.specs.Lists.{only, those, some, all}
use Rattle.conduct.specs.Pushes.{event_of, older, sent_again, is_response, may_go_again, kept_by, told_by}
use Rattle.conduct.specs.History.{closing, is_closing, Bearing}
use Rattle.conduct.specs.History.Bearing.{ticked, acknowledged, unreadable_message, advised}
use Rattle.conduct.specs.declared.Event.{Event}
use Rattle.conduct.specs.declared.Push.{Push}
use Rattle.conduct.specs.declared.Fate.{Fate}
use Rattle.conduct.specs.declared.Fate.TheVariants.{Keep, Again, Close}
use Rattle.conduct.specs.declared.Terms.{Terms}
use Rattle.conduct.proofs.Lists.{flat_append}

-- ---- turns and lives

-- what can become of the push q in a call that bears on it so, under these terms
pub data Turned (terms : Terms) (bs : List Bearing) (q : Push) : Fate → Type 0 where
  stays : bs ≡ [] → Turned terms bs q (Keep q)
  ages : bs ≡ ticked ∷ [] → q.age + 1 < terms.ticks → Turned terms bs q (Keep (older q))
  again : ((bs ≡ ticked ∷ []) × (terms.ticks ≤ q.age + 1)) ⊎ (bs ≡ unreadable_message ∷ []) → may_go_again terms q ≡ true
      → Turned terms bs q (Again (sent_again q) (event_of 5 q))
  closes : (code : ℕ) → closing code ≡ true → (code ≡ 9 → bs ≡ acknowledged ∷ []) → (bs ≡ acknowledged ∷ [] → code ≡ 9)
      → Turned terms bs q (Close (event_of code q))

-- a tick, as a number
abbrev pub tick_in : List Bearing → ℕ
tick_in [] = 0
tick_in (ticked ∷ bs) = 1
tick_in (acknowledged ∷ bs) = 0
tick_in (unreadable_message ∷ bs) = 0
tick_in (advised ∷ bs) = 0

-- Of none or one push: what is said, how many ticks there are, and what is left. Of a push that is closed nothing more is said, and
-- another may have its number later.
pub data Life (terms : Terms) : List Push → List Event → ℕ → List Push → Type 0 where
  so_far : (ms : List Push) → Life terms ms [] 0 ms
  gone : (t : ℕ) (rest : List Push) → Life terms [] [] t rest
  turned : (bs : List Bearing) (q : Push) (f : Fate) (es : List Event) (t : ℕ) (rest : List Push)
      → Turned terms bs q f → Life terms (kept_by f) es t rest → Life terms (q ∷ []) (told_by f ++ es) (tick_in bs + t) rest

abbrev pub is_resending : Event → Bool
is_resending e = eqb e.code 5

closing_no_resending : (code : ℕ) → closing code ≡ true → eqb code 5 ≡ false
closing_no_resending code c = ne_eqb code 5 (λ e. omega (arith, leb-true 9 code (and_parts (leb 9 code) _ c).0))

-- ---- how often something is said

abbrev total : (Push → ℕ) → List Push → ℕ
total w [] = 0
total w (p ∷ ps) = w p + total w ps

-- where a push can pay for what is said of it
module _ (terms : Terms) (test : Event → Bool) (w : Push → ℕ)
    (pays : (bs : List Bearing) (q : Push) (f : Fate) → Turned terms bs q f → length (those test (told_by f)) + total w (kept_by f) ≤ w q)
  where
    life_pays : {ms : List Push} {es : List Event} {t : ℕ} {rest : List Push} → Life terms ms es t rest → length (those test es) ≤ total w ms
    life_pays (so_far ms) = omega arith
    life_pays (gone t rest) = omega arith
    life_pays (turned bs q f es t rest h l) =
        rw (flat_append (only test) (told_by f) es) (simp length-append (omega (arith, pays bs q f h, life_pays l)))

-- it is closed, or it is left
abbrev once : Push → ℕ
once q = 1

close_or_left : (terms : Terms) (bs : List Bearing) (q : Push) (f : Fate) → Turned terms bs q f → length (those is_closing (told_by f)) + total once (kept_by f) ≡ 1
close_or_left terms bs q f (stays e) = refl
close_or_left terms bs q f (ages e l) = refl
close_or_left terms bs q f (again e o) = refl
close_or_left terms bs q f (closes code c a b) = rw c

-- how often it can be sent again
abbrev pub chance : Terms → Push → ℕ
chance terms q = cond (is_response q.what) (terms.resends + 1 - q.sent) 0

again_less : (terms : Terms) (q : Push) → may_go_again terms q ≡ true → suc (chance terms (sent_again q)) ≡ chance terms q
again_less terms q o =
    let b = and_parts (is_response q.what) _ o in
    rw b.0 (omega (arith, leb-true q.sent terms.resends (and_parts (leb q.sent terms.resends) _ b.1).0))

again_pays : (terms : Terms) (bs : List Bearing) (q : Push) (f : Fate) → Turned terms bs q f
    → length (those is_resending (told_by f)) + total (chance terms) (kept_by f) ≤ chance terms q
again_pays terms bs q f (stays e) = omega arith
again_pays terms bs q f (ages e l) = omega arith
again_pays terms bs q f (again e o) = omega (arith, again_less terms q o)
again_pays terms bs q f (closes code c a b) = rw (closing_no_resending code c) (omega arith)

-- ---- of a push that is closed nothing more is said

none_holds_one : {A : Type 0} (a b : List A) (e : A) → [] ≡ a ++ e ∷ b → ⊥
none_holds_one a b e h = omega (arith, ap length h, length-append a (e ∷ b))

nothing_said : {terms : Terms} {ms : List Push} {es : List Event} {t : ℕ} {rest : List Push} → Life terms ms es t rest → ms ≡ [] → es ≡ []
nothing_said (so_far ms) none = refl
nothing_said (gone t rest) none = refl
nothing_said (turned bs q f es t rest h l) none = absurd (let z : ◌≡◌ {A = ℕ} 1 0 = ap length none in omega arith)

life_ends : {terms : Terms} {ms : List Push} {es : List Event} {t : ℕ} {rest : List Push} → Life terms ms es t rest
    → (a b : List Event) (e : Event) → es ≡ a ++ e ∷ b → is_closing e ≡ true → b ≡ []
life_ends (so_far ms) a b e h c = absurd (none_holds_one a b e h)
life_ends (gone t rest) a b e h c = absurd (none_holds_one a b e h)
life_ends {terms} (turned bs q f es t rest u l) a b e h c = go f u (λ a h. life_ends l a b e h c) (λ none. nothing_said l none) a h
  where
    go : (f : Fate) → Turned terms bs q f → ((a : List Event) → es ≡ a ++ e ∷ b → b ≡ []) → (kept_by f ≡ [] → es ≡ [])
        → (a : List Event) → told_by f ++ es ≡ a ++ e ∷ b → b ≡ []
    go f (stays x) ih silent a h = ih a h
    go f (ages x m) ih silent a h = ih a h
    go f (again x o) ih silent [] h = absurd (both_ways _ (let same : event_of 5 q ≡ e = cc in ap is_closing (sym same)) c)
    go f (again x o) ih silent (y ∷ a) h = ih a (cc)
    go f (closes code x y z) ih silent [] h = let same : es ≡ b = cc in sym same ∙ silent refl
    go f (closes code x y z) ih silent (w ∷ a) h = absurd (none_holds_one a b e (sym (silent refl) ∙ cc))

-- ---- time

-- the ticks of the last sending and of so many before it
abbrev pub rounds : ℕ → ℕ → ℕ
rounds ticks zero = ticks
rounds ticks (suc more) = ticks + rounds ticks more

rounds_first : (ticks more : ℕ) → ticks ≤ rounds ticks more
rounds_first ticks zero = omega arith
rounds_first ticks (suc more) = omega arith

-- the ticks by which a push is closed at the latest
abbrev pub due : Terms → Push → ℕ
due terms q = rounds terms.ticks (chance terms q) - q.age

tick_or_none : (bs : List Bearing) → tick_in bs ≤ 1
tick_or_none [] = omega arith
tick_or_none (ticked ∷ bs) = omega arith
tick_or_none (acknowledged ∷ bs) = omega arith
tick_or_none (unreadable_message ∷ bs) = omega arith
tick_or_none (advised ∷ bs) = omega arith

abbrev Young : Terms → List Push → Type 0
Young terms [] = Unit {0}
Young terms (q ∷ qs) = (q.age < terms.ticks) × Young terms qs

due_positive : (terms : Terms) (q : Push) → q.age < terms.ticks → 0 < due terms q
due_positive terms q y = omega (arith, rounds_first terms.ticks (chance terms q))

due_falls : (terms : Terms) (bs : List Bearing) (q : Push) (f : Fate) → Turned terms bs q f → q.age < terms.ticks
    → (tick_in bs + total (due terms) (kept_by f) ≤ due terms q) × Young terms (kept_by f)
due_falls terms bs q f (stays e) y = (rw e (omega arith), (y, tt))
due_falls terms bs q f (ages e l) y =
    let next : due terms (older q) ≡ rounds terms.ticks (chance terms q) - (q.age + 1) = refl in
    (rw e (omega (arith, next, rounds_first terms.ticks (chance terms q))), (omega arith, tt))
due_falls terms bs q f (again e o) y =
    let shorter : terms.ticks + rounds terms.ticks (chance terms (sent_again q)) ≡ rounds terms.ticks (chance terms q) =
    ap (rounds terms.ticks) (again_less terms q o)
    in
    (omega (arith, tick_or_none bs, shorter), (omega arith, tt))
due_falls terms bs q f (closes code c a b) y = (omega (arith, tick_or_none bs, due_positive terms q y), tt)

life_due : {terms : Terms} {ms : List Push} {es : List Event} {t : ℕ} {rest : List Push} → Life terms ms es t rest → Young terms ms → total (due terms) ms ≤ t
    → length (those is_closing es) ≡ total once ms
life_due (so_far []) y h = refl
life_due {terms} (so_far (q ∷ qs)) y h = absurd (omega (arith, due_positive terms q y.0))
life_due (gone t rest) y h = refl
life_due {terms} (turned bs q f es t rest h l) y d =
    let falls = due_falls terms bs q f h y.0 in
    rw (flat_append (only is_closing) (told_by f) es)
    (simp length-append (omega (arith, close_or_left terms bs q f h, life_due l falls.1 (omega arith))))

-- ---- what is said has the handle

abbrev has : ℕ → Push → Bool
has h q = eqb q.handle h

abbrev carries : ℕ → Event → Bool
carries h e = eqb e.detail h

life_handled : {terms : Terms} {ms : List Push} {es : List Event} {t : ℕ} {rest : List Push} (h : ℕ) → Life terms ms es t rest
    → all (has h) ms ≡ true → all (carries h) es ≡ true
life_handled h (so_far ms) a = refl
life_handled h (gone t rest) a = refl
life_handled {terms} h (turned bs q f es t rest u l) a = go f u (λ a. life_handled h l a)
  where
    own : has h q ≡ true
    own = (and_parts (has h q) true a).0

    go : (f : Fate) → Turned terms bs q f → (all (has h) (kept_by f) ≡ true → all (carries h) es ≡ true) → all (carries h) (told_by f ++ es) ≡ true
    go f (stays e) ih = ih a
    go f (ages e l) ih = ih a
    go f (again e o) ih = and_from _ _ own (ih a)
    go f (closes code c x y) ih = and_from _ _ own (ih refl)

-- ---- what is said in one turn

abbrev is_acknowledging : Event → Bool
is_acknowledging e = eqb e.code 9

pub acknowledged_by : {terms : Terms} {bs : List Bearing} {q : Push} {f : Fate} → Turned terms bs q f
    → (some is_acknowledging (told_by f) ≡ true → bs ≡ acknowledged ∷ []) × (bs ≡ acknowledged ∷ [] → some is_acknowledging (told_by f) ≡ true)
acknowledged_by (stays e) = (λ h. cc, λ i. cc)
acknowledged_by (ages e l) = (λ h. cc, λ i. cc)
acknowledged_by (again (inl e) o) = (λ h. cc, λ i. cc e.0)
acknowledged_by (again (inr e) o) = (λ h. cc, λ i. cc)
acknowledged_by (closes code c a b) = (λ h. a (eqb-true code 9 (sym (or-false (eqb code 9)) ∙ h)), λ i. rw (b i))

pub resent_by : {terms : Terms} {bs : List Bearing} {q : Push} {f : Fate} → Turned terms bs q f → some is_resending (told_by f) ≡ true
    → ((bs ≡ ticked ∷ []) × (terms.ticks ≤ q.age + 1)) ⊎ (bs ≡ unreadable_message ∷ [])
resent_by (stays e) h = cc
resent_by (ages e l) h = cc
resent_by (again (inl e) o) h = inl e
resent_by (again (inr e) o) h = inr e
resent_by (closes code c a b) h = absurd (both_ways _ (rw (closing_no_resending code c)) h)

-- ---- the life of one push

module _ {terms : Terms} {q : Push} {es : List Event} {t : ℕ} {rest : List Push} (l : Life terms (q ∷ []) es t rest) where
  pub closed_once : length (those is_closing es) ≤ 1
  closed_once = life_pays terms is_closing once (λ bs p f h. omega (arith, close_or_left terms bs p f h)) l

  pub closed_last : (a b : List Event) (e : Event) → es ≡ a ++ e ∷ b → is_closing e ≡ true → b ≡ []
  closed_last = life_ends l

  pub resent_few : length (those is_resending es) ≤ chance terms q
  resent_few = omega (arith, life_pays terms is_resending (chance terms) (again_pays terms) l)

  pub closed_in_time : q.age < terms.ticks → due terms q ≤ t → length (those is_closing es) ≡ 1
  closed_in_time y h = life_due l (y, tt) (omega arith)

  pub all_handled : all (carries q.handle) es ≡ true
  all_handled = life_handled q.handle l (rw (eq-eqb q.handle q.handle refl))
