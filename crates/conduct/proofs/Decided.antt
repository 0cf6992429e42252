-- As long as the session stands, what is said of a push is the tale of what bears on it, and nothing else says anything of it.
-- Assumes nothing.
use mathlib.Core.Path.{◌≡◌, refl, sym, ap, ap₂, subst, subst⁻¹, ◌∙◌}
use mathlib.Core.Bool.{Bool, true, false, cond}
use mathlib.Core.List.{List, [], ◌∷◌, ◌++◌, map}
use Prim.Native.Nat.{ℕ, zero, suc, ◌≤◌}
use native.Mathlib.Omega.{arith}
use lib.Dec.{eqb, eqb-suc-zero}
use lib.ListN.{length}
use Rattle.std.proofs.lemmas.Bool.{and_parts}
use Rattle.std.proofs.lemmas.Bool.Decides.{nat_tests}
use Rattle.message.proofs.Laws.{on_either}
use Rattle.conduct.specs.Lists.{flat, those, some, all}
use Rattle.conduct.specs.Pushes.{terms_of, opened, kept_by, told_by}
use Rattle.conduct.specs.Session.{Session, is_up, refusal_of}
use Rattle.conduct.specs.Sound.{sound}
use Rattle.conduct.specs.Rules.{move_of}
use Rattle.conduct.specs.Step.{answer, step}
use Rattle.conduct.specs.History.{codes_of, Entry, entry, history, session_after, accepted, about, gives, span, sayings}
use Rattle.conduct.specs.History.{Bearing, call_bearing, bearing}
use Rattle.conduct.specs.Decided.{Standing, bearings, sayings_of, DecidedByBearings, OthersSayNothing}
use Rattle.conduct.specs.declared.Push.{Push}
use Rattle.conduct.specs.declared.Pushed.{Pushed}
use Rattle.conduct.specs.declared.Event.{Event}
use Rattle.conduct.specs.declared.Call.{Call}
use Rattle.conduct.specs.declared.Call.TheVariants as calls
use Rattle.conduct.specs.declared.Terms.{Terms}
use Rattle.conduct.proofs.Lists.{all_append, flat_nothing}
use Rattle.conduct.proofs.Sweeps.{mine}
use Rattle.conduct.proofs.Calls.{call_told, call_left}
use Rattle.conduct.proofs.Places.{front, place}
use Rattle.conduct.proofs.Given.{said_sent}
use Rattle.conduct.proofs.Reached.{sound_step, reached_is_sound}
use Rattle.conduct.proofs.Sites.{site_stays, site_kept}
use Rattle.conduct.proofs.Turns.{few_call}
use Rattle.conduct.proofs.Bearings.{fate_in, tale, same_tale, borne}

-- ---- a call bears on a push in one way at most

abbrev Few : List Bearing → Type 0
Few bs = length bs ≤ 1

few : (n : ℕ) (x : Entry) → Few (bearing n x)
few n x = on_either Few (accepted x) (few_call n x.call).0 (omega arith)

-- ---- one call

abbrev told_in : Terms → List Bearing → List Push → List Event
told_in terms bs ms = flat (λ (p : Push). told_by (fate_in terms bs p)) ms

abbrev kept_in : Terms → List Bearing → List Push → List Push
kept_in terms bs ms = flat (λ (p : Push). kept_by (fate_in terms bs p)) ms

-- where nothing bears on them
none_told : (terms : Terms) (ms : List Push) → told_in terms [] ms ≡ []
none_told terms ms = flat_nothing (λ (p : Push). told_by (fate_in terms [] p)) (λ p. refl) ms

all_kept : (terms : Terms) (ms : List Push) → kept_in terms [] ms ≡ ms
all_kept terms [] = refl
all_kept terms (p ∷ ms) = ap (λ (ps : List Push). p ∷ ps) (all_kept terms ms)

-- a tale begins with what is said in a call that bears on the pushes, and goes on with what that leaves of them
tale_on : (terms : Terms) (bs : List Bearing) → Few bs → (codes : List ℕ) (rest : List (List ℕ)) (ms ms' : List Push) (more : List Bearing)
    → codes ≡ codes_of (told_in terms bs ms) → ms' ≡ kept_in terms bs ms → rest ≡ tale terms ms' more
    → map (λ (b : Bearing). codes) bs ++ rest ≡ tale terms ms (bs ++ more)
tale_on terms [] few codes rest ms ms' more told kept ih = ih ∙ ap (λ (ps : List Push). tale terms ps more) (kept ∙ all_kept terms ms)
tale_on terms (b ∷ []) few codes rest ms ms' more told kept ih = ap₂ ◌∷◌ told (ih ∙ ap (λ (ps : List Push). tale terms ps more) kept)
tale_on terms (b ∷ b' ∷ bs) few codes rest ms ms' more told kept ih = absurd (omega arith)

-- where the session is up and stays up, what a call says of n and leaves of it is told by what it is to n
module _ (n : ℕ) (s : Session) (c : Call)
    (ok : sound s ≡ true) (up : is_up s.state ≡ true) (stays : is_up (entry s c).state ≡ true)
  where
    abbrev ms : List Push
    ms = mine n s.pushes

    entry_told : sayings n (entry s c) ≡ codes_of (told_in (terms_of s.site) (bearing n (entry s c)) ms)
    entry_told = go (refusal_of s c) refl stays
      where
        go : (k : ℕ) → refusal_of s c ≡ k → is_up (answer k s c).next.state ≡ true
            → codes_of (those (about n) (answer k s c).events)
            ≡ codes_of (told_in (terms_of s.site) (cond (eqb (answer k s c).refusal 0) (call_bearing n c) []) ms)
        go zero z u = ap codes_of (call_told n s c z ∙ borne told_by n c s ok up u)
        go (suc k) z u = rw (eqb-suc-zero k, none_told (terms_of s.site) ms)

    entry_left : some (gives n) (entry s c).events ≡ false → mine n (step s c).next.pushes ≡ kept_in (terms_of s.site) (bearing n (entry s c)) ms
    entry_left = go (refusal_of s c) stays
      where
        go : (k : ℕ) → is_up (answer k s c).next.state ≡ true → some (gives n) (answer k s c).events ≡ false
            → mine n (answer k s c).next.pushes ≡ kept_in (terms_of s.site) (cond (eqb (answer k s c).refusal 0) (call_bearing n c) []) ms
        go zero u ungiven = call_left n s (move_of s c) ungiven ∙ borne kept_by n c s ok up u
        go (suc k) u ungiven = rw (eqb-suc-zero k) (sym (all_kept (terms_of s.site) ms))

    entry_quiet : bearing n (entry s c) ≡ [] → sayings n (entry s c) ≡ []
    entry_quiet e =
        entry_told
        ∙ ap (λ (bs : List Bearing). codes_of (told_in (terms_of s.site) bs ms)) e
        ∙ ap codes_of (none_told (terms_of s.site) ms)

-- ---- a history in which the session stands

abbrev up_at : Entry → Bool
up_at x = is_up x.state

abbrev Stands : List Entry → Type 0
Stands xs = all up_at xs ≡ true

-- where the entries up to the next that gives n are all of them, none gives it
span_whole : (n : ℕ) (x : Entry) (xs : List Entry) → span n (x ∷ xs) ≡ x ∷ xs → (some (gives n) x.events ≡ false) × (span n xs ≡ xs)
span_whole n x xs e = grind (arith, nat_tests)

-- what is said of the pushes ms with the number n
abbrev Told : Terms → ℕ → List Entry → List Push → Type 0
Told terms n xs ms = Stands xs → span n xs ≡ xs → sayings_of n xs ≡ tale terms ms (bearings n xs)

tale_told : (terms : Terms) (n : ℕ) (cs : List Call) (s : Session) → terms_of s.site ≡ terms → sound s ≡ true → is_up s.state ≡ true
    → Told terms n (history s cs) (mine n s.pushes)
tale_told terms n [] s same ok up st own = refl
tale_told terms n (c ∷ cs) s same ok up st own =
    let stood = and_parts (is_up (entry s c).state) _ st in
    let ungiven = span_whole n (entry s c) (history (step s c).next cs) own in
    let told : sayings n (entry s c) ≡ codes_of (told_in terms (bearing n (entry s c)) (mine n s.pushes)) =
    subst (λ (j : Terms). sayings n (entry s c) ≡ codes_of (told_in j (bearing n (entry s c)) (mine n s.pushes))) same
    (entry_told n s c ok up stood.0)
    in
    let left : mine n (step s c).next.pushes ≡ kept_in terms (bearing n (entry s c)) (mine n s.pushes) =
    subst (λ (j : Terms). mine n (step s c).next.pushes ≡ kept_in j (bearing n (entry s c)) (mine n s.pushes)) same
    (entry_left n s c ok up stood.0 ungiven.0)
    in
    tale_on terms (bearing n (entry s c)) (few n (entry s c)) (sayings n (entry s c)) _ (mine n s.pushes) _ _ told left
    (tale_told terms n cs (step s c).next (ap terms_of (site_stays s c) ∙ same) (sound_step s c ok) stood.0 stood.1 ungiven.1)

stands_after : (cs : List Call) (s : Session) → is_up s.state ≡ true → Stands (history s cs) → is_up (session_after s cs).state ≡ true
stands_after [] s up st = up
stands_after (c ∷ cs) s up st =
    let stood = and_parts (is_up (entry s c).state) _ st in
    stands_after cs (step s c).next stood.0 stood.1

-- ---- an accepted push

-- the terms of a site with so many resends
abbrev having : ℕ → Terms
having most = record { ticks = 20; resends = most }

-- the session after its acceptance
record Begun (what : Pushed) (terms : Terms) (n : ℕ) (after : List Entry) : Type 0 where
  session : Session
  made : List Call
  handle : ℕ
  is_sound : sound session ≡ true
  its_terms : terms_of session.site ≡ terms
  is_up_lem : is_up session.state ≡ true
  alone : mine n session.pushes ≡ opened what n handle ∷ []
  is_history : after ≡ history session made

begun : (what : Pushed) (most n : ℕ) (after : List Entry) → Standing what most n after → Begun what (having most) n after
begun what most n after st =
    let q = place st.made st.session st.before (after ++ st.later) st.push st.is_history in
    let s : Session = session_after st.session q.0 in
    let ok : sound s ≡ true = reached_is_sound st.session q.0 st.is_sound in
    let c : q.1 ≡ calls.Push what st.handle = sym (ap (λ (y : Entry). y.call) q.4) ∙ st.is_push in
    let says = sym (ap (λ (y : Entry). y.events) q.4) ∙ st.is_accepted in
    let sent = said_sent s what st.handle n ok (rw c at says) in
    let r = front q.2 (step s q.1).next after st.later (sym q.5) in
    record {
      session = (step s (calls.Push what st.handle)).next;
      made = r.0;
      handle = st.handle;
      is_sound = sound_step s (calls.Push what st.handle) ok;
      its_terms = ap terms_of (site_stays s (calls.Push what st.handle) ∙ site_kept st.session q.0) ∙ ap having st.its_resends;
      is_up_lem = sent.is_up_lem;
      alone = sent.alone;
      is_history = r.1 ∙ ap (λ (d : Call). history (step s d).next r.0) c;
    }

-- so what is said of it is the tale of a push that was just accepted
its_tale : (what : Pushed) (most n : ℕ) (after : List Entry) → Standing what most n after
    → (h : ℕ) × (sayings_of n after ≡ tale (having most) (opened what n h ∷ []) (bearings n after))
its_tale what most n after st =
    let b = begun what most n after st in
    let xs : List Entry = history b.session b.made in
    let told : Told (having most) n xs (opened what n b.handle ∷ []) =
    subst (Told (having most) n xs) b.alone (tale_told (having most) n b.made b.session b.its_terms b.is_sound b.is_up_lem)
    in
    (b.handle, subst⁻¹ (λ (ys : List Entry). Told (having most) n ys (opened what n b.handle ∷ [])) b.is_history told st.stands st.ungiven)

pub decided_by_bearings : DecidedByBearings
decided_by_bearings what most n n' a a' s s' same =
    let t = its_tale what most n a s in
    let t' = its_tale what most n' a' s' in
    t.1
    ∙ (same_tale (having most) (bearings n a) what 1 0 n n' t.0 t'.0
    ∙ (ap (tale (having most) (opened what n' t'.0 ∷ [])) same ∙ sym t'.1))

pub others_say_nothing : OthersSayNothing
others_say_nothing what most n a b x st =
    let o = begun what most n (a ++ x ∷ b) st in
    let q = place o.made o.session a b x (sym o.is_history) in
    let stood = and_parts (all up_at a) _ (sym (all_append up_at a (x ∷ b)) ∙ st.stands) in
    let s : Session = session_after o.session q.0 in
    let ok : sound s ≡ true = reached_is_sound o.session q.0 o.is_sound in
    let up : is_up s.state ≡ true = stands_after q.0 o.session o.is_up_lem (rw q.3 at stood.0) in
    subst⁻¹ (λ (y : Entry). up_at y ≡ true → bearing n y ≡ [] → sayings n y ≡ []) q.4 (entry_quiet n s q.1 ok up)
    (and_parts (up_at x) _ stood.1).0
