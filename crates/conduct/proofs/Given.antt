-- A push that is accepted: it is sent by one event, with the next free number, and is then the one open push with that number.
-- Assumes nothing.
use mathlib.Core.Path.{◌≡◌, refl, sym, ap, subst, ◌∙◌}
use mathlib.Core.Bool.{true}
use mathlib.Core.List.{List, [], ◌∷◌}
use Prim.Native.Nat.{ℕ, zero, suc}
use borrow.Author.Tests.{eq-eqb}
use Rattle.std.proofs.lemmas.Bool.{or_parts}
use Rattle.conduct.specs.Lists.{flat, only, among}
use Rattle.conduct.specs.Pushes.{terms_of, opened, tells, keeps}
use Rattle.conduct.specs.Session.{Session, is_up, push_numbers, session_ok_numbers, refusal_of}
use Rattle.conduct.specs.Sound.{sound}
use Rattle.conduct.specs.Rules.{next_number, move_of}
use Rattle.conduct.specs.Step.{Answered, events_by, moved_by, answer, step}
use Rattle.conduct.specs.Followed.{first_code}
use Rattle.conduct.specs.declared.Pushed.{Pushed}
use Rattle.conduct.specs.declared.Pushed.TheVariants.{Response, Advisory}
use Rattle.conduct.specs.declared.Event.{Event}
use Rattle.conduct.specs.declared.Call.TheVariants as calls
use Rattle.conduct.specs.declared.Sweep.TheVariants.{Still}
use Rattle.conduct.proofs.Lists.{flat_append, flat_nothing, among_append}
use Rattle.conduct.proofs.Good.{good, next_number_free}
use Rattle.conduct.proofs.Refused.{accepted_fits}
use Rattle.conduct.proofs.Sweeps.{is, mine, sweep_kept}
use Rattle.conduct.proofs.Calls.{none_mine}

abbrev first_event : Pushed → ℕ → ℕ → Event
first_event what n h = record { code = first_code what; number = n; detail = h }

give_events : (s : Session) (what : Pushed) (h : ℕ) → events_by s (move_of s (calls.Push what h)) ≡ first_event what (next_number s) h ∷ []
give_events s Response h = rw (flat_nothing (tells (terms_of s.site) Still) (λ p. refl) s.pushes)
give_events s Advisory h = rw (flat_nothing (tells (terms_of s.site) Still) (λ p. refl) s.pushes)

-- none had the number before
none_before : (s : Session) → sound s ≡ true → mine (next_number s) s.pushes ≡ []
none_before s ok =
    let n : ℕ = next_number s in
    let free = among_append n (session_ok_numbers s.state) (push_numbers s.pushes) in
    none_mine n s.pushes (or_parts (among n (session_ok_numbers s.state)) _ (sym free ∙ next_number_free {s = s} (good ok))).1

give_mine : (s : Session) (what : Pushed) (h : ℕ) → sound s ≡ true
    → mine (next_number s) (moved_by s (move_of s (calls.Push what h))).pushes ≡ opened what (next_number s) h ∷ []
give_mine s what h ok =
    let n : ℕ = next_number s in
    flat_append (only (is n)) (flat (keeps (terms_of s.site) Still) s.pushes) (opened what n h ∷ [])
    ∙ rw (sweep_kept n (terms_of s.site) Still s.pushes, none_before s ok, eq-eqb n n refl)

pub record Sent (s : Session) (what : Pushed) (n h : ℕ) : Type 0 where
  pub says : (step s (calls.Push what h)).events ≡ record { code = first_code what; number = n; detail = h } ∷ []
  pub is_up_lem : is_up (step s (calls.Push what h)).next.state ≡ true
  pub alone : mine n (step s (calls.Push what h)).next.pushes ≡ opened what n h ∷ []

pub accepted_sent : (s : Session) (what : Pushed) (h : ℕ) → sound s ≡ true → refusal_of s (calls.Push what h) ≡ 0 → Sent s what (next_number s) h
accepted_sent s what h ok z =
    let now : step s (calls.Push what h) ≡ answer 0 s (calls.Push what h) = ap (λ (k : ℕ). answer k s (calls.Push what h)) z in
    record {
      says = ap (λ (a : Answered). a.events) now ∙ give_events s what h;
      is_up_lem = ap (λ (a : Answered). is_up a.next.state) now ∙ accepted_fits s (calls.Push what h) z;
      alone = ap (λ (a : Answered). mine (next_number s) a.next.pushes) now ∙ give_mine s what h ok;
    }

-- the same from the event alone: a push that says something was accepted
pub said_sent : (s : Session) (what : Pushed) (h n : ℕ) → sound s ≡ true
    → (step s (calls.Push what h)).events ≡ record { code = first_code what; number = n; detail = h } ∷ [] → Sent s what n h
said_sent s what h n ok e = go (refusal_of s (calls.Push what h)) refl e
  where
    go : (k : ℕ) → refusal_of s (calls.Push what h) ≡ k → (answer k s (calls.Push what h)).events ≡ first_event what n h ∷ [] → Sent s what n h
    go zero z e =
        let same : next_number s ≡ n = ap number_of (sym (give_events s what h) ∙ e) in
        subst (λ (m : ℕ). Sent s what m h) same (accepted_sent s what h ok z)
      where
        number_of : List Event → ℕ
        number_of [] = 0
        number_of (x ∷ xs) = x.number
    go (suc k) z e = cc
