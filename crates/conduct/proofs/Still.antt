-- A push that is not closed is still open: of the kind it was, sent once more for each time that it was sent again, and as many ticks old as there were since its
-- last sending. Assumes nothing.
use mathlib.Core.Path.{◌≡◌, refl, sym, ap, ◌∙◌}
use mathlib.Core.Bool.{true, cond}
use mathlib.Core.List.{List, [], ◌∷◌, ◌++◌, append-eq-nil_iff}
use Prim.Native.Nat.{ℕ, ◌+◌, ◌<◌}
use native.Mathlib.Omega.{arith}
use lib.Dec.{eqb}
use lib.ListN.{length, length-append}
use Rattle.conduct.specs.Lists.{only, those, some}
use Rattle.conduct.specs.Pushes.{terms_of, event_of, older, sent_again, kept_by, told_by}
use Rattle.conduct.specs.Session.{Session}
use Rattle.conduct.specs.Sound.{sound}
use Rattle.conduct.specs.Step.{step}
use Rattle.conduct.specs.History.{Entry, entry, history, session_after, ticks, bearing, span, events_in, closings, resendings}
use Rattle.conduct.specs.History.{closing, is_closing, closes as closesIt, sends_again, about}
use Rattle.conduct.specs.Followed.{ticks_on}
use Rattle.conduct.specs.declared.Push.{Push}
use Rattle.conduct.specs.declared.Fate.{Fate}
use Rattle.conduct.specs.declared.Fate.TheVariants.{Keep, Again}
use Rattle.conduct.specs.declared.Call.{Call}
use Rattle.conduct.proofs.Lists.{flat_append}
use Rattle.conduct.proofs.Reached.{sound_step}
use Rattle.conduct.proofs.Sweeps.{mine}
use Rattle.conduct.proofs.Sayings.{those_said, some_said, closing_told, resending_told}
use Rattle.conduct.proofs.Story.{Turned, tick_in, is_resending}
use Rattle.conduct.proofs.Story.Turned.{stays, ages, again, closes}
use Rattle.conduct.proofs.Turns.{turn, ticks_borne}

pub record Still (n : ℕ) (s : Session) (cs : List Call) (q : Push) : Type 0 where
  pub push : Push
  pub alone : mine n (session_after s cs).pushes ≡ push ∷ []
  pub kind : push.what ≡ q.what
  pub sendings : push.sent ≡ q.sent + length (resendings n (history s cs))
  pub young : push.age < 20
  pub aged : push.age ≡ ticks_on n q.age (history s cs)

pub still : (n : ℕ) (cs : List Call) (s : Session) (q : Push) → sound s ≡ true → mine n s.pushes ≡ q ∷ [] → q.age < 20
    → closings n (history s cs) ≡ [] → Still n s cs q
still n [] s q ok alone y none = record { push = q; alone = alone; kind = refl; sendings = omega arith; young = y; aged = refl }
still n (c ∷ cs) s q ok alone y none =
    let t = turn n q s ok alone c in
    let whole : those (closesIt n) (x.events ++ events_in (span n xs)) ≡ [] = rw t.ungiven at none in
    let parts = append-eq-nil_iff.0 (sym (flat_append (only (closesIt n)) x.events (events_in (span n xs))) ∙ whole) in
    let more : length (resendings n (x ∷ xs)) ≡ length (those (sends_again n) x.events) + length (resendings n xs) =
    rw (t.ungiven, flat_append (only (sends_again n)) x.events (events_in (span n xs))) (length-append (those (sends_again n) x.events) (resendings n xs))
    in
    go t.fate t.is t.told t.kept parts.0 more (λ p e l. still n cs (step s c).next p (sound_step s c ok) e l parts.1)
  where
    x : Entry
    x = entry s c

    xs : List Entry
    xs = history (step s c).next cs

    Counted : Type 0
    Counted = length (resendings n (x ∷ xs)) ≡ length (those (sends_again n) x.events) + length (resendings n xs)

    resent_as : (f : Fate) → those (about n) x.events ≡ told_by f → some (sends_again n) x.events ≡ some is_resending (told_by f)
    resent_as f told = some_said n (λ (code : ℕ). eqb code 5) resending_told x.events ∙ ap (some is_resending) told

    resent_count : (f : Fate) → those (about n) x.events ≡ told_by f → length (those (sends_again n) x.events) ≡ length (those is_resending (told_by f))
    resent_count f told = ap length (those_said n (λ (code : ℕ). eqb code 5) resending_told x.events ∙ ap (those is_resending) told)

    onward : (p : Push) → p.what ≡ q.what → p.sent ≡ q.sent + length (those (sends_again n) x.events)
        → p.age ≡ cond (some (sends_again n) x.events) 0 (q.age + ticks (x ∷ [])) → Counted → Still n (step s c).next cs p → Still n s (c ∷ cs) q
    onward p kind sent age more l =
        record {
          push = l.push;
          alone = l.alone;
          kind = l.kind ∙ kind;
          sendings = omega (arith, l.sendings, sent, more);
          young = l.young;
          aged = l.aged ∙ ap (λ (k : ℕ). ticks_on n k xs) age;
        }

    go : (f : Fate) → Turned (terms_of s.site) (bearing n x) q f → those (about n) x.events ≡ told_by f → mine n (step s c).next.pushes ≡ kept_by f
        → those (closesIt n) x.events ≡ [] → Counted
        → ((p : Push) → mine n (step s c).next.pushes ≡ p ∷ [] → p.age < 20 → Still n (step s c).next cs p)
        → Still n s (c ∷ cs) q
    go f (stays e) told kept shut more ih =
        onward q refl (omega (arith, resent_count (Keep q) told)) (rw (resent_as (Keep q) told) (omega (arith, ticks_borne n x [], ap tick_in e))) more (ih q kept y)
    go f (ages e l) told kept shut more ih =
        onward (older q) refl (omega (arith, resent_count (Keep (older q)) told))
        (rw (resent_as (Keep (older q)) told) (omega (arith, ticks_borne n x [], ap tick_in e))) more (ih (older q) kept (omega arith))
    go f (again e o) told kept shut more ih =
        let fate : Fate = Again (sent_again q) (event_of 5 q) in
        onward (sent_again q) refl (omega (arith, resent_count fate told)) (rw (resent_as fate told)) more (ih (sent_again q) kept (omega arith))
    go f (closes code d a b) told kept shut more ih =
        let one = sym (those_said n closing closing_told x.events ∙ ap (those is_closing) told) ∙ shut in
        cc (rw d at one)
