-- What a SessionOpenResponse does in Opening, by its status and the conduct, and in other states: specs/Conducts. Assumes nothing.
use mathlib.Core.Path.{◌≡◌, refl, sym, ap, ◌∙◌, subst⁻¹}
use mathlib.Core.Bool.{Bool, true, false, cond, ◌&&◌, ◌||◌}
use mathlib.Core.List.{List, [], ◌∷◌, ◌++◌}
use Prim.Native.Nat.{ℕ}
use lib.Dec.{eqb}
use Rattle.message.specs.declared.Kind.{Kind}
use Rattle.message.specs.declared.Kind.TheVariants as kinds
use Rattle.message.specs.declared.Message.{Message}
use Rattle.message.specs.declared.Status.{Status}
use Rattle.message.specs.declared.Status.TheVariants as statuses
use Rattle.conduct.specs.Numbers.{after, next_free}
use Rattle.conduct.specs.Session.{Session, is_up, is_linked, state_number, refusal_of}
use Rattle.conduct.specs.Lists.{flat}
use Rattle.conduct.specs.Pushes.{terms_of, keeps, tells}
use Rattle.conduct.specs.Table.{action_of}
use Rattle.conduct.specs.Rules.{next_number, answered, status_by, counted_in}
use Rattle.conduct.specs.Rules.{acted}
use Rattle.conduct.specs.Step.{Answered, answer, moved_by, events_by}
use Rattle.conduct.specs.Conducts.{is_old, is_ok, is_redundant_session, is_open_response, AnswersOpening, OpeningAnswered, OutOfPlaceElsewhere}
use Rattle.conduct.specs.declared.Conduct.{Conduct}
use Rattle.conduct.specs.declared.Conduct.TheVariants.{New, Old}
use Rattle.conduct.specs.declared.Site.{Site}
use Rattle.conduct.specs.declared.State.{State}
use Rattle.conduct.specs.declared.State.TheVariants.{Waiting, Connecting, Opening, Confirming, Up, Stopped}
use Rattle.conduct.specs.declared.Call.TheVariants as calls
use Rattle.conduct.specs.declared.Action.{Action}
use Rattle.conduct.specs.declared.Action.TheVariants as actions
use Rattle.conduct.specs.declared.Sweep.TheVariants as sweeps
use Rattle.conduct.specs.declared.Push.{Push}
use Rattle.conduct.specs.declared.Event.{Event}
use Rattle.conduct.specs.declared.Move.{Move}
use Rattle.conduct.specs.declared.Terms.{Terms}
use Rattle.conduct.proofs.Lists.{flat_nothing}
use Rattle.conduct.proofs.Refused.{refused_by, accepted_fits}
use Rattle.conduct.proofs.Good.{good}

-- ---- a SessionOpenResponse in Opening

module _ (site : Site) (last age : ℕ) where
  abbrev opening : Session
  opening = record { site = site; state = Opening age; pushes = []; last = last }

  -- an accepted call that makes this move
  abbrev moved : Move → Answered
  moved m = record { refusal = 0; next = moved_by opening m; events = events_by opening m }

  abbrev given : Status → Answered
  given status = moved (answered (next_number opening) status)

  abbrev confirming : Answered
  confirming =
      record {
        refusal = 0;
        next = record { site = site; state = Confirming (after last) 0; pushes = []; last = after last };
        events = record { code = 3; number = after last; detail = 0 } ∷ [];
      }

  abbrev waiting : Answered
  waiting =
      record {
        refusal = 0;
        next = record { site = site; state = Waiting 300; pushes = []; last = last };
        events = record { code = 7; number = 0; detail = 0 } ∷ [];
      }

  opened : (given statuses.Ok ≡ confirming) × (given statuses.RedundantSession ≡ confirming)
  unfolding next_free
  opened = (refl, refl)

  opens_by : (k : Conduct) (there : Bool) (status : Status) → (there && (is_ok status || (is_old k && is_redundant_session status))) ≡ true
      → given (counted_in k (cond there status statuses.Other)) ≡ confirming
  opens_by k false status h = cc
  opens_by New true statuses.Ok h = opened.0
  opens_by New true statuses.RedundantSession h = cc
  opens_by New true statuses.Other h = cc
  opens_by Old true statuses.Ok h = opened.0
  opens_by Old true statuses.RedundantSession h = opened.1
  opens_by Old true statuses.Other h = cc

  ends_by : (k : Conduct) (there : Bool) (status : Status) → (there && (is_ok status || (is_old k && is_redundant_session status))) ≡ false
      → given (counted_in k (cond there status statuses.Other)) ≡ waiting
  ends_by New false status h = refl
  ends_by New true statuses.Ok h = cc
  ends_by New true statuses.RedundantSession h = refl
  ends_by New true statuses.Other h = refl
  ends_by Old false status h = refl
  ends_by Old true statuses.Ok h = cc
  ends_by Old true statuses.RedundantSession h = cc
  ends_by Old true statuses.Other h = refl

  answers_opening : (m : Message) → is_open_response m.kind ≡ true → AnswersOpening opening m
  answers_opening m h =
      record {
        opens = λ o. by_kind m.kind h ∙ opens_by site.conduct m.status.there m.status.meaning o;
        ends = λ o. by_kind m.kind h ∙ ends_by site.conduct m.status.there m.status.meaning o;
      }
    where
      by_kind : (kind : Kind) → is_open_response kind ≡ true
          → moved (acted opening m (action_of (Opening age) kind)) ≡ given (counted_in site.conduct (status_by m.status))
      by_kind kinds.SessionOpenRequest h = cc
      by_kind kinds.SessionOpenResponse h = refl
      by_kind kinds.SessionOk h = cc
      by_kind kinds.Ok h = cc
      by_kind kinds.Advisory h = cc
      by_kind kinds.Request h = cc
      by_kind kinds.Response h = cc

pub opening_answered : OpeningAnswered
opening_answered s m age ok e h =
    let none = (good {s = s} ok).quiet (ap is_up e) in
    subst⁻¹ (λ (t : Session). AnswersOpening t m)
    (λ i. record { site = s.site; state = e i; pushes = none i; last = s.last })
    (answers_opening s.site s.last age m h)

-- ---- a SessionOpenResponse in another state

elsewhere : (kind : Kind) (state : State) → is_open_response kind ≡ true → is_linked state ≡ true → eqb (state_number state) 3 ≡ false
    → action_of state kind ≡ actions.OutOfPlace
elsewhere kinds.SessionOpenRequest state h l o = cc
elsewhere kinds.SessionOpenResponse (Waiting left) h l o = cc
elsewhere kinds.SessionOpenResponse Connecting h l o = cc
elsewhere kinds.SessionOpenResponse (Opening age) h l o = cc
elsewhere kinds.SessionOpenResponse (Confirming number age) h l o = refl
elsewhere kinds.SessionOpenResponse (Up waits age) h l o = refl
elsewhere kinds.SessionOpenResponse Stopped h l o = cc
elsewhere kinds.SessionOk state h l o = cc
elsewhere kinds.Ok state h l o = cc
elsewhere kinds.Advisory state h l o = cc
elsewhere kinds.Request state h l o = cc
elsewhere kinds.Response state h l o = cc

pub still_kept : (terms : Terms) (ps : List Push) → flat (keeps terms sweeps.Still) ps ++ [] ≡ ps
still_kept terms [] = refl
still_kept terms (p ∷ ps) = ap (◌∷◌ p) (still_kept terms ps)

pub out_of_place_elsewhere : OutOfPlaceElsewhere
out_of_place_elsewhere s m h o a =
    let accepted : refusal_of s (calls.Heard m) ≡ 0 = sym (refused_by s (calls.Heard m)) ∙ a in
    let action = elsewhere m.kind s.state h (accepted_fits s (calls.Heard m) accepted) o in
    ap (λ (n : ℕ). answer n s (calls.Heard m)) accepted
    ∙ (ap (λ (x : Action). record { refusal = 0; next = moved_by s (acted s m x); events = events_by s (acted s m x) }) action ∙ stays)
  where
    event : Event
    event = record { code = 14; number = 0; detail = 0 }

    untold : flat (tells (terms_of s.site) sweeps.Still) s.pushes ++ (event ∷ []) ≡ event ∷ []
    untold = rw (flat_nothing (tells (terms_of s.site) sweeps.Still) (λ p. refl) s.pushes)

    stays : ◌≡◌ {A = Answered}
        (record { refusal = 0; next = moved_by s (acted s m actions.OutOfPlace); events = events_by s (acted s m actions.OutOfPlace) })
        (record { refusal = 0; next = s; events = event ∷ [] })
    stays =
        λ i.
        record {
          refusal = 0;
          next = record { site = s.site; state = s.state; pushes = still_kept (terms_of s.site) s.pushes i; last = s.last };
          events = untold i;
        }
