-- Where a message leads, by what the table has for its kind in the state. Assumes nothing.
use Rattle.std.specs.Prelude.{Option, None, Some}
use mathlib.Core.Path.{◌≡◌, refl}
use mathlib.Core.Bool.{Bool, true, false, cond}
use mathlib.Core.Logic.{inl, inr}
use Prim.Native.Nat.{ℕ, ◌-◌}
use native.Mathlib.Omega.{arith}
use borrow.Author.Tests.{eq-eqb}
use Rattle.message.specs.declared.Kind.{Kind}
use Rattle.message.specs.declared.Kind.TheVariants as kinds
use Rattle.message.specs.declared.Message.{Message}
use Rattle.message.specs.declared.Status.{Status}
use Rattle.message.specs.declared.Status.TheVariants as statuses
use Rattle.message.specs.Messages.{kind_number}
use Rattle.conduct.specs.Codes.{advisory_arrived}
use Rattle.conduct.specs.Session.{Session, is_linked}
use Rattle.conduct.specs.Table.{action_at, action_of}
use Rattle.conduct.specs.Rules.{goes, note, answered, status_by, counted_in, advice_by, named_by, acknowledged, advised_about, next_number, acted}
use Rattle.conduct.specs.History.{says_unreadable}
use Rattle.conduct.specs.declared.State.{State}
use Rattle.conduct.specs.declared.State.TheVariants.{Waiting, Connecting, Opening, Confirming, Up, Stopped}
use Rattle.conduct.specs.declared.Action.{Action}
use Rattle.conduct.specs.declared.Action.TheVariants as actions
use Rattle.conduct.proofs.Onward.{From, ok_onward, advisory_onward}
use Rattle.conduct.proofs.Onward.Onward.{same, answers, ends}

module _ (s : Session) (m : Message) where
  acknowledged_onward : m.kind ≡ kinds.Ok → From s m s.state (acknowledged s (named_by m.in_response_to))
  acknowledged_onward k = go m.in_response_to.there refl m.in_response_to.meaning refl
    where
      go : (b : Bool) → m.in_response_to.there ≡ b → (v : Option ℕ) → m.in_response_to.meaning ≡ v
          → From s m s.state (acknowledged s (cond b v None))
      go false e v f = same refl refl
      go true e None f = same refl refl
      go true e (Some n) f =
          ok_onward s m n (inl (rw (k, e, f, eq-eqb n n refl))) s.state

  advised_onward : m.kind ≡ kinds.Advisory → From s m s.state (acted s m actions.Advise)
  advised_onward k = go m.in_relation_to.there refl m.in_relation_to.meaning refl
    where
      unread : Bool
      unread = says_unreadable m

      go : (b : Bool) → m.in_relation_to.there ≡ b → (v : Option ℕ) → m.in_relation_to.meaning ≡ v
          → From s m s.state (cond b (advised_about s (advice_by m.advisory_type) v) (goes s.state (note advisory_arrived)))
      go false e v f = same refl refl
      go true e None f = same refl refl
      go true e (Some n) f =
          advisory_onward s m n (advice_by m.advisory_type) (inr (unread, rw (k, e, f, eq-eqb n n refl))) s.state

  answered_onward : (age : ℕ) (status : Status) → s.state ≡ Opening age → From s m s.state (answered (next_number s) status)
  answered_onward age statuses.Ok e = answers age e refl
  answered_onward age statuses.RedundantSession e = answers age e refl
  answered_onward age statuses.Other e = ends (rw e (omega arith)) refl refl

  -- what the table has to do with the kind and the state
  abbrev pub Placed : Action → Type 0
  Placed actions.OutOfPlace = Unit {0}
  Placed actions.Answer = (age : ℕ) × (s.state ≡ Opening age) × (m.kind ≡ kinds.SessionOpenResponse)
  Placed actions.Acknowledge = m.kind ≡ kinds.Ok
  Placed actions.Advise = m.kind ≡ kinds.Advisory
  Placed actions.Request = Unit {0}

  pub acted_onward : (action : Action) → Placed action → From s m s.state (acted s m action)
  acted_onward actions.OutOfPlace p = same refl refl
  acted_onward actions.Answer p = answered_onward p.0 (counted_in s.site.conduct (status_by m.status)) p.1
  acted_onward actions.Acknowledge p = acknowledged_onward p
  acted_onward actions.Advise p = advised_onward p
  acted_onward actions.Request p = same refl refl

  -- by its kind in Opening, in Confirming and in Up
  placed_in : (kind : Kind) → m.kind ≡ kind
      → ((age : ℕ) → s.state ≡ Opening age → Placed (action_at 0 (kind_number kind - 1)))
      × Placed (action_at 1 (kind_number kind - 1)) × Placed (action_at 2 (kind_number kind - 1))
  placed_in kinds.SessionOpenRequest e = (λ age f. tt, tt, tt)
  placed_in kinds.SessionOpenResponse e = (λ age f. (age, f, e), tt, tt)
  placed_in kinds.SessionOk e = (λ age f. tt, tt, tt)
  placed_in kinds.Ok e = (λ age f. tt, e, e)
  placed_in kinds.Advisory e = (λ age f. tt, e, e)
  placed_in kinds.Request e = (λ age f. tt, tt, tt)
  placed_in kinds.Response e = (λ age f. tt, tt, tt)

  pub placed : (state : State) → s.state ≡ state → is_linked state ≡ true → Placed (action_of state m.kind)
  placed (Waiting left) e l = cc
  placed Connecting e l = cc
  placed (Opening age) e l = (placed_in m.kind refl).0 age e
  placed (Confirming number age) e l = (placed_in m.kind refl).1
  placed (Up waiting age) e l = (placed_in m.kind refl).2
  placed Stopped e l = cc
