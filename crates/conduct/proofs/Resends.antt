-- Making a session with a number of resends, and what another number of them does not change. Assumes nothing.
use mathlib.Core.Path.{◌≡◌, refl, sym, ap, subst⁻¹, ◌∙◌}
use mathlib.Core.Bool.{Bool, not}
use mathlib.Core.List.{List, ◌++◌}
use Prim.Native.Nat.{ℕ, zero, suc}
use Rattle.std.proofs.lemmas.Bool.Decides.{nat_tests}
use native.Mathlib.Omega.{arith}
use Rattle.message.specs.declared.Message.{Message}
use Rattle.conduct.specs.Lists.{flat, only, those}
use Rattle.conduct.specs.Pushes.{terms_of, tells}
use Rattle.conduct.specs.Session.{Session, held, refusal_of}
use Rattle.conduct.specs.Rules.{named_by, acted, move_of}
use Rattle.conduct.specs.Step.{parting_notes, last_after_parting, remark_notes, events_by, moved_by, answer}
use Rattle.conduct.specs.Numbers.{all_numbered}
use Rattle.conduct.specs.Table.{action_of}
use Rattle.conduct.specs.History.{of_push}
use Rattle.conduct.specs.Resends.{EveryMakingAnswered, resending_up_to, AlikeButPushes, OnlyOfPushes}
use Rattle.conduct.specs.declared.Action.{Action}
use Rattle.conduct.specs.declared.Action.TheVariants as actions
use Rattle.conduct.specs.declared.Event.{Event}
use Rattle.conduct.specs.declared.Call.{Call}
use Rattle.conduct.specs.declared.Call.TheVariants as calls
use Rattle.conduct.specs.declared.Move.{Move}
use Rattle.conduct.proofs.Lists.{flat_append, none_those}
use Rattle.conduct.proofs.Said.{told_fails}
use Rattle.conduct.proofs.Elsewhere.{ok_alike, advised_alike}

-- ---- making a session

pub every_making_answered : EveryMakingAnswered
every_making_answered site = grind (arith, nat_tests)

-- ---- nothing else

abbrev elsewise : Event → Bool
elsewise e = not (of_push e)

-- what the rule says does not read them, and what it says of open pushes is left out
module _ (most : ℕ) (s : Session) where
  abbrev other : Session
  other = resending_up_to most s

  told_elsewise : (t : Session) (m : Move)
      → those elsewise (events_by t m)
      ≡ those elsewise (all_numbered (held t) t.last (parting_notes m.parting))
      ++ those elsewise (all_numbered (held t) (last_after_parting t m) (remark_notes m.remark))
  told_elsewise t m =
      let told = flat (tells (terms_of t.site) m.sweep) t.pushes in
      let none = none_those elsewise told (told_fails elsewise (λ n d. refl) (terms_of t.site) m.sweep t.pushes) in
      flat_append (only elsewise) (all_numbered (held t) t.last (parting_notes m.parting)) _
      ∙ ap (λ (es : List Event). those elsewise (all_numbered (held t) t.last (parting_notes m.parting)) ++ es)
      (flat_append (only elsewise) told _ ∙ ap (λ (es : List Event). es ++ those elsewise (all_numbered (held t) (last_after_parting t m) (remark_notes m.remark))) none)

  moved_alike : (m : Move) → AlikeButPushes (record { refusal = 0; next = moved_by other m; events = events_by other m })
      (record { refusal = 0; next = moved_by s m; events = events_by s m })
  moved_alike m =
      record { refused_alike = refl; said_alike = told_elsewise other m ∙ sym (told_elsewise s m); same_state = refl; same_last = refl }

  acted_alike : (m : Message) (a : Action) → acted other m a ≡ acted s m a
  acted_alike m actions.OutOfPlace = refl
  acted_alike m actions.Answer = refl
  acted_alike m actions.Acknowledge = ok_alike other.site s (named_by m.in_response_to)
  acted_alike m actions.Advise = advised_alike other.site s m
  acted_alike m actions.Request = refl

  answered_alike : (k : ℕ) (c : Call) → AlikeButPushes (answer k other c) (answer k s c)
  answered_alike zero calls.Tick = moved_alike (move_of s calls.Tick)
  answered_alike zero calls.Connected = moved_alike (move_of s calls.Connected)
  answered_alike zero calls.Lost = moved_alike (move_of s calls.Lost)
  answered_alike zero calls.Stop = moved_alike (move_of s calls.Stop)
  answered_alike zero (calls.Push what handle) = moved_alike (move_of s (calls.Push what handle))
  answered_alike zero (calls.Heard m) =
      subst⁻¹ (λ (x : Move). AlikeButPushes (record { refusal = 0; next = moved_by other x; events = events_by other x }) (answer 0 s (calls.Heard m)))
      (acted_alike m (action_of s.state m.kind))
      (moved_alike (move_of s (calls.Heard m)))
  answered_alike zero (calls.Unreadable refusal) = moved_alike (move_of s (calls.Unreadable refusal))
  answered_alike (suc k) c = record { refused_alike = refl; said_alike = refl; same_state = refl; same_last = refl }

pub only_of_pushes : OnlyOfPushes
only_of_pushes most s c = answered_alike most s (refusal_of s c) c
