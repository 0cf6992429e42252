-- A message that names a number, in Up: what it leaves and says. Assumes nothing.
use Rattle.std.specs.Prelude.{Option, None}
use mathlib.Core.Path.{◌≡◌, refl, sym, ap, ◌∙◌}
use mathlib.Core.Bool.{Bool, true, false, cond}
use mathlib.Core.List.{List, [], ◌∷◌, ◌++◌, append-nil}
use Prim.Native.Nat.{ℕ}
use Rattle.std.proofs.lemmas.Bool.{both_ways, false_from_ne_true}
use Rattle.conduct.specs.Lists.{flat, among, distinct}
use Rattle.conduct.specs.Pushes.{terms_of, tells}
use Rattle.conduct.specs.Session.{Session, awaited_numbers, push_numbers}
use Rattle.conduct.specs.Table.{action_of}
use Rattle.conduct.specs.Rules.{goes, touches, matches_nothing, acted}
use Rattle.conduct.specs.Step.{Answered, moved_by, events_by, step}
use Rattle.conduct.specs.History.{Bearing}
use Rattle.conduct.specs.History.Bearing.{ticked, acknowledged, unreadable_message, advised}
use Rattle.conduct.specs.Swapped.{Names, unmatched_event, says_of_session_ok}
use Rattle.conduct.specs.declared.State.TheVariants.{Up}
use Rattle.conduct.specs.declared.Site.{Site}
use Rattle.conduct.specs.declared.Push.{Push}
use Rattle.conduct.specs.declared.Event.{Event}
use Rattle.conduct.specs.declared.Call.{Call}
use Rattle.conduct.specs.declared.Sweep.TheVariants as sweeps
use Rattle.conduct.specs.declared.Move.{Move}
use Rattle.conduct.specs.declared.Terms.{Terms}
use Rattle.conduct.proofs.Lists.{flat_nothing}
use Rattle.conduct.proofs.Story.{tick_in}
use Rattle.conduct.proofs.Bearings.{not_awaited_too}
use Rattle.conduct.proofs.OpenResponses.{still_kept}
use Rattle.conduct.proofs.Others.{sweep_by, left_by, all_aside}
use Rattle.conduct.proofs.Named.{up_with, remark_by, move_by, heard_naming, named_move}

-- the open SessionOk, if the message does not name it
abbrev pub waits_beside : ℕ → Option ℕ → Option ℕ
waits_beside n w = cond (among n (awaited_numbers w)) None w

-- what it says: of the open SessionOk, of a push, or that nothing open has the number
abbrev pub says_by : Terms → Option ℕ → List Push → ℕ → Bearing → List Event
says_by terms w ps n b =
    cond (among n (awaited_numbers w)) (says_of_session_ok b)
    (cond (among n (push_numbers ps)) (flat (tells terms (sweep_by n b)) ps) (unmatched_event ∷ []))

-- an open SessionOk's number is no push's
not_pushed : (n : ℕ) (w : Option ℕ) (ms : List ℕ) → distinct (awaited_numbers w ++ ms) ≡ true → among n (awaited_numbers w) ≡ true → among n ms ≡ false
not_pushed n w ms d h = false_from_ne_true (among n ms) (λ e. both_ways _ (not_awaited_too n w ms d e) h)

module _ (site : Site) (last : ℕ) (w : Option ℕ) (age : ℕ) (ps : List Push) (n : ℕ) where
  abbrev s : Session
  s = up_with site last w age ps

  abbrev terms : Terms
  terms = terms_of site

  abbrev made : Move → Answered
  made m = record { refusal = 0; next = moved_by s m; events = events_by s m }

  abbrev left : Option ℕ → List Push → List Event → Answered
  left v qs es = record { refusal = 0; next = up_with site last v age qs; events = es }

  untold : (es : List Event) → flat (tells terms sweeps.Still) ps ++ es ≡ es
  untold es = rw (flat_nothing (tells terms sweeps.Still) (λ p. refl) ps)

  -- the open SessionOk is answered, a push is touched, nothing is found
  answers_it : (b : Bearing) → made (goes (Up None age) (remark_by b)) ≡ left None ps (says_of_session_ok b)
  answers_it ticked = λ i. left None (still_kept terms ps i) (untold [] i)
  answers_it acknowledged = λ i. left None (still_kept terms ps i) (untold [] i)
  answers_it unreadable_message = λ i. left None (still_kept terms ps i) (untold (says_of_session_ok unreadable_message) i)
  answers_it advised = λ i. left None (still_kept terms ps i) (untold (says_of_session_ok advised) i)

  touches_it : (b : Bearing) → made (touches (Up w age) (sweep_by n b)) ≡ left w (left_by terms n b ps) (flat (tells terms (sweep_by n b)) ps)
  touches_it b = λ i. left w (append-nil (left_by terms n b ps) i) (append-nil (flat (tells terms (sweep_by n b)) ps) i)

  finds_nothing : made (matches_nothing (Up w age)) ≡ left w ps (unmatched_event ∷ [])
  finds_nothing = λ i. left w (still_kept terms ps i) (untold (unmatched_event ∷ []) i)

  by_place : (b : Bearing) → distinct (awaited_numbers w ++ push_numbers ps) ≡ true
      → made (move_by n w age (among n (awaited_numbers w)) (among n (push_numbers ps)) b) ≡ left (waits_beside n w) (left_by terms n b ps) (says_by terms w ps n b)
  by_place b differ = go (among n (awaited_numbers w)) refl (among n (push_numbers ps)) refl
    where
      go : (x : Bool) → among n (awaited_numbers w) ≡ x → (y : Bool) → among n (push_numbers ps) ≡ y
          → made (move_by n w age x y b)
          ≡ left (cond x None w) (left_by terms n b ps)
          (cond x (says_of_session_ok b) (cond y (flat (tells terms (sweep_by n b)) ps) (unmatched_event ∷ [])))
      go true e y f =
          answers_it b ∙ (λ i. left None (sym (all_aside terms n b ps (not_pushed n w (push_numbers ps) differ e)).0 i) (says_of_session_ok b))
      go false e true f = touches_it b
      go false e false f =
          finds_nothing ∙ (λ i. left w (sym (all_aside terms n b ps f).0 i) (unmatched_event ∷ []))

  module _ (c : Call) (x : Names c n) where
    moved : (acted s x.message (action_of (Up w age) x.message.kind) ≡ move_by n w age (among n (awaited_numbers w)) (among n (push_numbers ps)) x.bearing)
        × (tick_in (x.bearing ∷ []) ≡ 0)
    moved = named_move n x.bearing (heard_naming site last w age ps x.message x.message.kind) x.bears

    pub named_step : distinct (awaited_numbers w ++ push_numbers ps) ≡ true
        → step s c ≡ left (waits_beside n w) (left_by terms n x.bearing ps) (says_by terms w ps n x.bearing)
    named_step differ = ap (step s) x.is_heard ∙ (ap made moved.0 ∙ by_place x.bearing differ)

    pub no_tick : tick_in (x.bearing ∷ []) ≡ 0
    no_tick = moved.1
