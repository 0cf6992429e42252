-- A message in Up: it names a number and makes the move of that, be it the open SessionOk's, an open push's or neither's; or it names none and touches no push.
-- Assumes nothing.
use Rattle.std.specs.Prelude.{Option, None, Some}
use mathlib.Core.Path.{◌≡◌, refl, sym, ap, ◌∙◌}
use mathlib.Core.Bool.{Bool, true, false, cond, ◌&&◌}
use mathlib.Core.List.{List, [], ◌∷◌}
use Prim.Native.Nat.{ℕ}
use native.Mathlib.Omega.{arith}
use lib.Dec.{eqb}
use lib.ListN.{length}
use Rattle.std.proofs.lemmas.Bool.Decides.{nat_tests}
use Rattle.message.specs.declared.Kind.{Kind}
use Rattle.message.specs.declared.Kind.TheVariants as kinds
use Rattle.message.specs.declared.Advice.{Advice}
use Rattle.message.specs.declared.Advice.TheVariants as advices
use Rattle.message.specs.declared.Message.{Message}
use Rattle.conduct.specs.Lists.{among}
use Rattle.conduct.specs.Codes.{advisory_arrived}
use Rattle.conduct.specs.Session.{Session, awaited_numbers, push_numbers}
use Rattle.conduct.specs.Table.{action_of}
use Rattle.conduct.specs.Rules as rules
use Rattle.conduct.specs.Rules.{goes, touches, note, matches_nothing, advised_about, acted}
use Rattle.conduct.specs.History.{names_number, is_unreadable_message, advice_bearing, Bearing, message_bearing}
use Rattle.conduct.specs.History.Bearing.{ticked, acknowledged, unreadable_message, advised}
use Rattle.conduct.specs.declared.State.TheVariants.{Up}
use Rattle.conduct.specs.declared.Site.{Site}
use Rattle.conduct.specs.declared.Push.{Push}
use Rattle.conduct.specs.declared.Remark.{Remark}
use Rattle.conduct.specs.declared.Remark.TheVariants as remarks
use Rattle.conduct.specs.declared.Move.{Move}
use Rattle.conduct.specs.declared.Sweep.TheVariants as sweeps
use Rattle.conduct.proofs.Story.{tick_in}
use Rattle.conduct.proofs.Others.{sweep_by}

-- what it says of the open SessionOk
abbrev pub remark_by : Bearing → Remark
remark_by ticked = remarks.Nothing
remark_by acknowledged = remarks.Nothing
remark_by unreadable_message = note advisory_arrived
remark_by advised = note advisory_arrived

-- x: n is the open SessionOk's number, y: an open push's
abbrev pub move_by : ℕ → Option ℕ → ℕ → Bool → Bool → Bearing → Move
move_by n w age x y b = cond x (goes (Up None age) (remark_by b)) (cond y (touches (Up w age) (sweep_by n b)) (matches_nothing (Up w age)))

abbrev pub up_with : Site → ℕ → Option ℕ → ℕ → List Push → Session
up_with site last w age ps = record { site = site; state = Up w age; pushes = ps; last = last }

-- what a message is to each number, and the move that it makes; none is a tick
pub data Naming (w : Option ℕ) (age : ℕ) (ps : List Push) (bearing : ℕ → List Bearing) (m : Move) : Type 0 where
  names_one : (j : ℕ) (b : Bearing) → tick_in (b ∷ []) ≡ 0 → m ≡ move_by j w age (among j (awaited_numbers w)) (among j (push_numbers ps)) b
      → ((n : ℕ) → bearing n ≡ cond (eqb j n) (b ∷ []) []) → Naming w age ps bearing m
  names_none : m.sweep ≡ sweeps.Still → ((n : ℕ) → bearing n ≡ []) → Naming w age ps bearing m

module _ (site : Site) (last : ℕ) (w : Option ℕ) (age : ℕ) (ps : List Push) where
  abbrev s : Session
  s = up_with site last w age ps

  ok_naming_lem : (there : Bool) (number : Option ℕ)
      → Naming w age ps (λ (n : ℕ). cond (there && names_number n number) (acknowledged ∷ []) []) (rules.acknowledged s (cond there number None))
  ok_naming_lem false number = names_none refl (λ n. refl)
  ok_naming_lem true None = names_none refl (λ n. refl)
  ok_naming_lem true (Some j) = names_one j acknowledged refl refl (λ n. refl)

  advisory_naming_lem : (there : Bool) (number : Option ℕ) (typed : Bool) (advice : Advice)
      → Naming w age ps (λ (n : ℕ). cond (there && names_number n number) (advice_bearing (typed && is_unreadable_message advice) ∷ []) [])
      (cond there (advised_about s (cond typed advice advices.Other) number) (goes (Up w age) (note advisory_arrived)))
  advisory_naming_lem false number typed advice = names_none refl (λ n. refl)
  advisory_naming_lem true None typed advice = names_none refl (λ n. refl)
  advisory_naming_lem true (Some j) true advices.UnreadableMessage = names_one j unreadable_message refl refl (λ n. refl)
  advisory_naming_lem true (Some j) true advices.Other = names_one j advised refl refl (λ n. refl)
  advisory_naming_lem true (Some j) false advice = names_one j advised refl refl (λ n. refl)

  pub heard_naming : (m : Message) (k : Kind) → Naming w age ps (λ (n : ℕ). message_bearing n m k) (acted s m (action_of (Up w age) k))
  heard_naming m kinds.SessionOpenRequest = names_none refl (λ n. refl)
  heard_naming m kinds.SessionOpenResponse = names_none refl (λ n. refl)
  heard_naming m kinds.SessionOk = names_none refl (λ n. refl)
  heard_naming m kinds.Ok = ok_naming_lem m.in_response_to.there m.in_response_to.meaning
  heard_naming m kinds.Advisory =
      advisory_naming_lem m.in_relation_to.there m.in_relation_to.meaning m.advisory_type.there m.advisory_type.meaning
  heard_naming m kinds.Request = names_none refl (λ n. refl)
  heard_naming m kinds.Response = names_none refl (λ n. refl)

-- so one that bears on n makes the move of n
module _ {w : Option ℕ} {age : ℕ} {ps : List Push} {bearing : ℕ → List Bearing} {m : Move} (n : ℕ) (b : Bearing) where
  pub named_move : Naming w age ps bearing m → bearing n ≡ b ∷ []
      → (m ≡ move_by n w age (among n (awaited_numbers w)) (among n (push_numbers ps)) b) × (tick_in (b ∷ []) ≡ 0)
  named_move (names_none still none) h = absurd (omega (arith, ap length (sym (none n) ∙ h)))
  named_move (names_one j c quiet is bears) h = grind (arith, nat_tests)
