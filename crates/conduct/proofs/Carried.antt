-- Which events carry a number, and which a detail. Assumes nothing.
use mathlib.Core.Path.{◌≡◌, refl, ◌∙◌}
use mathlib.Core.Bool.{Bool, true}
use mathlib.Core.List.{[]}
use Prim.Native.Nat.{ℕ}
use Rattle.std.proofs.lemmas.Bool.{and_from}
use Rattle.conduct.specs.Lists.{flat, all}
use Rattle.conduct.specs.Codes.{sending}
use Rattle.conduct.specs.Numbers.{numbered, all_numbered}
use Rattle.conduct.specs.Pushes.{terms_of, tells}
use Rattle.conduct.specs.Session.{Session, held}
use Rattle.conduct.specs.Step.{noted, parting_notes, remark_notes, events_by, Answered}
use Rattle.conduct.specs.Bounds.{number_fits, detail_fits, OnlyTheseCarry}
use Rattle.conduct.specs.declared.Event.{Event}
use Rattle.conduct.specs.declared.Pushed.{Pushed}
use Rattle.conduct.specs.declared.Pushed.TheVariants.{Response, Advisory}
use Rattle.conduct.specs.declared.Sweep.TheVariants as sweeps
use Rattle.conduct.specs.declared.Move.{Move}
use Rattle.conduct.proofs.Lists.{all_append}
use Rattle.conduct.proofs.Moves.{plain_codes, Usual, stays, departs, by_moves}
use Rattle.conduct.proofs.Said.{told_codes, parting_codes, told_pass, parting_pass, remark_pass}

module _ (test : Event → Bool) (s : Session)
    (told : (number detail : ℕ) → all (λ (code : ℕ). test (record { code = code; number = number; detail = detail })) told_codes ≡ true)
    (parting-says : (last : ℕ) → all (λ (code : ℕ). test (numbered (held s) last (noted code 0))) parting_codes ≡ true)
    (remark_says : all (λ (code : ℕ). test (numbered (held s) s.last (noted code 0))) plain_codes ≡ true)
    (unreadable : (refusal : ℕ) → test (numbered (held s) s.last (noted 16 refusal)) ≡ true)
    (sent : (what : Pushed) (handle : ℕ) → test (numbered (held s) s.last (noted (sending what) handle)) ≡ true) where
  move_pass : (m : Move) → Usual s.state m → all test (events_by s m) ≡ true
  move_pass m (stays to sweep remark up lost said ok) =
      all_append test (flat (tells (terms_of s.site) sweep) s.pushes) (all_numbered (held s) s.last (remark_notes remark))
      ∙ and_from _ _ (told_pass test told (terms_of s.site) sweep s.pushes) (remark_pass test (held s) s.last remark_says unreadable sent remark said)
  move_pass m (departs to parting down few) =
      all_append test (all_numbered (held s) s.last (parting_notes parting)) _
      ∙ and_from _ _ (parting_pass test (held s) parting-says parting s.last) (all_append test (flat (tells (terms_of s.site) sweeps.Lost) s.pushes) [] ∙ and_from _ _ (told_pass test told (terms_of s.site) sweeps.Lost s.pushes) refl)

sent_number_lem : (s : Session) (what : Pushed) (handle : ℕ) → number_fits (numbered (held s) s.last (noted (sending what) handle)) ≡ true
sent_number_lem s Response handle = refl
sent_number_lem s Advisory handle = refl

sent_detail : (s : Session) (what : Pushed) (handle : ℕ) → detail_fits (numbered (held s) s.last (noted (sending what) handle)) ≡ true
sent_detail s Response handle = refl
sent_detail s Advisory handle = refl

pub only_these_carry : OnlyTheseCarry
only_these_carry s c =
    by_moves (λ (a : Answered). (all number_fits a.events ≡ true) × (all detail_fits a.events ≡ true)) s c
    (λ m u. (
      move_pass number_fits s (λ n d. refl) (λ l. refl) refl (λ r. refl) (sent_number_lem s) m u,
      move_pass detail_fits s (λ n d. refl) (λ l. refl) refl (λ r. refl) (sent_detail s) m u,
    ))
    (λ k. (refl, refl))
