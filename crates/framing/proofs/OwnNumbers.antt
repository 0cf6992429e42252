-- THEOREMS. `own_numbers_accepted`: the numbers that a call hands back are never refused by the next. `taken_as_given`: what is taken, and the next match, hang on the boundary,
-- the piece and the match held alone. Assumes nothing.
use mathlib.Core.Path.{◌≡◌, refl, sym}
use Rattle.std.specs.Prelude.{Option, None, Some}
use Prim.Native.Nat.{ℕ, ◌≤◌, ◌<◌}
use native.Mathlib.Omega.{arith}
use lib.ListN.{length}
use Rattle.framing.specs.Cutting.{refusal_of, cut_of, answered, answer_of}
use Rattle.framing.specs.Refusals.{Accepted, nothing}
use Rattle.framing.specs.Promises.{OwnNumbersAccepted, TakenAsGiven}
use Rattle.framing.proofs.Refusals.{due_is, accepted}
use Rattle.framing.proofs.Call.{Fit, cut_fits, when_taken}

pub own_numbers_accepted : OwnNumbersAccepted
unfolding answered
own_numbers_accepted limit b s p g m taken = go (cut_of b p m).matched refl
  where
    ok : Accepted limit (length b) (length s) g m
    ok = accepted limit (length b) (length s) g m taken

    found_fits : Fit b p m (cut_of b p m)
    found_fits = cut_fits b p m ok.below

    is : answer_of limit b s p g m ≡ answered limit (length b) g (cut_of b p m)
    is = sym (when_taken limit b s p g m 0 (sym taken) refl).0

    again : (g' m' : ℕ) → m' < length b → m' ≤ g' → refusal_of limit (length b) (length s) g' m' ≡ 0
    again g' m' below within =
        due_is limit (length b) (length s) g' m' 0
        (nothing (record { some = ok.some; few = ok.few; roomy = ok.roomy; below = below; within = within }))

    go : (t : Option ℕ) → (cut_of b p m).matched ≡ t
        → refusal_of limit (length b) (length s) (answer_of limit b s p g m).gathered (answer_of limit b s p g m).matched ≡ 0
    go None e = rw (is, e) (again 0 0 ok.some (omega arith))
    go (Some j) e = let held = rw e at found_fits.held in rw (is, e) (again _ _ held.0 (omega (arith, held.0, held.1, ok.within, ok.few)))

pub taken_as_given : TakenAsGiven
unfolding answered
taken_as_given limit b s s' p g g' m taken taken' = go (cut_of b p m).matched refl
  where
    is : answer_of limit b s p g m ≡ answered limit (length b) g (cut_of b p m)
    is = sym (when_taken limit b s p g m 0 (sym taken) refl).0

    is' : answer_of limit b s' p g' m ≡ answered limit (length b) g' (cut_of b p m)
    is' = sym (when_taken limit b s' p g' m 0 (sym taken') refl).0

    go : (t : Option ℕ) → (cut_of b p m).matched ≡ t
        → ((answer_of limit b s p g m).taken ≡ (answer_of limit b s' p g' m).taken) × ((answer_of limit b s p g m).matched ≡ (answer_of limit b s' p g' m).matched)
    go None e = rw (is, is', e) (refl, refl)
    go (Some j) e = rw (is, is', e) (refl, refl)
