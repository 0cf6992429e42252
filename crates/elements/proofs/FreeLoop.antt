-- The loop over text and comments between tags. Assumes nothing.
use Prim.Native.Nat.{ℕ, suc, ◌+◌, ◌≤◌}
use mathlib.Core.Path.{◌≡◌, refl}
use mathlib.Core.Bool.{cond}
use mathlib.Core.List.{List}
use native.Mathlib.Omega.{arith}
use lib.ListN.{length}
use Rattle.message.specs.Reading.{Reading, ◌>>=◌, is, has}
use Rattle.message.specs.Reading.Reading.{whole, refused}
use Rattle.message.specs.Text.{text_at}
use Rattle.message.specs.Markup.{bang_at}
use Rattle.message.proofs.Laws.{stopped}
use Rattle.message.proofs.Loops.{Fuelled}
use Rattle.message.specs.Elements.{free_at}
use Rattle.message.proofs.Trees.{text_out}

module _ (class : ℕ → ℕ) (s : List ℕ) where
  abbrev pub free_step : ℕ → (ℕ → Reading ℕ) → Reading ℕ
  free_step at next =
      text_at class (length s) s at >>= (λ stop. cond (has (is 33) s (stop + 1)) (bang_at class s stop >>= next) (cond (has (is 63) s (stop + 1)) (refused 12 stop) (whole stop)))

  pub free_turn : (fuel at : ℕ) → free_at class s (suc fuel) at ≡ free_step at (free_at class s fuel)
  unfolding free_at
  free_turn fuel at = refl

  pub free_ended : (at : ℕ) → length s ≤ at → free_at class s 0 at ≡ free_step at (free_at class s 0)
  unfolding free_at
  free_ended at h = stopped _ (text_out class s (length s) at h)

  abbrev pub frees : Fuelled ℕ ℕ
  frees = record {
    n = length s;
    place = λ p. p;
    stop = λ p. p;
    step = free_step;
    reads = free_at class s;
    on = λ p. omega arith;
    turn = free_turn;
    ended = free_ended;
  }
