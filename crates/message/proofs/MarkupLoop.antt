-- Comments with their `<!--` and their end, and the loop over white space and comments around the root: what is read whole ends past where
-- it began, so the loop ends, and the fuel of its reader is enough. Assumes nothing.
use Prim.Native.Nat.{ℕ, zero, suc, ◌+◌, ◌-◌, ◌<◌, ◌≤◌}
use mathlib.Core.Path.{◌≡◌, refl, sym, ◌∙◌}
use mathlib.Core.Bool.{false, cond, ◌||◌}
use mathlib.Core.List.{List}
use native.Mathlib.Omega.{arith}
use lib.ListN.{length}
use Rattle.std.proofs.lemmas.Bool.{cond_both}
use Rattle.message.specs.Class.{is_space, is_plain_note}
use Rattle.message.specs.Reading.{Reading, ◌>>=◌, is_whole, is, one, ends, word_at, blanks}
use Rattle.message.specs.Reading.Reading.{whole, refused}
use Rattle.message.specs.Text.{hyphens_at, beyond_note_at, comment_at}
use Rattle.message.specs.Markup.{hyphens, doctype, cdata, opens_at, bang_at, around_at}
use Rattle.message.proofs.Laws.{cond_false, and_false, has_out, ends_from}
use Rattle.message.proofs.Progress.{PastPlace, past_then, past_whole, past_one, past_word, past_beyond_note}
use Rattle.message.proofs.Loops.{Fuelled}

module _ (class : ℕ → ℕ) (s : List ℕ) where
  module _ (k : ℕ) where
    pub past_comment : (fuel at : ℕ) → k ≤ at → PastPlace (length s) k (comment_at class fuel s at)
    unfolding comment_at
    past_comment zero at h = tt
    past_comment (suc fuel) at h =
        let stop = ends (is_plain_note class) s at in
        let on : k ≤ stop = omega (arith, ends_from (is_plain_note class) s at) in
        cond_both (hyphens_at s stop) _ _ (PastPlace (length s) k) (λ t. past_one s k (is 62) (stop + 2) (omega arith)) (λ t.
        past_then (λ e. e) (λ e. e) (length s) k _ (beyond_note_at s stop) (past_beyond_note s k stop on)
        (λ e p q. past_comment fuel e (omega arith)))

    pub past_bang : (at : ℕ) → k ≤ at → PastPlace (length s) k (bang_at class s at)
    unfolding bang_at
    past_bang at h =
        past_then (λ e. e) (λ e. e) (length s) k _ (one (is 60) s at) (past_one s k (is 60) at h) (λ i p q.
        past_then (λ e. e) (λ e. e) (length s) k _ (one (is 33) s i) (past_one s k (is 33) i (omega arith)) (λ from p' q'.
        cond_both (is_whole (word_at doctype s from) || is_whole (word_at cdata s from)) _ _ (PastPlace (length s) k) (λ t. tt) (λ t.
        past_then (λ e. e) (λ e. e) (length s) k _ (word_at hyphens s from) (past_word s k hyphens from p' q') (λ inside p'' q''.
        past_comment (length s) inside (omega arith)))))

  pub bang_on : {at e : ℕ} → bang_at class s at ≡ whole e → (at < e) × (e ≤ length s)
  bang_on {at} q = past_whole (λ e. e) (length s) at q (past_bang at at (omega arith))

  -- ---- around the root

  -- no `<` stands past the end
  opens_out : (b at : ℕ) → length s ≤ at → opens_at b s at ≡ false
  opens_out b at h = sym (and_false _ (has_out (is 60) s at h))

  -- what is read from a place behind white space on
  abbrev pub behind_blanks : ℕ → (ℕ → Reading ℕ) → Reading ℕ
  behind_blanks at next = cond (opens_at 33 s at) (bang_at class s at >>= next) (cond (opens_at 63 s at) (refused 12 at) (whole at))

  pub around_turn : (fuel at : ℕ) → around_at class (suc fuel) s at ≡ behind_blanks (blanks class s at) (around_at class fuel s)
  unfolding around_at
  around_turn fuel at = refl

  pub around_ended : (at : ℕ) → length s ≤ at → around_at class 1 s at ≡ behind_blanks (blanks class s at) (around_at class 1 s)
  around_ended at h =
      let none = opens_out 33 (blanks class s at) (omega (arith, ends_from (is_space class) s at)) in
      around_turn 0 at ∙ sym (cond_false _ none) ∙ cond_false _ none

  abbrev pub around : Fuelled ℕ ℕ
  around = record {
    n = length s;
    place = λ p. p;
    stop = blanks class s;
    step = behind_blanks;
    reads = λ fuel. around_at class (suc fuel) s;
    on = ends_from (is_space class) s;
    turn = λ fuel. around_turn (suc fuel);
    ended = around_ended;
  }

  -- each comment leaves less of the message
  pub around_less : (i j i' : ℕ) → bang_at class s i ≡ whole j → i' ≡ blanks class s j → length s - i' < length s - i
  around_less i j i' q e = omega (arith, bang_on q, ends_from (is_space class) s j)
