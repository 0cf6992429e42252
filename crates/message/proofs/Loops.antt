-- What a loop over a reader with fuel keeps, whatever the reader is. Assumes nothing.
use Prim.Native.Nat.{ℕ, zero, suc, ◌+◌, ◌*◌, ◌<◌, ◌≤◌}
use mathlib.Core.Path.{◌≡◌, refl, sym, ◌∙◌, ap}
use mathlib.Core.Bool.{cond}
use mathlib.Core.List.{List}
use native.Mathlib.Omega.{arith}
use lib.ListN.{length}
use lib.Dec.{leb}
use Rattle.message.specs.Class.{is_plain, is_plain_note}
use Rattle.message.specs.Reading.{Reading, ◌>>=◌, is, byte_at, has, one, ends}
use Rattle.message.specs.Reading.Reading.{whole, refused}
use Rattle.message.specs.Characters.{Character, is_digit, digit_of, digits_at}
use Rattle.message.specs.Text.{beyond_plain_in_at, beyond_plain_at, beyond_note_at, hyphens_at, text_at, value_at, comment_at}
use Rattle.message.proofs.Laws.{stopped, cond_false, and_false, has_out, ends_from, ends_out}
use Rattle.message.proofs.Progress.{beyond_plain_in_out, beyond_plain_out, beyond_note_out}

-- A reader with fuel, of a message of n bytes. It stands at a P, which is at a place of the message. A turn of it first goes on to a stop,
-- as behind a run of bytes that it need not look at, and there takes a step, which may go on to another P. Where the fuel may be used up,
-- at the end of the message, none gives what one turn gives.
pub record Fuelled (P B : Type 0) : Type 0 where
  pub n : ℕ
  pub place : P → ℕ
  pub stop : P → P
  pub step : P → (P → Reading B) → Reading B
  pub reads : ℕ → P → Reading B
  pub on : (p : P) → place p ≤ place (stop p)
  pub turn : (fuel : ℕ) (p : P) → reads (suc fuel) p ≡ step (stop p) (reads fuel)
  pub ended : (p : P) → n ≤ place p → reads 0 p ≡ step (stop p) (reads 0)

module _ {P B : Type 0} (F : Fuelled P B) where
  -- at the stop i: from some p whose stop it is, with some fuel that is enough, the reader gives the answer
  abbrev pub Left : Reading B → P → Type 0
  Left answer i = (p : P) × (i ≡ F.stop p) × (fuel : ℕ) × (F.n ≤ fuel + F.place p) × (F.reads fuel p ≡ answer)

  -- where the loop begins
  pub left_first : {i : P} (p : P) → i ≡ F.stop p → Left (F.reads F.n p) i
  left_first p i-is = (p, i-is, F.n, omega arith, refl)

  module _ {answer : Reading B} {i : P} where
    -- there is fuel for one more turn
    more : Left answer i → (fuel : ℕ) × (F.n ≤ fuel + (F.place i + 1)) × (F.step i (F.reads fuel) ≡ answer)
    more left = go left.2 left.3 left.4
      where
        p : P
        p = left.0

        at_stop : (fuel : ℕ) → F.step i (F.reads fuel) ≡ F.step (F.stop p) (F.reads fuel)
        at_stop fuel = ap (λ (j : P). F.step j (F.reads fuel)) left.1

        before : F.place p ≤ F.place i
        before = omega (arith, F.on p, ap F.place left.1)

        go : (fuel : ℕ) → F.n ≤ fuel + F.place p → F.reads fuel p ≡ answer
            → (fuel : ℕ) × (F.n ≤ fuel + (F.place i + 1)) × (F.step i (F.reads fuel) ≡ answer)
        go zero enough gives = (zero, omega (arith, before), at_stop zero ∙ sym (F.ended p (omega arith)) ∙ gives)
        go (suc fuel) enough gives = (fuel, omega (arith, before), at_stop fuel ∙ sym (F.turn fuel p) ∙ gives)

    -- the step at i goes on to q: then to q's stop
    pub left_on : {j : P} (q : P) → j ≡ F.stop q → F.place i < F.place q → ((next : P → Reading B) → next q ≡ F.step i next)
        → Left answer i → Left answer j
    left_on q j-is further goes left =
        let m = more left in
        (q, j-is, m.0, omega (arith, m.1), goes (F.reads m.0) ∙ m.2)

    -- the step at i is the last
    pub left_done : {x : Reading B} → ((next : P → Reading B) → x ≡ F.step i next) → Left answer i → x ≡ answer
    left_done gives left =
        let m = more left in
        gives (F.reads m.0) ∙ m.2

-- ---- text, values and comments, each with a run of plain bytes before a stop

module _ (class : ℕ → ℕ) (s : List ℕ) where
  abbrev pub text_step : ℕ → (ℕ → Reading ℕ) → Reading ℕ
  text_step i next = cond (has (is 60) s i) (whole i) (beyond_plain_at class s i >>= next)

  pub text_turn : (fuel p : ℕ) → text_at class (suc fuel) s p ≡ text_step (ends (is_plain class) s p) (text_at class fuel s)
  unfolding text_at
  text_turn fuel p = refl

  pub text_ended : (p : ℕ) → length s ≤ p → text_at class 0 s p ≡ text_step (ends (is_plain class) s p) (text_at class 0 s)
  unfolding text_at
  text_ended p end =
      rw (ends_out (is_plain class) s p end) (stopped _ (sym (beyond_plain_out s p end class)) ∙ cond_false _ (has_out (is 60) s p end))

  abbrev pub texts : Fuelled ℕ ℕ
  texts = record {
    n = length s;
    place = λ p. p;
    stop = ends (is_plain class) s;
    step = text_step;
    reads = λ fuel p. text_at class fuel s p;
    on = ends_from (is_plain class) s;
    turn = text_turn;
    ended = text_ended;
  }

  abbrev pub note_step : ℕ → (ℕ → Reading ℕ) → Reading ℕ
  note_step i next = cond (hyphens_at s i) (one (is 62) s (i + 2)) (beyond_note_at s i >>= next)

  pub note_turn : (fuel p : ℕ) → comment_at class (suc fuel) s p ≡ note_step (ends (is_plain_note class) s p) (comment_at class fuel s)
  unfolding comment_at
  note_turn fuel p = refl

  pub note_ended : (p : ℕ) → length s ≤ p → comment_at class 0 s p ≡ note_step (ends (is_plain_note class) s p) (comment_at class 0 s)
  unfolding comment_at
  note_ended p end =
      rw (ends_out (is_plain_note class) s p end) (
      stopped _ (sym (beyond_note_out s p end)) ∙ cond_false _ (sym (and_false _ (has_out (is 45) s p end))))

  abbrev pub comments : Fuelled ℕ ℕ
  comments = record {
    n = length s;
    place = λ p. p;
    stop = ends (is_plain_note class) s;
    step = note_step;
    reads = λ fuel p. comment_at class fuel s p;
    on = ends_from (is_plain_note class) s;
    turn = note_turn;
    ended = note_ended;
  }

module _ (class : ℕ → ℕ) (quote : ℕ) (s : List ℕ) where
  abbrev pub value_step : ℕ → (ℕ → Reading ℕ) → Reading ℕ
  value_step i next = cond (has (is quote) s i) (whole i) (beyond_plain_in_at class s i >>= next)

  pub value_turn : (fuel p : ℕ) → value_at class (suc fuel) quote s p ≡ value_step (ends (is_plain class) s p) (value_at class fuel quote s)
  unfolding value_at
  value_turn fuel p = refl

  pub value_ended : (p : ℕ) → length s ≤ p → value_at class 0 quote s p ≡ value_step (ends (is_plain class) s p) (value_at class 0 quote s)
  unfolding value_at
  value_ended p end =
      rw (ends_out (is_plain class) s p end)
      (stopped _ (sym (beyond_plain_in_out s p end class)) ∙ cond_false _ (has_out (is quote) s p end))

  abbrev pub values : Fuelled ℕ ℕ
  values = record {
    n = length s;
    place = λ p. p;
    stop = ends (is_plain class) s;
    step = value_step;
    reads = λ fuel p. value_at class fuel quote s p;
    on = ends_from (is_plain class) s;
    turn = value_turn;
    ended = value_ended;
  }

-- ---- the digits of a reference: at a number that others make before them, and at the place

module _ (base : ℕ) (s : List ℕ) where
  abbrev pub digits_step : (ℕ × ℕ) → ((ℕ × ℕ) → Reading Character) → Reading Character
  digits_step p next =
      let more = p.0 * base + digit_of (byte_at s p.1) in
      cond (has (is_digit base) s p.1)
      (cond (leb more 1114111) (next (more, p.1 + 1)) (refused 9 p.1))
      (whole (record { end = p.1; code = p.0 }))

  -- with one more than the fuel, so that where none is left there is still a turn, which finds no digit
  abbrev pub digits_reads : ℕ → (ℕ × ℕ) → Reading Character
  digits_reads fuel p = digits_at (suc fuel) base p.0 s p.1

  pub digits_turn : (fuel : ℕ) (p : ℕ × ℕ) → digits_reads (suc fuel) p ≡ digits_step p (digits_reads fuel)
  unfolding digits_at
  digits_turn fuel p = refl

  pub digits_ended : (p : ℕ × ℕ) → length s ≤ p.1 → digits_reads 0 p ≡ digits_step p (digits_reads 0)
  unfolding digits_at
  digits_ended p end = sym (cond_false _ (has_out (is_digit base) s p.1 end)) ∙ cond_false _ (has_out (is_digit base) s p.1 end)

  abbrev pub numbers : Fuelled (ℕ × ℕ) Character
  numbers = record {
    n = length s;
    place = λ p. p.1;
    stop = λ p. p;
    step = digits_step;
    reads = digits_reads;
    on = λ p. omega arith;
    turn = digits_turn;
    ended = digits_ended;
  }
