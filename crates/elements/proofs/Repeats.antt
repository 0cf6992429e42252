-- Bytes that are repeated: what the code finds of a part of an end tag's name. Assumes nothing.
use Prim.Native.Nat.{ℕ, zero, suc, ◌+◌, ◌-◌, ◌<◌, ◌≤◌}
use mathlib.Core.Path.{◌≡◌, refl, sym, ◌∙◌, ap, subst}
use mathlib.Core.Bool.{Bool, true, false, cond, ◌&&◌, true≢false}
use mathlib.Core.List.{List, [], ◌∷◌, ◌++◌}
use native.Mathlib.Numerals.{add-one}
use native.Mathlib.Omega.{arith}
use native.Mathlib.Decide.{dec_lt}
use lib.ListN.{length, get_or, drop, drop_of_length-le}
use lib.Seq.{length-slice, drop-cons}
use lib.Dec.{eqb, ltb}
use borrow.Author.Tests.{lt-ltb, le-ltb, eq-eqb, ne_eqb, eqb-true, eqb-false, ltb-true, ltb-false}
use Rattle.laws.specs.Bytes.{same_at}
use Rattle.laws.proofs.Same.{same_none, same_first}
use Rattle.message.specs.Class.{is_name}
use Rattle.message.specs.Reading.{Reading, ◌>>=◌, is_whole, is, byte_at, has, one, ends, word_at}
use Rattle.message.specs.Reading.Reading.{whole, refused}
use Rattle.message.specs.Names.{short_at}
use Rattle.message.proofs.Laws.{went, stopped, cond_true, cond_false, has_in, has_lt, has_byte, one_yes, one_no, ends_more, ends_stop}
use Rattle.message.proofs.Runs.{has_known}
use Rattle.message.specs.Limits.{link_limits}
use Rattle.message.specs.Elements.{part, end_part_at}
use Rattle.elements.specs.Held.{same_up_to}
use Rattle.message.proofs.Parts.{part_none, part_some}

-- ---- what a run of bytes passes

-- every byte of the word passes the test
abbrev Passes : (ℕ → Bool) → List ℕ → Type 0
Passes test [] = Unit {0}
Passes test (x ∷ w) = (test x ≡ true) × Passes test w

module _ (test : ℕ → Bool) (s : List ℕ) where
  -- a run that is not empty begins with a byte that passes
  run_has : (at : ℕ) → at < ends test s at → has test s at ≡ true
  run_has at h = go (has test s at) refl
    where
      go : (t : Bool) → has test s at ≡ t → has test s at ≡ true
      go true e = e
      go false e = absurd (omega (arith, ends_stop test s at e))

  run_passes : (n b e : ℕ) → e - b ≤ n → e ≤ length s → e ≡ ends test s b → Passes test (part s b e)
  run_passes zero b e h l q = subst (Passes test) (sym (part_none s b e (omega arith))) tt
  run_passes (suc n) b e h l q =
      elim (dec_lt b e) [
        | no k ↦ subst (Passes test) (sym (part_none s b e (omega arith))) tt
        | yes k ↦
            let t : has test s b ≡ true = run_has b (omega arith) in
            subst (Passes test) (sym (part_some s b e k l)) (has_byte test s b t, run_passes n (b + 1) e (omega arith) l (q ∙ ends_more test s b t))
      ]

-- ---- a word, byte by byte

module _ (x : ℕ) (w s : List ℕ) (at : ℕ) where
  module _ (there : has (is x) s at ≡ true) where
    upto_on : same_up_to (x ∷ w) s at ≡ same_up_to w s (at + 1)
    unfolding same_up_to
    upto_on = sym (cond_true _ there)

    pub word_on : word_at (x ∷ w) s at ≡ word_at w s (at + 1)
    unfolding word_at
    word_on = sym (went _ (one_yes (is x) s at there))

  module _ (other : has (is x) s at ≡ false) where
    upto_here : same_up_to (x ∷ w) s at ≡ at
    unfolding same_up_to
    upto_here = sym (cond_false _ other)

    pub word_here : word_at (x ∷ w) s at ≡ refused 9 at
    unfolding word_at
    word_here = sym (stopped _ (one_no (is x) s at other))

  -- whether it stands there, by its first byte
  word_step : at < length s → is_whole (word_at (x ∷ w) s at) ≡ (eqb (byte_at s at) x && is_whole (word_at w s (at + 1)))
  word_step h = go (eqb (byte_at s at) x) refl
    where
      go : (t : Bool) → eqb (byte_at s at) x ≡ t → is_whole (word_at (x ∷ w) s at) ≡ (t && is_whole (word_at w s (at + 1)))
      go true e = ap is_whole (word_on (has_in (is x) s at h ∙ e))
      go false e = ap is_whole (word_here (has_in (is x) s at h ∙ e))

-- the word stands at the place up to i, and no further
pub record Repeated (w s : List ℕ) (at i : ℕ) : Type 0 where
  pub from : at ≤ i
  pub to : i ≤ at + length w
  none : i ≡ at → 0 < length w → has (is (get_or w 0 0)) s at ≡ false
  pub some : at < i → has (is (get_or w 0 0)) s at ≡ true
  pub short : i < at + length w → word_at w s at ≡ refused 9 i
  pub full : at + length w ≤ i → word_at w s at ≡ whole i
  pub run : (test : ℕ → Bool) → Passes test w → ends test s at ≡ ends test s i

repeated_none : (s : List ℕ) (at : ℕ) → Repeated [] s at at
unfolding word_at
repeated_none s at =
    record {
      from = omega arith;
      to = omega arith;
      none = λ e h. absurd (omega arith);
      some = λ h. absurd (omega arith);
      short = λ h. absurd (omega arith);
      full = λ h. refl;
      run = λ test p. refl;
    }

repeated_more : (x : ℕ) (w s : List ℕ) (at i : ℕ) → has (is x) s at ≡ true → Repeated w s (at + 1) i → Repeated (x ∷ w) s at i
repeated_more x w s at i there r =
    record {
      from = omega (arith, r.from);
      to = omega (arith, r.to);
      none = λ e h. absurd (omega (arith, r.from));
      some = λ h. there;
      short = λ h. word_on x w s at there ∙ r.short (omega arith);
      full = λ h. word_on x w s at there ∙ r.full (omega arith);
      run = λ test p. ends_more test s at (has_known x s at there test ∙ p.0) ∙ r.run test p.1;
    }

repeated_here : (x : ℕ) (w s : List ℕ) (at : ℕ) → has (is x) s at ≡ false → Repeated (x ∷ w) s at at
repeated_here x w s at other =
    record {
      from = omega arith;
      to = omega arith;
      none = λ e h. other;
      some = λ h. absurd (omega arith);
      short = λ h. word_here x w s at other;
      full = λ h. absurd (omega arith);
      run = λ test p. refl;
    }

repeated_step : (x : ℕ) (w s : List ℕ) (at : ℕ) → Repeated w s (at + 1) (same_up_to w s (at + 1)) → Repeated (x ∷ w) s at (same_up_to (x ∷ w) s at)
repeated_step x w s at r = go (has (is x) s at) refl
  where
    go : (t : Bool) → has (is x) s at ≡ t → Repeated (x ∷ w) s at (same_up_to (x ∷ w) s at)
    go true e = subst (Repeated (x ∷ w) s at) (sym (upto_on x w s at e)) (repeated_more x w s at (same_up_to w s (at + 1)) e r)
    go false e = subst (Repeated (x ∷ w) s at) (sym (upto_here x w s at e)) (repeated_here x w s at e)

repeated_upto : (w s : List ℕ) (at : ℕ) → Repeated w s at (same_up_to w s at)
unfolding same_up_to
repeated_upto [] s at = repeated_none s at
repeated_upto (x ∷ w) s at = repeated_step x w s at (repeated_upto w s (at + 1))

-- ---- a part of an end tag's name, which is the word w: what the code finds of it

module _ (class : ℕ → ℕ) (w s : List ℕ) (at : ℕ) {i : ℕ} (found : Repeated w s at i) where
  part_other_first : i ≡ at → 0 < length w → refused 9 at ≡ end_part_at class s link_limits w at
  unfolding end_part_at
  part_other_first q h = stopped _ (one_no (is (get_or w 0 0)) s at (found.none q h))

  module _ (some : at < i) (passes : Passes (is_name class) w) where
    part_too_long : 64 < ends (is_name class) s i - at → refused 14 at ≡ end_part_at class s link_limits w at
    unfolding end_part_at short_at
    part_too_long h =
        let q = found.run (is_name class) passes in
        stopped _ (sym (cond_true _ (lt-ltb 64 (ends (is_name class) s at - at) (omega arith))))
        ∙ went _ (one_yes (is (get_or w 0 0)) s at (found.some some))

    pub part_by_word : ends (is_name class) s i - at ≤ 64 → word_at w s at ≡ end_part_at class s link_limits w at
    unfolding end_part_at short_at
    part_by_word h =
        let q = found.run (is_name class) passes in
        went _ (sym (cond_false _ (le-ltb 64 (ends (is_name class) s at - at) (omega arith))))
        ∙ went _ (one_yes (is (get_or w 0 0)) s at (found.some some))

-- ---- the bytes from b to e, a run of name bytes, which are repeated up to i

module _ (s : List ℕ) (b e : ℕ) (l : e ≤ length s) where
  pub part_passes : (class : ℕ → ℕ) → e ≡ ends (is_name class) s b → Passes (is_name class) (part s b e)
  part_passes class q = run_passes (is_name class) s (e - b) b e (omega arith) l q

pub upto_from : (w s : List ℕ) (at : ℕ) → at ≤ same_up_to w s at
upto_from w s at = (repeated_upto w s at).from

module _ (class : ℕ → ℕ) (s : List ℕ) (b e at : ℕ) (some : b < e) (l : e ≤ length s) (q : e ≡ ends (is_name class) s b) where
  -- what the code's tests tell of it, by the place up to which it is repeated and the end of the run of name bytes there
  abbrev pub again : ℕ → ℕ → Reading ℕ
  again i stop = cond (eqb i at) (refused 9 at) (cond (ltb 64 (stop - at)) (refused 14 at) (cond (ltb (i - at) (e - b)) (refused 9 i) (whole i)))

  again_at : (i stop : ℕ) → i ≡ same_up_to (part s b e) s at → stop ≡ ends (is_name class) s i → end_part_at class s link_limits (part s b e) at ≡ again i stop
  again_at i stop i-is stop-is = go (eqb i at) refl (ltb 64 (stop - at)) refl (ltb (i - at) (e - b)) refl
    where
      w : List ℕ
      w = part s b e

      found : Repeated w s at i
      found = subst (Repeated w s at) (sym i-is) (repeated_upto w s at)

      passes : Passes (is_name class) w
      passes = part_passes s b e l class q

      size : length w ≡ e - b
      size = length-slice b e s l

      go : (t : Bool) → eqb i at ≡ t → (u : Bool) → ltb 64 (stop - at) ≡ u → (v : Bool) → ltb (i - at) (e - b) ≡ v
          → end_part_at class s link_limits w at ≡ cond t (refused 9 at) (cond u (refused 14 at) (cond v (refused 9 i) (whole i)))
      go true t-is u u-is v v-is = sym (part_other_first class w s at found (eqb-true i at t-is) (omega (arith, size)))
      go false t-is u u-is v v-is = past u u-is v v-is
        where
          further : at < i
          further = elim (dec_lt at i) [ yes h ↦ h | no h ↦ absurd (eqb-false i at t-is (omega (arith, found.from))) ]

          past : (u : Bool) → ltb 64 (stop - at) ≡ u → (v : Bool) → ltb (i - at) (e - b) ≡ v
              → end_part_at class s link_limits w at ≡ cond u (refused 14 at) (cond v (refused 9 i) (whole i))
          past true u-is v v-is = sym (part_too_long class w s at found further passes (omega (arith, ltb-true 64 (stop - at) u-is)))
          past false u-is true v-is =
              sym (part_by_word class w s at found further passes (omega (arith, ltb-false 64 (stop - at) u-is)))
              ∙ found.short (omega (arith, size, ltb-true (i - at) (e - b) v-is))
          past false u-is false v-is =
              sym (part_by_word class w s at found further passes (omega (arith, ltb-false 64 (stop - at) u-is)))
              ∙ found.full (omega (arith, size, ltb-false (i - at) (e - b) v-is, found.from))

  pub again_is : end_part_at class s link_limits (part s b e) at ≡ again (same_up_to (part s b e) s at) (ends (is_name class) s (same_up_to (part s b e) s at))
  again_is = again_at (same_up_to (part s b e) s at) (ends (is_name class) s (same_up_to (part s b e) s at)) refl refl

-- ---- a word that is whole

module _ (s : List ℕ) where
  -- a word that would end behind the message does not stand there
  long_step : (x : ℕ) (w : List ℕ) (at : ℕ) → length s < at + suc (length w) → (0 < length w → is_whole (word_at w s (at + 1)) ≡ false) → is_whole (word_at (x ∷ w) s at) ≡ false
  long_step x w at h more = go (has (is x) s at) refl
    where
      go : (t : Bool) → has (is x) s at ≡ t → is_whole (word_at (x ∷ w) s at) ≡ false
      go true e = rw (word_on x w s at e) (more (omega (arith, has_lt (is x) s at e)))
      go false e = rw (word_here x w s at e)

  word_long : (w : List ℕ) (at : ℕ) → 0 < length w → length s < at + length w → is_whole (word_at w s at) ≡ false
  word_long [] at some h = absurd (omega arith)
  word_long (x ∷ w) at some h = long_step x w at h (λ some'. word_long w (at + 1) some' (omega arith))

  -- a word that stands there is repeated up to its end
  pub word_repeated : (w : List ℕ) (at : ℕ) → is_whole (word_at w s at) ≡ true → Repeated w s at (at + length w)
  word_repeated w at h = go (repeated_upto w s at)
    where
      go : Repeated w s at (same_up_to w s at) → Repeated w s at (at + length w)
      go r =
          elim (dec_lt (same_up_to w s at) (at + length w)) [
            | yes k ↦ absurd (true≢false (sym h ∙ ap is_whole (r.short k)))
            | no k ↦ let q : same_up_to w s at ≡ at + length w = omega (arith, r.to) in subst (Repeated w s at) q r
          ]

  pub word_within : (w : List ℕ) (at : ℕ) → is_whole (word_at w s at) ≡ true → 0 < length w → at + length w ≤ length s
  word_within w at h some =
      elim (dec_lt (length s) (at + length w)) [
        | yes k ↦ absurd (true≢false (sym h ∙ word_long w at some k))
        | no k ↦ omega arith
      ]

  word_append_step : (u v : List ℕ) (a : Reading ℕ) → ((n : ℕ) → word_at (u ++ v) s n ≡ (word_at u s n >>= word_at v s)) → (a >>= word_at (u ++ v) s) ≡ ((a >>= word_at u s) >>= word_at v s)
  word_append_step u v (whole n) h = h n
  word_append_step u v (refused number place) h = refl

  pub word_append : (u v : List ℕ) (at : ℕ) → word_at (u ++ v) s at ≡ (word_at u s at >>= word_at v s)
  unfolding word_at
  word_append [] v at = refl
  word_append (x ∷ u) v at = word_append_step u v (one (is x) s at) (word_append u v)

pub whole_first : {A B : Type 0} (a : Reading A) (next : A → Reading B) → is_whole (a >>= next) ≡ true → is_whole a ≡ true
whole_first (whole x) next h = refl
whole_first (refused number place) next h = h

-- ---- the code's comparison of two parts of the message

module _ (s : List ℕ) (b e at : ℕ) (l : e ≤ length s) where
  pub repeats_long : 0 < e - b → length s < at + (e - b) → false ≡ is_whole (word_at (part s b e) s at)
  repeats_long some h = sym (word_long s (part s b e) at (omega (arith, length-slice b e s l)) (omega (arith, length-slice b e s l)))

  pub repeats_behind : length s < at → eqb (e - b) 0 ≡ is_whole (word_at (part s b e) s at)
  unfolding word_at
  repeats_behind h =
      elim (dec_lt 0 (e - b)) [
        | yes k ↦ ne_eqb (e - b) 0 (λ q. omega arith) ∙ repeats_long k (omega arith)
        | no k ↦ eq-eqb (e - b) 0 (omega arith) ∙ sym (ap (λ (w : List ℕ). is_whole (word_at w s at)) (part_none s b e (omega arith)))
      ]

  -- a part that is the same at both places is repeated
  pub repeats_same : b ≤ e → at + (e - b) ≤ length s → same_at (e - b) s b s at ≡ is_whole (word_at (part s b e) s at)
  unfolding word_at
  repeats_same order room = go (e - b) b at (omega arith) room
    where
      go : (n b at : ℕ) → b + n ≡ e → at + n ≤ length s → same_at n s b s at ≡ is_whole (word_at (part s b e) s at)
      go zero b at q h = rw (part_none s b e (omega arith)) (same_none s b s at)
      go (suc n) b at q h =
          same_first s b s at n (omega arith) (omega arith)
          ∙ ap (λ (t : Bool). eqb (byte_at s at) (byte_at s b) && t) (go n (b + 1) (at + 1) (omega arith) (omega arith))
          ∙ sym (ap (λ (w : List ℕ). is_whole (word_at w s at)) (part_some s b e (omega arith) l) ∙ word_step (byte_at s b) (part s (b + 1) e) s at (omega arith))

-- ---- the code's search for the place up to which a word is repeated, from its k-th byte on

module _ (w s : List ℕ) (at k : ℕ) where
  pub upto_none : length w ≤ k → same_up_to (drop k w) s at ≡ at
  unfolding same_up_to
  upto_none h = rw (drop_of_length-le w {i = k} h)

  pub upto_more : k < length w → same_up_to (drop k w) s at ≡ cond (has (is (byte_at w k)) s at) (same_up_to (drop (k + 1) w) s (at + 1)) at
  unfolding same_up_to
  upto_more h = rw (add-one k, drop-cons w k 0 h)
