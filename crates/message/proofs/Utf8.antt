-- Proves what specs/Alphabet says of the characters of more than one byte. Assumes nothing.
use Prim.Native.Nat.{ℕ, ◌+◌, ◌-◌, ◌*◌, ◌<◌, ◌≤◌}
use mathlib.Core.Path.{◌≡◌, refl, sym, ◌∙◌, subst}
use mathlib.Core.Bool.{Bool, true, cond, ◌&&◌}
use mathlib.Core.List.{List, [], ◌∷◌}
use native.Mathlib.Omega.{arith}
use lib.ListN.{length}
use lib.Dec.{eqb}
use borrow.Author.Tests.{eq-eqb}
use Rattle.std.proofs.lemmas.Bool.{cond_both}
use Rattle.message.specs.Class.{between}
use Rattle.message.specs.Reading.{Reading, is, byte_at, has, one, word_at}
use Rattle.message.specs.Reading.Reading.{whole}
use Rattle.message.specs.Characters.{Character, legal, later, second_of_three, third_of_three, second_of_four, joined, two_at, three_at, last_two_at, four_at, long_at}
use Rattle.message.specs.Readable.{Spelled}
use Rattle.message.specs.Alphabet.{Utf8, CharactersAre}
use Rattle.message.specs.Alphabet.Utf8.{two, three, four}
use Rattle.message.proofs.Laws.{has_in, has_lt, one_yes, between_yes, between_above, has_between, one_between}
use Rattle.message.proofs.Runs.{byte_is}
use Rattle.message.proofs.Words.{word_first, word_before}
use Rattle.message.proofs.Spelling.{word_spelled, spelled_word}
use Rattle.message.proofs.Legal.{legal_low, legal_over, legal_small}
use Rattle.message.proofs.Progress.{Every, every_on}
use Rattle.message.proofs.BeyondAscii.{three_lead, four_lead}
use Rattle.message.proofs.Utf8Ranges.{at_most, at_least, three_legal, four_most, three_second, three_third, four_second}

same_character : {e e' n n' : ℕ} → e ≡ e' → n ≡ n'
    → ◌≡◌ {A = Reading Character} (whole (record { end = e; code = n })) (whole (record { end = e'; code = n' }))
same_character p q = rw (p, q)

module _ (s : List ℕ) where
  -- ---- bytes and words that stand there

  -- one byte
  byte_stands : (x p : ℕ) → has (is x) s p ≡ true → (p < length s) × (byte_at s p ≡ x)
  byte_stands x p h = (has_lt (is x) s p h, byte_is x s p h)

  -- one that passes is read
  passes : (test : ℕ → Bool) (p : ℕ) → p < length s → test (byte_at s p) ≡ true → one test s p ≡ whole (p + 1)
  passes test p inside h = one_yes test s p (has_in test s p inside ∙ h)

  -- a word stands if its first byte does and the others do behind it
  word_on : (x : ℕ) (w : List ℕ) (p next e : ℕ) → p < length s → byte_at s p ≡ x → next ≡ p + 1 → word_at w s next ≡ whole e
      → word_at (x ∷ w) s p ≡ whole e
  word_on x w p next e inside same = word_before s x w p next e (has_in (is x) s p inside ∙ eq-eqb (byte_at s p) x same)

  word_over : (e : ℕ) → word_at [] s e ≡ whole e
  unfolding word_at
  word_over e = refl

  module _ (at : ℕ) where
    -- ---- what is read is a legal character

    abbrev Exact : Character → Type 0
    Exact c = (word : List ℕ) × Utf8 c.code word × (legal c.code ≡ true) × Spelled word s at × (c.end ≡ at + length word)

    abbrev first : ℕ
    first = byte_at s at

    abbrev second : ℕ
    second = byte_at s (at + 1)

    two_exact : has (between 194 223) s at ≡ true → Every Exact (two_at s at)
    unfolding two_at
    two_exact t =
        every_on Exact _ (one later s (at + 1)) (λ e q.
        let x = has_between 194 223 s at t in
        let y = one_between 128 191 s (at + 1) e q in
        let a = first - 192 in
        let b = second - 128 in
        let read = word_on (192 + a) ((128 + b) ∷ []) at (at + 1) e x.0 (omega arith) refl
        (word_on (128 + b) [] (at + 1) e e y.0 (omega arith) y.3 (word_over e)) in (
          (192 + a) ∷ (128 + b) ∷ [],
          two a b (omega arith) (omega arith) (omega arith),
          legal_low (a * 64 + b) (omega arith) (omega arith),
          word_spelled s ((192 + a) ∷ (128 + b) ∷ []) at e read (omega arith),
          omega arith,
        ))

    three_exact : has (between 224 239) s at ≡ true → Every Exact (three_at s at)
    unfolding three_at
    three_exact t =
        every_on Exact _ (one (second_of_three first) s (at + 1)) (λ i q.
        every_on Exact _ (one (third_of_three first second) s i) (λ e r.
        let x = has_between 224 239 s at t in
        let y = one_between (cond (eqb first 224) 160 128) (cond (eqb first 237) 159 191) s (at + 1) i q in
        let z = one_between 128 (cond (eqb first 239 && eqb second 191) 189 191) s i e r in
        let y-least = at_least 128 160 second (eqb first 224) (omega arith) y.1 in
        let y-most = at_most 159 191 second (eqb first 237) (omega arith) y.2 in
        let z-most = at_most 189 191 (byte_at s i) (eqb first 239 && eqb second 191) (omega arith) z.2 in
        let least = three_lead first second x.1 y.1 in
        let a = first - 224 in
        let b = second - 128 in
        let c = byte_at s i - 128 in
        let read = word_on (224 + a) ((128 + b) ∷ (128 + c) ∷ []) at (at + 1) e x.0 (omega arith) refl
        (word_on (128 + b) ((128 + c) ∷ []) (at + 1) i e y.0 (omega arith) y.3
        (word_on (128 + c) [] i e e z.0 (omega arith) z.3 (word_over e))) in (
          (224 + a) ∷ (128 + b) ∷ (128 + c) ∷ [],
          three a b c (omega arith) (omega arith) (omega arith) (omega arith),
          three_legal first second (byte_at s i) y-most z-most x.2 least y.2 z.2,
          word_spelled s ((224 + a) ∷ (128 + b) ∷ (128 + c) ∷ []) at e read (omega arith),
          omega arith,
        )))

    four_exact : Every Exact (four_at s at)
    unfolding four_at last_two_at
    four_exact =
        every_on Exact _ (one (between 240 244) s at) (λ i q.
        every_on Exact _ (one (second_of_four first) s i) (λ j r.
        every_on Exact _ (one later s j) (λ k u.
        every_on Exact _ (one later s k) (λ e v.
        let x = one_between 240 244 s at i q in
        let y = one_between (cond (eqb first 240) 144 128) (cond (eqb first 244) 143 191) s i j r in
        let z = one_between 128 191 s j k u in
        let last = one_between 128 191 s k e v in
        let y-least = at_least 128 144 (byte_at s i) (eqb first 240) (omega arith) y.1 in
        let y-most = at_most 143 191 (byte_at s i) (eqb first 244) (omega arith) y.2 in
        let least = four_lead first (byte_at s i) x.1 y.1 in
        let most = four_most first (byte_at s i) x.2 y.2 in
        let a = first - 240 in
        let b = byte_at s i - 128 in
        let c = byte_at s j - 128 in
        let d = byte_at s k - 128 in
        let read = word_on (240 + a) ((128 + b) ∷ (128 + c) ∷ (128 + d) ∷ []) at i e x.0 (omega arith) x.3
        (word_on (128 + b) ((128 + c) ∷ (128 + d) ∷ []) i j e y.0 (omega arith) y.3
        (word_on (128 + c) ((128 + d) ∷ []) j k e z.0 (omega arith) z.3
        (word_on (128 + d) [] k e e last.0 (omega arith) last.3 (word_over e)))) in (
          (240 + a) ∷ (128 + b) ∷ (128 + c) ∷ (128 + d) ∷ [],
          four a b c d (omega arith) (omega arith) (omega arith) (omega arith) (omega arith),
          legal_over (((a * 64 + b) * 64 + c) * 64 + d) (omega arith) (omega arith),
          word_spelled s ((240 + a) ∷ (128 + b) ∷ (128 + c) ∷ (128 + d) ∷ []) at e read (omega arith),
          omega arith,
        )))))

    long_exact : Every Exact (long_at s at)
    unfolding long_at
    long_exact =
        cond_both (has (between 194 223) s at) _ _ (Every Exact) two_exact (λ no.
        cond_both (has (between 224 239) s at) _ _ (Every Exact) three_exact (λ none. four_exact))

    -- ---- every legal character is read

    abbrev Reads : ℕ → List ℕ → Type 0
    Reads n word = Spelled word s at → long_at s at ≡ whole (record { end = at + length word; code = n })

    two_read : (a b : ℕ) → a < 32 → b < 64 → 128 ≤ a * 64 + b → Reads (a * 64 + b) ((192 + a) ∷ (128 + b) ∷ [])
    unfolding long_at two_at
    two_read a b a-most b-most least h =
        let e = at + 2 in
        let v = word_first s (192 + a) ((128 + b) ∷ []) at e (spelled_word s ((192 + a) ∷ (128 + b) ∷ []) at h) in
        let x = byte_stands (192 + a) at v.0 in
        let y = byte_stands (128 + b) (at + 1) (word_first s (128 + b) [] (at + 1) e v.1).0 in
        let lead = has_in (between 194 223) s at x.0 ∙ between_yes 194 223 first (omega arith) (omega arith) in
        rw (lead, passes later (at + 1) y.0 (between_yes 128 191 second (omega arith) (omega arith)))
        (same_character (omega arith) (omega arith))

    three_read : (a b c : ℕ) → a < 16 → b < 64 → c < 64 → 2048 ≤ (a * 64 + b) * 64 + c → legal ((a * 64 + b) * 64 + c) ≡ true
        → Reads ((a * 64 + b) * 64 + c) ((224 + a) ∷ (128 + b) ∷ (128 + c) ∷ [])
    unfolding long_at three_at
    three_read a b c a-most b-most c-most least fine h =
        let e = at + 3 in
        let u = word_first s (224 + a) ((128 + b) ∷ (128 + c) ∷ []) at e (spelled_word s ((224 + a) ∷ (128 + b) ∷ (128 + c) ∷ []) at h) in
        let v = word_first s (128 + b) ((128 + c) ∷ []) (at + 1) e u.1 in
        let x = byte_stands (224 + a) at u.0 in
        let y = byte_stands (128 + b) (at + 1) v.0 in
        let z = byte_stands (128 + c) (at + 1 + 1) (word_first s (128 + c) [] (at + 1 + 1) e v.1).0 in
        let third = byte_at s (at + 1 + 1) in
        let same : (a * 64 + b) * 64 + c ≡ joined (joined (first - 224) second) third = omega arith in
        let legal-too = subst (λ (n : ℕ). legal n ≡ true) same fine in
        let no_two = has_in (between 194 223) s at x.0 ∙ between_above 194 223 first (omega arith) in
        let lead = has_in (between 224 239) s at x.0 ∙ between_yes 224 239 first (omega arith) (omega arith) in
        let second_fits = three_second first second third (omega arith) (omega arith) (omega arith) (omega arith) (omega arith) legal-too (omega arith) in
        let third_fits = three_third first second third (omega arith) (omega arith) (omega arith) (omega arith) (omega arith) legal-too (omega arith) in
        rw (no_two, lead, passes (second_of_three first) (at + 1) y.0 second_fits) (
        rw (passes (third_of_three first second) (at + 1 + 1) z.0 third_fits) (same_character (omega arith) (sym same)))

    four_read : (a b c d : ℕ) → b < 64 → c < 64 → d < 64 → 65536 ≤ ((a * 64 + b) * 64 + c) * 64 + d
        → legal (((a * 64 + b) * 64 + c) * 64 + d) ≡ true
        → Reads (((a * 64 + b) * 64 + c) * 64 + d) ((240 + a) ∷ (128 + b) ∷ (128 + c) ∷ (128 + d) ∷ [])
    unfolding long_at four_at last_two_at
    four_read a b c d b-most c-most d-most least fine h =
        let e = at + 4 in
        let word = (240 + a) ∷ (128 + b) ∷ (128 + c) ∷ (128 + d) ∷ [] in
        let t = word_first s (240 + a) ((128 + b) ∷ (128 + c) ∷ (128 + d) ∷ []) at e (spelled_word s word at h) in
        let u = word_first s (128 + b) ((128 + c) ∷ (128 + d) ∷ []) (at + 1) e t.1 in
        let v = word_first s (128 + c) ((128 + d) ∷ []) (at + 1 + 1) e u.1 in
        let w = byte_stands (240 + a) at t.0 in
        let x = byte_stands (128 + b) (at + 1) u.0 in
        let y = byte_stands (128 + c) (at + 1 + 1) v.0 in
        let z = byte_stands (128 + d) (at + 1 + 1 + 1) (word_first s (128 + d) [] (at + 1 + 1 + 1) e v.1).0 in
        let third = byte_at s (at + 1 + 1) in
        let last = byte_at s (at + 1 + 1 + 1) in
        let most = legal_small (((a * 64 + b) * 64 + c) * 64 + d) fine in
        let no_two = has_in (between 194 223) s at w.0 ∙ between_above 194 223 first (omega arith) in
        let no-three = has_in (between 224 239) s at w.0 ∙ between_above 224 239 first (omega arith) in
        let second_fits = four_second first second (omega arith) (omega arith) (omega arith) (omega arith) in
        rw (no_two, no-three, passes (between 240 244) at w.0 (between_yes 240 244 first (omega arith) (omega arith))) (
        rw (passes (second_of_four first) (at + 1) x.0 second_fits) (
        rw (passes later (at + 1 + 1) y.0 (between_yes 128 191 third (omega arith) (omega arith))) (
        rw (passes later (at + 1 + 1 + 1) z.0 (between_yes 128 191 last (omega arith) (omega arith)))
        (same_character (omega arith) (omega arith)))))

    long_read : {n : ℕ} {word : List ℕ} → Utf8 n word → legal n ≡ true → Reads n word
    long_read (two a b a-most b-most least) fine = two_read a b a-most b-most least
    long_read (three a b c a-most b-most c-most least) fine = three_read a b c a-most b-most c-most least fine
    long_read (four a b c d a-most b-most c-most d-most least) fine = four_read a b c d b-most c-most d-most least fine

pub characters_are : CharactersAre
characters_are s at = record {
  read = λ c q. subst (Every (Exact s at)) q (long_exact s at);
  reads = λ n word bytes fine. long_read s at bytes fine;
}
