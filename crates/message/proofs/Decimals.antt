-- A text names n exactly if it is n in decimal, below 2^32: `decimal_of` goes through the digits from the left, `Decimal` adds them at the
-- right. Assumes nothing.
use Rattle.std.specs.Prelude.{None, Some}
use Prim.Native.Nat.{ℕ, ◌+◌, ◌-◌, ◌*◌, ◌<◌, ◌≤◌}
use mathlib.Core.Path.{◌≡◌, refl, sym, ◌∙◌, ap, subst}
use mathlib.Core.Bool.{Bool, true, false, cond}
use mathlib.Core.List.{List, [], ◌∷◌, ◌++◌, append_assoc, append-nil}
use native.Mathlib.Omega.{arith}
use native.Mathlib.Decide.{dec_lt}
use lib.Dec.{eqb}
use borrow.Author.Tests.{le-leb, eqb-false, ne_eqb}
use Rattle.std.proofs.lemmas.Bool.Decides.{nat_tests}
use Rattle.message.specs.Values.{decimal_from, decimal_of}
use Rattle.message.specs.Meanings.{Decimal}
use Rattle.message.specs.Meanings.Decimal.{digit, further}
use Rattle.message.proofs.Laws.{between_yes}

-- a number that the text names, with its bound
abbrev pub Said : ℕ → List ℕ → Type 0
Said n text = Decimal n text × (n < 4294967296)

-- ---- from the reader to the decimal

-- the number that one more digit d makes, and whether it may stand there
abbrev with : ℕ → ℕ → ℕ
with m d = m * 10 + (d - 48)

-- what is known of a digit d after m, behind which n was named
abbrev Goes : ℕ → ℕ → List ℕ → ℕ → Type 0
Goes m d digits n = (48 ≤ d) × (d ≤ 57) × (with m d ≤ 4294967295) × (decimal_from (with m d) digits ≡ Some n)

names_digit : (m d : ℕ) (digits : List ℕ) (n : ℕ) → decimal_from m (d ∷ digits) ≡ Some n → Goes m d digits n
unfolding decimal_from
names_digit m d digits n q = grind (arith, nat_tests)

names_none : (m n : ℕ) → decimal_from m [] ≡ Some n → m ≡ n
unfolding decimal_from
names_none m n q = cc

longer : {m : ℕ} {before : List ℕ} (d : ℕ) → 0 < m → 48 ≤ d → d ≤ 57 → Decimal m before → Decimal (with m d) (before ++ (d ∷ []))
longer {m} {before} d positive low high decimal =
    let back : 48 + (d - 48) ≡ d = omega arith in
    subst (λ (b : ℕ). Decimal (with m d) (before ++ (b ∷ []))) back (further (d - 48) positive (omega arith) decimal)

-- further digits after those of m, which is not zero
names_further : (digits : List ℕ) (m n : ℕ) (before : List ℕ) → 0 < m → Said m before → decimal_from m digits ≡ Some n
    → Said n (before ++ digits)
names_further [] m n before positive said q =
    subst (λ (text : List ℕ). Said n text) (sym (append-nil before)) (subst (λ (k : ℕ). Said k before) (names_none m n q) said)
names_further (d ∷ digits) m n before positive said q =
    let x = names_digit m d digits n q in
    subst (λ (text : List ℕ). Said n text) (append_assoc before (d ∷ []) digits)
    (names_further digits (with m d) n (before ++ (d ∷ [])) (omega arith)
    (longer d positive x.0 x.1 said.0, omega (arith, x.2)) x.3)

-- the first digit
first_said : (d : ℕ) → 48 ≤ d → d ≤ 57 → Said (with 0 d) (d ∷ [])
first_said d low high =
    let back : 48 + (d - 48) ≡ d = omega arith in
    let same : d - 48 ≡ with 0 d = omega arith in
    let one_digit : Decimal (d - 48) (d ∷ []) = subst (λ (b : ℕ). Decimal (d - 48) (b ∷ [])) back (digit (d - 48) (omega arith)) in
    (subst (λ (k : ℕ). Decimal k (d ∷ [])) same one_digit, omega arith)

pub names_decimal : (text : List ℕ) (n : ℕ) → decimal_of text ≡ Some n → Said n text
unfolding decimal_of
names_decimal [] n q = cc
names_decimal (d ∷ []) n q =
    let x = names_digit 0 d [] n q in
    subst (λ (k : ℕ). Said k (d ∷ [])) (names_none (with 0 d) n x.3) (first_said d x.0 x.1)
names_decimal (d ∷ e ∷ digits) n q = go (eqb d 48) refl q
  where
    go : (t : Bool) → eqb d 48 ≡ t → cond t None (decimal_from 0 (d ∷ e ∷ digits)) ≡ Some n → Said n (d ∷ e ∷ digits)
    go true h r = cc
    go false h r =
        let x = names_digit 0 d (e ∷ digits) n r in
        elim (dec_lt 48 d) [
          | yes above ↦ names_further (e ∷ digits) (with 0 d) n (d ∷ []) (omega arith) (first_said d x.0 x.1) x.3
          | no low ↦ absurd (eqb-false d 48 h (omega (arith, x.0)))
        ]

-- ---- from the decimal to the reader

names_on : (m d : ℕ) (digits : List ℕ) → 48 ≤ d → d ≤ 57 → with m d ≤ 4294967295
    → decimal_from m (d ∷ digits) ≡ decimal_from (with m d) digits
unfolding decimal_from
names_on m d digits low high fit = rw (between_yes 48 57 d low high, le-leb (with m d) 4294967295 fit)

names_end : (m n : ℕ) → m ≡ n → decimal_from m [] ≡ Some n
unfolding decimal_from
names_end m n same = ap Some same

-- one digit more at the right
names_more : (text : List ℕ) (m n d : ℕ) → d < 10 → n * 10 + d < 4294967296 → decimal_from m text ≡ Some n
    → decimal_from m (text ++ ((48 + d) ∷ [])) ≡ Some (n * 10 + d)
names_more [] m n d small fit q =
    let same = names_none m n q in
    names_on m (48 + d) [] (omega arith) (omega arith) (omega arith) ∙ names_end (with m (48 + d)) (n * 10 + d) (omega arith)
names_more (c ∷ text) m n d small fit q =
    let x = names_digit m c text n q in
    names_on m c (text ++ ((48 + d) ∷ [])) x.0 x.1 x.2 ∙ names_more text (with m c) n d small fit x.3

names_all : {n : ℕ} {text : List ℕ} → Decimal n text → n < 4294967296 → decimal_from 0 text ≡ Some n
names_all (digit d small) fit = names_more [] 0 0 d small (omega arith) (names_end 0 0 refl) ∙ ap Some (omega arith)
names_all (further {n} {text} d positive small before) fit = names_more text 0 n d small fit (names_all before (omega arith))

-- the first digit is not zero
abbrev Leads : List ℕ → Type 0
Leads text = (d : ℕ) × (digits : List ℕ) × (text ≡ d ∷ digits) × (48 < d)

leads : {n : ℕ} {text : List ℕ} → Decimal n text → 0 < n → Leads text
leads (digit d small) positive = (48 + d, [], refl, omega arith)
leads (further d before-positive small before) positive =
    let x = leads before before-positive in
    (x.0, x.1 ++ ((48 + d) ∷ []), ap (λ (text : List ℕ). text ++ ((48 + d) ∷ [])) x.2, x.3)

alone : (d : ℕ) → decimal_of (d ∷ []) ≡ decimal_from 0 (d ∷ [])
unfolding decimal_of
alone d = refl

no_zero : (d : ℕ) (digits : List ℕ) → 48 < d → decimal_of (d ∷ digits) ≡ decimal_from 0 (d ∷ digits)
unfolding decimal_of
no_zero d [] above = alone d
no_zero d (e ∷ digits) above = rw (ne_eqb d 48 (λ same. omega arith))

pub decimal_names : {n : ℕ} {text : List ℕ} → Decimal n text → n < 4294967296 → decimal_of text ≡ Some n
decimal_names (digit d small) fit = alone (48 + d) ∙ names_all (digit d small) fit
decimal_names (further d positive small before) fit =
    let all = names_all (further d positive small before) fit in
    let x = leads (further d positive small before) (omega arith) in
    let same = subst (λ (t : List ℕ). decimal_of t ≡ decimal_from 0 t) (sym x.2) (no_zero x.0 x.1 x.3) in
    same ∙ all
