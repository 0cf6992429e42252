-- Laws about specs/Lists: lists one behind the other, tests one after the other, how long a list can get, and numbers among others.
-- Assumes nothing.
use mathlib.Core.Path.{◌≡◌, refl, sym, ap, ap₂, ◌∙◌}
use mathlib.Core.Bool.{Bool, true, false, cond, not, ◌&&◌, ◌||◌, and_assoc, or_assoc}
use mathlib.Core.List.{List, [], ◌∷◌, ◌++◌, append-nil, append_assoc}
use Prim.Native.Nat.{ℕ, ◌≤◌}
use native.Mathlib.Omega.{arith}
use lib.Dec.{eqb}
use lib.ListN.{length, length-append}
use borrow.Author.Tests.{not-true}
use Rattle.std.proofs.lemmas.Bool.Decides.{nat_tests}
use Rattle.std.proofs.lemmas.Bool.{and_from, and_parts, or_parts}
use Rattle.conduct.specs.Lists.{flat, only, those, some, all, among, distinct}

-- ---- lists one behind the other

pub flat_append : {A B : Type 0} (f : A → List B) (xs ys : List A) → flat f (xs ++ ys) ≡ flat f xs ++ flat f ys
flat_append f [] ys = refl
flat_append {B = B} f (x ∷ xs) ys =
    ap (λ (zs : List B). f x ++ zs) (flat_append f xs ys) ∙ sym (append_assoc (f x) (flat f xs) (flat f ys))

pub flat_flat : {A B C : Type 0} (f : B → List C) (g : A → List B) (xs : List A) → flat f (flat g xs) ≡ flat (λ (x : A). flat f (g x)) xs
flat_flat f g [] = refl
flat_flat {C = C} f g (x ∷ xs) = flat_append f (g x) (flat g xs) ∙ ap (λ (ys : List C). flat f (g x) ++ ys) (flat_flat f g xs)

pub some_append : {A : Type 0} (test : A → Bool) (xs ys : List A) → some test (xs ++ ys) ≡ (some test xs || some test ys)
some_append test [] ys = refl
some_append test (x ∷ xs) ys =
    ap (λ (b : Bool). test x || b) (some_append test xs ys) ∙ sym (or_assoc (test x) (some test xs) (some test ys))

pub all_append : {A : Type 0} (test : A → Bool) (xs ys : List A) → all test (xs ++ ys) ≡ (all test xs && all test ys)
all_append test [] ys = refl
all_append test (x ∷ xs) ys =
    ap (λ (b : Bool). test x && b) (all_append test xs ys) ∙ sym (and_assoc (test x) (all test xs) (all test ys))

-- ---- element by element

pub flat_same : {A B : Type 0} (f g : A → List B) → ((x : A) → f x ≡ g x) → (xs : List A) → flat f xs ≡ flat g xs
flat_same f g h [] = refl
flat_same f g h (x ∷ xs) = ap₂ ◌++◌ (h x) (flat_same f g h xs)

pub flat_nothing : {A B : Type 0} (f : A → List B) → ((x : A) → f x ≡ []) → (xs : List A) → flat f xs ≡ []
flat_nothing f h [] = refl
flat_nothing f h (x ∷ xs) = ap₂ ◌++◌ (h x) (flat_nothing f h xs)

-- ---- tests

-- a list none of whose elements passes
pub none_those : {A : Type 0} (test : A → Bool) (xs : List A) → some test xs ≡ false → those test xs ≡ []
none_those test [] h = refl
none_those test (x ∷ xs) h =
    let e = or_parts (test x) (some test xs) h in
    rw e.0 (none_those test xs e.1)

pub those_same : {A : Type 0} (q r : A → Bool) → ((x : A) → q x ≡ r x) → (xs : List A) → those q xs ≡ those r xs
those_same q r h xs = flat_same (only q) (only r) (λ x. ap (λ (b : Bool). cond b (x ∷ []) []) (h x)) xs

-- two tests one after the other
pub those_those : {A : Type 0} (q r : A → Bool) (xs : List A) → those q (those r xs) ≡ those (λ (x : A). r x && q x) xs
those_those q r [] = refl
those_those q r (x ∷ xs) = flat_append (only q) (only r x) (those r xs) ∙ ap₂ ◌++◌ (go (r x)) (those_those q r xs)
  where
    go : (b : Bool) → those q (cond b (x ∷ []) []) ≡ cond (b && q x) (x ∷ []) []
    go true = append-nil (only q x)
    go false = refl

-- where the values of f pass a test just if their source passes another
pub sieve : {A B : Type 0} (q : B → Bool) (r : A → Bool) (f : A → List B) → ((x : A) → those q (f x) ≡ cond (r x) (f x) [])
    → (xs : List A) → those q (flat f xs) ≡ flat f (those r xs)
sieve q r f h [] = refl
sieve q r f h (x ∷ xs) =
    flat_append (only q) (f x) (flat f xs)
    ∙ (ap₂ ◌++◌ (h x ∙ go (r x)) (sieve q r f h xs) ∙ sym (flat_append f (only r x) (those r xs)))
  where
    go : (b : Bool) → cond b (f x) [] ≡ flat f (cond b (x ∷ []) [])
    go true = sym (append-nil (f x))
    go false = refl

-- whether one, or all, of f's values pass
pub some_flat : {A B : Type 0} (test : B → Bool) (f : A → List B) (xs : List A)
    → some test (flat f xs) ≡ some (λ (x : A). some test (f x)) xs
some_flat test f [] = refl
some_flat test f (x ∷ xs) = some_append test (f x) (flat f xs) ∙ ap (λ (b : Bool). some test (f x) || b) (some_flat test f xs)

pub all_flat : {A B : Type 0} (test : B → Bool) (f : A → List B) (xs : List A)
    → all test (flat f xs) ≡ all (λ (x : A). all test (f x)) xs
all_flat test f [] = refl
all_flat test f (x ∷ xs) = all_append test (f x) (flat f xs) ∙ ap (λ (b : Bool). all test (f x) && b) (all_flat test f xs)

-- what follows from a test that each element passes
pub all_implies : {A : Type 0} (q r : A → Bool) → ((x : A) → q x ≡ true → r x ≡ true) → (xs : List A)
    → all q xs ≡ true → all r xs ≡ true
all_implies q r h [] e = refl
all_implies q r h (x ∷ xs) e =
    let f = and_parts (q x) (all q xs) e in
    and_from _ _ (h x f.0) (all_implies q r h xs f.1)

pub all_always : {A : Type 0} (test : A → Bool) → ((x : A) → test x ≡ true) → (xs : List A) → all test xs ≡ true
all_always test h [] = refl
all_always test h (x ∷ xs) = and_from _ _ (h x) (all_always test h xs)

pub some_never : {A : Type 0} (test : A → Bool) → ((x : A) → test x ≡ false) → (xs : List A) → some test xs ≡ false
some_never test h [] = refl
some_never test h (x ∷ xs) = rw (h x) (some_never test h xs)

-- ---- how long

-- where each element gives one at most
pub length_flat_le : {A B : Type 0} (f : A → List B) → ((x : A) → length (f x) ≤ 1) → (xs : List A) → length (flat f xs) ≤ length xs
length_flat_le f h [] = omega arith
length_flat_le f h (x ∷ xs) = omega (arith, h x, length-append (f x) (flat f xs), length_flat_le f h xs)

pub length_those : {A : Type 0} (test : A → Bool) (xs : List A) → length (those test xs) ≤ length xs
length_those {A = A} test xs = length_flat_le (only test) (λ x. go x (test x)) xs
  where
    go : (x : A) (b : Bool) → length (cond b (x ∷ []) []) ≤ 1
    go x true = omega arith
    go x false = omega arith

-- ---- numbers among others

pub among_append : (n : ℕ) (xs ys : List ℕ) → among n (xs ++ ys) ≡ (among n xs || among n ys)
among_append n xs ys = some_append (eqb n) xs ys

pub eqb_sym : (m n : ℕ) → eqb m n ≡ eqb n m
eqb_sym m n = grind (arith, nat_tests)

-- the parts of a list in which no number comes twice
pub distinct_head : (x : ℕ) (xs : List ℕ) → distinct (x ∷ xs) ≡ true → among x xs ≡ false
distinct_head x xs h = not-true (among x xs) (and_parts (not (among x xs)) (distinct xs) h).0

pub distinct_tail : (x : ℕ) (xs : List ℕ) → distinct (x ∷ xs) ≡ true → distinct xs ≡ true
distinct_tail x xs h = (and_parts (not (among x xs)) (distinct xs) h).1

pub distinct_cons : (x : ℕ) (xs : List ℕ) → among x xs ≡ false → distinct xs ≡ true → distinct (x ∷ xs) ≡ true
distinct_cons x xs a d = rw (a, d)

pub distinct_back : (xs ys : List ℕ) → distinct (xs ++ ys) ≡ true → distinct ys ≡ true
distinct_back [] ys h = h
distinct_back (x ∷ xs) ys h = distinct_back xs ys (distinct_tail x (xs ++ ys) h)

-- one number more, behind the others, that is not among them
pub distinct_more : (xs : List ℕ) (n : ℕ) → distinct xs ≡ true → among n xs ≡ false → distinct (xs ++ n ∷ []) ≡ true
distinct_more [] n d a = refl
distinct_more (x ∷ xs) n d a =
    let e = or_parts (eqb n x) (among n xs) a in
    let other : among x (xs ++ n ∷ []) ≡ false =
    among_append x xs (n ∷ []) ∙ rw (distinct_head x xs d, eqb_sym x n, e.0)
    in
    distinct_cons x (xs ++ n ∷ []) other (distinct_more xs n (distinct_tail x xs d) e.1)
