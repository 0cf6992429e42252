-- What the readers below are made of. A reader is given the whole message s and a place in it, and answers with what it has read, or with the number
-- and the place of a refusal. No reader goes past the end of the message: where it ends too soon, the place of refusal is its length. A reader that goes on by
-- turns is given fuel: that length, or one more where it may be whole at the message's end. Each turn takes a byte at least, so fuel can run out at the
-- message's end alone, where the answer is 9 at the length with more fuel too. Assumes nothing.
use Rattle.std.specs.Prelude.{ℕ, zero, suc, ◌+◌, ◌-◌, Bool, true, false, cond, ◌&&◌, ◌||◌, List, [], ◌∷◌, length, get_or, drop, ltb, leb, eqb}
use Rattle.message.specs.Class.{is_space}
use Rattle.message.specs.Words.{char}
use Rattle.message.specs.declared.Reason.{Reason}
use Rattle.message.specs.declared.Reason.TheVariants as reasons
use Rattle.message.specs.declared.Refusal.{Refusal}
use Rattle.std.specs.Prelude.{Result, Ok, Err}

pub data Reading (A : Type 0) : Type 0 where
  whole : A → Reading A
  refused : ℕ → ℕ → Reading A

infixl 10 ◌>>=◌
-- one reading and then another, from what the first has read: what the `do` blocks are made of
abbrev pub ◌>>=◌ : {A B : Type 0} → Reading A → (A → Reading B) → Reading B
◌>>=◌ (whole x) next = next x
◌>>=◌ (refused number place) next = refused number place

abbrev pub is_whole : {A : Type 0} → Reading A → Bool
is_whole (whole x) = true
is_whole (refused number place) = false

-- ---- one byte

abbrev pub is : ℕ → ℕ → Bool
is b x = eqb x b

abbrev pub byte_at : List ℕ → ℕ → ℕ
byte_at s at = get_or s at 0

-- a byte that passes the test stands at the place
unfoldable pub has : (ℕ → Bool) → List ℕ → ℕ → Bool
has test s at = ltb at (length s) && test (byte_at s at)

-- reads one byte that passes the test: the place behind it
unfoldable pub one : (ℕ → Bool) → List ℕ → ℕ → Reading ℕ
one test s at = cond (has test s at) (whole (at + 1)) (refused 9 at)

-- ---- as many bytes as pass a test

unfoldable pub span : (ℕ → Bool) → List ℕ → ℕ
span test [] = 0
span test (x ∷ xs) = cond (test x) (suc (span test xs)) 0

-- the place behind them
unfoldable pub ends : (ℕ → Bool) → List ℕ → ℕ → ℕ
ends test s at = at + span test (drop at s)

-- how many of them stand from the place on, of at most k
unfoldable pub up_to : ℕ → (ℕ → Bool) → List ℕ → ℕ → ℕ
up_to zero test s at = 0
up_to (suc k) test s at = cond (has test s at) (suc (up_to k test s (at + 1))) 0

-- ---- the bytes of a word, one by one

unfoldable pub word_at : List ℕ → List ℕ → ℕ → Reading ℕ
word_at [] s at = whole at
word_at (x ∷ word) s at = do
  next ← one (is x) s at
  word_at word s next

-- ---- white space, and what stands between a name and its value

abbrev pub is_quote : ℕ → Bool
is_quote x = eqb x (char "\"") || eqb x (char "'")

module _ (class : ℕ → ℕ) where
  abbrev pub blanks : List ℕ → ℕ → ℕ
  blanks = ends (is_space class)

  -- `=` with white space around it or none
  unfoldable pub equals_at : List ℕ → ℕ → Reading ℕ
  equals_at s at = do
    next ← one (is (char "=")) s (blanks s at)
    whole (blanks s next)

  -- `=` and a quotation mark: the place behind it, where the value begins
  unfoldable pub opened_at : List ℕ → ℕ → Reading ℕ
  opened_at s at = do
    mark ← equals_at s at
    one is_quote s mark

-- the quotation mark at `to` that ends the value from `from` on: the one that stands before it
unfoldable pub closed_at : List ℕ → ℕ → ℕ → Reading ℕ
closed_at s from to = cond (ltb 0 from && leb from (length s)) (one (is (byte_at s (from - 1))) s to) (refused 9 to)

-- ---- what the code says of a reading

-- document 01's number of a refusal
abbrev pub reason_number : Reason → ℕ
reason_number reasons.TooLong = 8
reason_number reasons.NotWellFormed = 9
reason_number reasons.TooDeep = 10
reason_number reasons.TooManyAttributes = 11
reason_number reasons.LeftOut = 12
reason_number reasons.NoneOfTheSeven = 13
reason_number reasons.NameTooLong = 14

abbrev pub said : {A : Type 0} → Result A Refusal → Reading A
said (Ok x) = whole x
said (Err r) = refused (reason_number r.reason) r.place
