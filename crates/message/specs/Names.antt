-- Document 01, "The restricted XML": names, of one part or two joined by a colon, and refusal 14 (docs/DECISIONS.md, "14 looks at the longest run").
-- Assumes nothing.
use Rattle.std.specs.Prelude.{ℕ, ◌+◌, ◌-◌, cond, List, ltb}
use Rattle.message.specs.Class.{is_start, is_name}
use Rattle.message.specs.Reading.{Reading, ◌>>=◌, is, has, one, ends}
use Rattle.message.specs.Reading.Reading.{whole, refused}
use Rattle.message.specs.Words.{char}

-- a name that has been read: where it ends, and where the part after any colon begins
pub record Named : Type 0 where
  pub local : ℕ
  pub end : ℕ

module _ (class : ℕ → ℕ) (most : ℕ) where
  -- the run of name bytes from the place is no longer than a part may be
  unfoldable pub short_at : List ℕ → ℕ → Reading ℕ
  short_at s at = cond (ltb most (ends (is_name class) s at - at)) (refused 14 at) (whole (ends (is_name class) s at))

  -- one part: at one place 9 goes before 14
  unfoldable pub part_at : List ℕ → ℕ → Reading ℕ
  part_at s at = do
    next ← one (is_start class) s at
    short_at s at

  unfoldable pub name_at : List ℕ → ℕ → Reading Named
  name_at s at = do
    first ← part_at s at
    let second = part_at s (first + 1) >>= (λ last. whole (record { local = first + 1; end = last })) in
        cond (has (is (char ":")) s first) second (whole (record { local = at; end = first }))
