-- The pieces of a value, which the code's one loop over it reads: a character each, or a comment, which means nothing. Assumes nothing.
use Rattle.std.specs.Prelude.{ℕ, zero, suc, ◌<◌, ◌≤◌, ◌≡◌, cond, List, [], ◌∷◌, Option, None, Some, Result, Ok, ltb}
use Rattle.message.specs.Reading.{Reading, ◌>>=◌, is, has, said}
use Rattle.message.specs.Reading.Reading.{whole, refused}
use Rattle.message.specs.Markup.{bang_at}
use Rattle.message.specs.Values.{attribute_letter_at, text_letter_at}
use Rattle.message.specs.Words.{char}
use Rattle.message.specs.Characters.{Character}
use Rattle.message.specs.declared.Refusal.{Refusal}
use Rattle.values.specs.declared.meaning.Piece.{Piece}

abbrev pub of_letter : Character → Piece
of_letter c = record { end = c.end; code = Some c.code }

module _ (class : ℕ → ℕ) (s : List ℕ) where
  abbrev pub attribute_piece_at : ℕ → Reading Piece
  attribute_piece_at at = attribute_letter_at class s at >>= (λ c. whole (of_letter c))

  abbrev pub content_piece_at : ℕ → Reading Piece
  content_piece_at at =
      let comment = bang_at class s at >>= (λ e. whole (record { end = e; code = None })) in
      cond (has (is (char "<")) s at) comment (text_letter_at class s at >>= (λ c. whole (of_letter c)))

-- what a value means from a piece on, by what it means behind it
abbrev pub behind : Option ℕ → Reading (List ℕ) → Reading (List ℕ)
behind None others = others
behind (Some code) others = others >>= (λ codes. whole (code ∷ codes))

-- what the pieces from `at` up to `to` mean, as f reads them
unfoldable pub pieces_meaning : (ℕ → Reading Piece) → ℕ → ℕ → ℕ → Reading (List ℕ)
pieces_meaning f zero to at = refused 9 at
pieces_meaning f (suc fuel) to at = cond (ltb at to) (f at >>= (λ p. behind p.code (pieces_meaning f fuel to p.end))) (whole [])

-- ---- a way to read them, of which `Answers at r` says that the piece at the place may be read as r

-- each piece ends further on, in a message of n bytes
abbrev pub GoesOn : (ℕ → Result Piece Refusal → Type 0) → ℕ → Type 0
GoesOn Answers n = (at : ℕ) (r : Result Piece Refusal) (p : Piece) → Answers at r → r ≡ Ok p → (at < p.end) × (p.end ≤ n)

abbrev pub Reads : (ℕ → Result Piece Refusal → Type 0) → (ℕ → Reading Piece) → Type 0
Reads Answers f = (at : ℕ) (r : Result Piece Refusal) → Answers at r → said r ≡ f at
