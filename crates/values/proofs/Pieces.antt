-- The pieces of a value: what it means, piece by piece, and that each piece ends past its place and within the message. Assumes nothing.
use Rattle.std.specs.Prelude.{Option, None, Some, Result}
use Prim.Native.Nat.{ℕ, zero, suc, ◌<◌, ◌≤◌}
use mathlib.Core.Path.{◌≡◌, refl, sym, ◌∙◌, ap, subst}
use mathlib.Core.Bool.{Bool, true, false, cond}
use mathlib.Core.List.{List, []}
use lib.ListN.{length}
use lib.Dec.{ltb}
use borrow.Author.Tests.{lt-ltb, le-ltb}
use Rattle.message.specs.Reading.{Reading, ◌>>=◌, is, has, said}
use Rattle.message.specs.Reading.Reading.{whole, refused}
use Rattle.message.specs.Characters.{Character}
use Rattle.message.specs.Markup.{bang_at}
use Rattle.message.specs.Values.{attribute_letter_at, text_letter_at, attribute_meaning, content_meaning}
use Rattle.message.specs.declared.Refusal.{Refusal}
use Rattle.message.proofs.Facts.{then_whole}
use Rattle.message.proofs.Letters.{attribute_letter_on, text_letter_on}
use Rattle.message.proofs.MarkupLoop.{bang_on}
use Rattle.message.proofs.Trees.{whole_same}
use Rattle.values.specs.Pieces.{of_letter, attribute_piece_at, content_piece_at, behind, pieces_meaning, Reads, GoesOn}
use Rattle.values.specs.declared.meaning.Piece.{Piece}

module _ (f : ℕ → Reading Piece) (to at : ℕ) where
  module _ (inside : at < to) where
    pub pieces_go : {p : Piece} {code : Option ℕ} → f at ≡ whole p → p.code ≡ code → (fuel : ℕ) → pieces_meaning f (suc fuel) to at ≡ behind code (pieces_meaning f fuel to p.end)
    unfolding pieces_meaning
    pieces_go q code_is fuel = rw (lt-ltb at to inside, q, code_is)

    pub pieces_stop : {n p : ℕ} → f at ≡ refused n p → (fuel : ℕ) → pieces_meaning f (suc fuel) to at ≡ refused n p
    unfolding pieces_meaning
    pieces_stop q fuel = rw (lt-ltb at to inside, q)

  pub pieces_end : to ≤ at → (fuel : ℕ) → pieces_meaning f (suc fuel) to at ≡ whole []
  unfolding pieces_meaning
  pieces_end over fuel = rw (le-ltb at to over)

module _ (class : ℕ → ℕ) (s : List ℕ) (to : ℕ) where
  pub attribute_pieces : (fuel at : ℕ) → pieces_meaning (attribute_piece_at class s) fuel to at ≡ attribute_meaning class s fuel to at
  unfolding pieces_meaning attribute_meaning
  attribute_pieces zero at = refl
  attribute_pieces (suc fuel) at = ap (λ (r : Reading (List ℕ)). cond (ltb at to) r (whole [])) (go (attribute_pieces fuel) (attribute_letter_at class s at))
    where
      go : ((e : ℕ) → pieces_meaning (attribute_piece_at class s) fuel to e ≡ attribute_meaning class s fuel to e) → (a : Reading Character)
          → ((a >>= (λ c. whole (of_letter c))) >>= (λ p. behind p.code (pieces_meaning (attribute_piece_at class s) fuel to p.end)))
          ≡ (a >>= (λ c. behind (Some c.code) (attribute_meaning class s fuel to c.end)))
      go others (whole c) = rw (others c.end)
      go others (refused number place) = refl

  pub content_pieces : (fuel at : ℕ) → pieces_meaning (content_piece_at class s) fuel to at ≡ content_meaning class s fuel to at
  unfolding pieces_meaning content_meaning
  content_pieces zero at = refl
  content_pieces (suc fuel) at =
      ap (λ (r : Reading (List ℕ)). cond (ltb at to) r (whole [])) (go (content_pieces fuel) (has (is 60) s at) (bang_at class s at) (text_letter_at class s at))
    where
      go : ((e : ℕ) → pieces_meaning (content_piece_at class s) fuel to e ≡ content_meaning class s fuel to e) → (t : Bool) (b : Reading ℕ) (a : Reading Character)
          → (cond t (b >>= (λ e. whole (record { end = e; code = None }))) (a >>= (λ c. whole (of_letter c))) >>= (λ p. behind p.code (pieces_meaning (content_piece_at class s) fuel to p.end)))
          ≡ cond t (b >>= content_meaning class s fuel to) (a >>= (λ c. behind (Some c.code) (content_meaning class s fuel to c.end)))
      go others true (whole e) a = others e
      go others true (refused number place) a = refl
      go others false b (whole c) = rw (others c.end)
      go others false b (refused number place) = refl

-- ---- each piece that is read ends further on

abbrev On : List ℕ → ℕ → Piece → Type 0
On s at p = (at < p.end) × (p.end ≤ length s)

module _ (class : ℕ → ℕ) (s : List ℕ) (at : ℕ) (p : Piece) where
  pub attribute_piece_on : attribute_piece_at class s at ≡ whole p → On s at p
  attribute_piece_on q =
      let x = then_whole (λ c. whole (of_letter c)) (attribute_letter_at class s at) p q in
      subst (On s at) (whole_same x.2) (attribute_letter_on class s at x.1)

  pub content_piece_on : content_piece_at class s at ≡ whole p → On s at p
  content_piece_on = go (has (is 60) s at)
    where
      comment : Reading Piece
      comment = bang_at class s at >>= (λ e. whole (record { end = e; code = None }))

      go : (t : Bool) → cond t comment (text_letter_at class s at >>= (λ c. whole (of_letter c))) ≡ whole p → On s at p
      go true q =
          let x = then_whole (λ e. whole (record { end = e; code = None })) (bang_at class s at) p q in
          subst (On s at) (whole_same x.2) (bang_on class s x.1)
      go false q =
          let x = then_whole (λ c. whole (of_letter c)) (text_letter_at class s at) p q in
          subst (On s at) (whole_same x.2) (text_letter_on class s at x.1)

-- what was read at a place, from what the code says of it and the case that this is
pub read_is : {Answers : ℕ → Result Piece Refusal → Type 0} (f : ℕ → Reading Piece) → Reads Answers f → (at : ℕ) (r : Result Piece Refusal) {r' : Result Piece Refusal}
    → Answers at r → r ≡ r' → f at ≡ said r'
read_is f reads at r answers same = sym (reads at r answers) ∙ ap said same

-- so the loop over them ends
pub goes_on : {Answers : ℕ → Result Piece Refusal → Type 0} (f : ℕ → Reading Piece) (n : ℕ) → Reads Answers f
    → ((at : ℕ) (p : Piece) → f at ≡ whole p → (at < p.end) × (p.end ≤ n)) → GoesOn Answers n
goes_on f n reads further at r p answers same = further at p (read_is f reads at r answers same)
