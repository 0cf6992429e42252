-- Document 01, "The restricted XML": the class of each byte, which the table of 256 entries gives. Assumes nothing.
use Rattle.std.specs.Prelude.{ℕ, zero, suc, Bool, cond, not, ◌&&◌, ◌||◌, List, [], ◌∷◌, get_or, leb, eqb}
use Rattle.message.specs.Words.{char}

abbrev pub between : ℕ → ℕ → ℕ → Bool
between low high x = leb low x && leb x high

-- an ASCII letter or an underscore
abbrev pub name_start : ℕ → Bool
name_start x = between (char "A") (char "Z") x || (between (char "a") (char "z") x || eqb x (char "_"))

-- what may stand in a name but not begin one: a digit, a hyphen, a dot
abbrev pub name_only : ℕ → Bool
name_only x = between (char "0") (char "9") x || (eqb x (char "-") || eqb x (char "."))

-- tab, line feed, carriage return, space
abbrev pub white_space : ℕ → Bool
white_space x = eqb x 9 || (eqb x 10 || (eqb x 13 || eqb x 32))

-- what is a character of text by itself, beside the above: U+0021 to U+007F, but neither `<` nor `&`
abbrev pub legal_text : ℕ → Bool
legal_text x = between 33 127 x && (not (eqb x (char "<")) && not (eqb x (char "&")))

-- of legal text, what may begin or end something else: `]` for `]]>`, and the quotation marks
abbrev pub marking : ℕ → Bool
marking x = eqb x (char "]") || (eqb x (char "\"") || eqb x (char "'"))

-- 5 name start, 4 name, 3 white space, 2 and 1 legal text (1 where it is marking), 0 none. So one comparison tells what goes on without a further look.
unfoldable pub class_of : ℕ → ℕ
class_of x = cond (name_start x) 5 (cond (name_only x) 4 (cond (white_space x) 3 (cond (legal_text x) (cond (marking x) 1 2) 0)))

-- the table: the classes of n bytes from b on, and so of all 256
abbrev pub classes_from : ℕ → ℕ → List ℕ
classes_from b zero = []
classes_from b (suc n) = class_of b ∷ classes_from (suc b) n

abbrev pub class_table : List ℕ
class_table = classes_from 0 256

-- the class that a table gives, whatever its entries are: what lies outside of it has none
abbrev pub class_in : List ℕ → ℕ → ℕ
class_in table x = get_or table x 0

-- ---- What a reader asks of a byte, by its class. Every class but 0 is text.

module _ (class : ℕ → ℕ) where
  abbrev pub is_start : ℕ → Bool
  is_start x = eqb (class x) 5

  -- a class of at least k
  abbrev pub at_least : ℕ → ℕ → Bool
  at_least k x = leb k (class x)

  abbrev pub is_name : ℕ → Bool
  is_name = at_least 4

  abbrev pub is_space : ℕ → Bool
  is_space x = eqb (class x) 3

  abbrev pub is_text : ℕ → Bool
  is_text = at_least 1

  -- text that goes on without a further look, between tags and in values
  abbrev pub is_plain : ℕ → Bool
  is_plain = at_least 2

  -- the same in a comment, where `<` and `&` mean nothing and `-` may begin its end
  abbrev pub is_plain_note : ℕ → Bool
  is_plain_note x = (is_text x || (eqb x (char "<") || eqb x (char "&"))) && not (eqb x (char "-"))
