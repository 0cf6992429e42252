-- What bytes that may follow say of the state that the machine is in: where a comment may stand markup may begin, and as many end tags as
-- end a message are the elements that are open. Assumes nothing.
use Prim.Native.Nat.{ℕ, zero, suc}
use mathlib.Core.Path.{◌≡◌, refl, sym, ap}
use mathlib.Core.Bool.{Bool, true, false, cond, ◌||◌}
use mathlib.Core.List.{List, [], ◌∷◌, ◌++◌}
use native.Mathlib.Omega.{arith}
use lib.ListN.{length}
use lib.Dec.{eqb}
use Rattle.std.proofs.lemmas.Bool.Decides.{nat_tests}
use Rattle.message.specs.Class.{class_of, is_name}
use Rattle.message.specs.Reading.{is}
use Rattle.message.specs.Elements.{is_known}
use Rattle.message.specs.Readable.{a_comment, end_tags, NameLike, EachNameLike}
use Rattle.message.proofs.Laws.{on_either}
use Rattle.message.proofs.Ways.{goes_dead}
use Rattle.message.proofs.Bytes.{Letter, quote_no_tag, letter_not, letter_solid}
use Rattle.message.proofs.Automaton.{Ground, first, before, behind, inside, State, ground, opened, expect, blanks, declared, version_quote, encoding_quote, versioned, encoding_name, note, second, ampersand, ampersand_a, hash, first_digit, number, name, colon, in_tag, slash, attribute, attribute_colon, quote, value, close, Next, dead, goes, rest, after, closing, step, steps}
use Rattle.message.proofs.Dues.{depth}
use Rattle.message.proofs.Sound.{Sane, later_solid}

-- no way on from a state that dies on a byte
dies_there : (st next : State) (x : ℕ) (w : List ℕ) → step st x ≡ dead → steps st (x ∷ w) ≡ goes next → ⊥
unfolding steps
dies_there st next x w h e = goes_dead (sym (rw (h, steps) at e))

-- a byte that stands in no name is none of it
letter_no : (b : ℕ) → (is_name class_of b || eqb b 58) ≡ false → (x : ℕ) → Letter x → is x b ≡ false
letter_no b out x h = grind (arith, nat_tests)

-- ---- a comment

no_comment : (st next : State) → step st 60 ≡ dead → steps st a_comment ≡ goes next → ⊥
no_comment st next h e = dies_there st next 60 (33 ∷ 45 ∷ 45 ∷ 32 ∷ 45 ∷ 45 ∷ 62 ∷ []) h e

pub comment_ground : (st : State) → Sane st → (next : State) → steps st a_comment ≡ goes next → (g : Ground) × (st ≡ ground g)
unfolding class_of steps
comment_ground (ground g) h next e = (g, refl)
comment_ground (opened first) h next e = absurd (goes_dead (sym e))
comment_ground (opened before) h next e = absurd (goes_dead (sym e))
comment_ground (opened behind) h next e = absurd (goes_dead (sym e))
comment_ground (opened (inside b v o)) h next e = absurd (goes_dead (sym e))
comment_ground (expect t ts k) h next e = absurd (no_comment (expect t ts k) next (rw h.0.0) e)
comment_ground (blanks t solid ts k) h next e = absurd (no_comment (blanks t solid ts k) next (rw h.0.0) e)
comment_ground declared h next e = absurd (goes_dead (sym e))
comment_ground version_quote h next e = absurd (goes_dead (sym e))
comment_ground encoding_quote h next e = absurd (goes_dead (sym e))
comment_ground (versioned true) h next e = absurd (goes_dead (sym e))
comment_ground (versioned false) h next e = absurd (goes_dead (sym e))
comment_ground (encoding_name q) h next e = absurd (goes_dead (sym e))
comment_ground (note zero k) h next e = absurd (goes_dead (sym e))
comment_ground (note (suc zero) k) h next e = absurd (goes_dead (sym e))
comment_ground (note (suc (suc n)) k) h next e = absurd (goes_dead (sym e))
comment_ground (second lead k) h next e =
    absurd (no_comment (second lead k) next (rw (later_solid (eqb lead 224) 160 (cond (eqb lead 237) 159 191) (omega arith))) e)
comment_ground (ampersand k) h next e = absurd (goes_dead (sym e))
comment_ground (ampersand_a k) h next e = absurd (goes_dead (sym e))
comment_ground (hash k) h next e = absurd (goes_dead (sym e))
comment_ground (first_digit hex k) h next e = absurd (goes_dead (sym e))
comment_ground (number hex n small k) h next e = absurd (goes_dead (sym e))
comment_ground (name t n o) h next e = absurd (goes_dead (sym e))
comment_ground (colon n o) h next e = absurd (goes_dead (sym e))
comment_ground (in_tag true n seen o) h next e = absurd (goes_dead (sym e))
comment_ground (in_tag false n seen o) h next e = absurd (goes_dead (sym e))
comment_ground (slash o) h next e = absurd (goes_dead (sym e))
comment_ground (attribute t a n seen o) h next e =
    absurd (no_comment (attribute t a n seen o) next (on_either (λ (m : Next). m ≡ dead) (is_known a seen) refl refl) e)
comment_ground (attribute_colon a n seen o) h next e = absurd (goes_dead (sym e))
comment_ground (quote n seen o) h next e = absurd (goes_dead (sym e))
comment_ground (value q n seen o) h next e = absurd (no_comment (value q n seen o) next (rw (quote_no_tag q h.0)) e)
comment_ground (close y w fresh o) h next e = absurd (no_comment (close y w fresh o) next (rw (letter_no 60 refl y h.0.0)) e)

pub ground_comment : (g : Ground) → steps (ground g) a_comment ≡ goes (ground (rest g))
unfolding class_of steps
ground_comment g = refl

-- ---- end tags

-- an end tag's name, or what is left of it, and the `>`, with the name that stands there
closes_one : (v : List ℕ) (fresh : Bool) (o : List (List ℕ)) (n u : List ℕ) (end : State) → NameLike v → NameLike n
    → steps (closing v fresh o) (n ++ (62 ∷ u)) ≡ goes end → steps (after o) u ≡ goes end
unfolding class_of steps
closes_one [] fresh o [] u end hv hn e = e
closes_one [] fresh o (x ∷ n) u end hv hn e =
    absurd (dies_there (closing [] fresh o) end x (n ++ (62 ∷ u)) (rw (letter_solid x hn.0, letter_not 62 refl x hn.0)) e)
closes_one (y ∷ v) fresh o [] u end hv hn e =
    absurd (dies_there (close y v fresh o) end 62 u (rw (letter_no 62 refl y hv.0)) e)
closes_one (y ∷ v) fresh o (x ∷ n) u end hv hn e = go (is y x) refl (closes_one v (is 58 y) o n u end hv.1 hn.1)
  where
    go : (t : Bool) → is y x ≡ t → (steps (closing v (is 58 y) o) (n ++ (62 ∷ u)) ≡ goes end → steps (after o) u ≡ goes end)
        → steps (after o) u ≡ goes end
    go true q more = more (rw (q, steps) at e)
    go false q more = absurd (dies_there (close y v fresh o) end x (n ++ (62 ∷ u)) (rw q) e)

pub open_depth : (g : Ground) → Sane (ground g) → (names : List (List ℕ)) → EachNameLike names
    → steps (ground g) (end_tags names) ≡ goes (ground behind) → depth g ≡ length names
unfolding class_of steps
open_depth g h [] each e = let z : g ≡ behind = cc in ap depth z
open_depth first h (n ∷ names) each e = absurd (goes_dead (sym e))
open_depth before h (n ∷ names) each e = absurd (goes_dead (sym e))
open_depth behind h (n ∷ names) each e = absurd (goes_dead (sym e))
open_depth (inside b v o) h (n ∷ names) each e =
    ap suc (go o h.1 (closes_one v true o n (end_tags names) (ground behind) h.0 each.0 e)
    (λ g so. open_depth g so names each.1))
  where
    go : (o : List (List ℕ)) → EachNameLike o → steps (after o) (end_tags names) ≡ goes (ground behind)
        → ((g : Ground) → Sane (ground g) → steps (ground g) (end_tags names) ≡ goes (ground behind) → depth g ≡ length names)
        → length o ≡ length names
    go [] so ends more = more behind tt ends
    go (v ∷ o) so ends more = more (inside 0 v o) so ends
