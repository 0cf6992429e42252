-- What the machine's causes are in the words of specs/Due: where the link's reading is refused, that refusal is due there. Assumes nothing.
use Prim.Native.Nat.{ℕ, ◌+◌, ◌-◌, ◌<◌}
use mathlib.Core.Path.{◌≡◌, refl, sym, ◌∙◌, ap, subst}
use mathlib.Core.Bool.{Bool, true, false, not, ◌&&◌}
use mathlib.Core.List.{List, [], ◌∷◌, ◌++◌}
use native.Mathlib.Omega.{arith}
use lib.ListN.{length, take}
use lib.Dec.{leb}
use borrow.Author.Tests.{ltb-true}
use Rattle.std.proofs.lemmas.Bool.{and_parts}
use Rattle.message.specs.Class.{class_of, is_start, is_name}
use Rattle.message.specs.Reading.{is, byte_at, has, ends}
use Rattle.message.specs.Limits.{link_limits}
use Rattle.message.specs.Readable.{Continues, end_tags, Open, TagStands}
use Rattle.message.specs.Due.{Due, nine, level, attribute, opening, long}
use Rattle.message.proofs.Laws.{has_lt, has_byte, ends_stop}
use Rattle.message.proofs.Past.{at_start}
use Rattle.message.proofs.Bytes.{other_than, start_no_space, slash_no_start, greater_no_start}
use Rattle.message.proofs.Automaton.{Ground, first, before, behind, inside, State, ground, opened, in_tag, goes, step}
use Rattle.message.proofs.Automaton as automaton
use Rattle.message.proofs.Dues.{is_behind, depth, Here}
use Rattle.message.proofs.Going.{Cause, dies, cut, deep, crowded, opens, longs}
use Rattle.message.proofs.Accepted.{steps_from, ends_readable, goes_continues, dead_nine, cut_nine, marked_may}
use Rattle.message.proofs.Endings.{finishes}
use Rattle.message.proofs.Sound.{sane_at}
use Rattle.message.proofs.Spelling.{opening_stands}
use Rattle.message.proofs.Ways.{steps_at}

in_tag_goes : (n : List ℕ) (seen o : List (List ℕ)) (x : ℕ) → is_start class_of x ≡ true
    → step (in_tag true n seen o) x ≡ goes (automaton.attribute false (x ∷ []) n seen o)
in_tag_goes n seen o x start =
    rw (
      start_no_space x start,
      other_than (is_start class_of) 47 slash_no_start x start,
      other_than (is_start class_of) 62 greater_no_start x start,
      start,
    )

module _ (s : List ℕ) where
  -- ---- levels

  -- end tags for all open elements end the message
  ground_open : (g : Ground) (p : ℕ) → Here s (ground g) p → depth g ≡ 32 → Open 32 (take p s)
  ground_open first p here levels = absurd (omega arith)
  ground_open before p here levels = absurd (omega arith)
  ground_open behind p here levels = absurd (omega arith)
  ground_open (inside b v o) p here levels = record {
    markup = marked_may link_limits s p (inside b v o, here);
    names = v ∷ o;
    many = levels;
    named = sane_at link_limits s p (ground (inside b v o)) here;
    closed = ends_readable (take p s ++ end_tags (v ∷ o))
        (steps_from (ground first) (take p s) (end_tags (v ∷ o)) (ground (inside b v o))
        (steps_at link_limits s p (ground (inside b v o)) here)
        ∙ finishes (ground (inside b v o)));
  }

  -- ---- each cause

  pub cause_due : (st : State) (p n : ℕ) → Here s st p → Cause link_limits s st p n → Due s n p
  cause_due st p n here (dies within dying) = nine p (dead_nine link_limits s st p here within dying)
  cause_due st p n here (cut out more) = nine p (cut_nine link_limits s st p here out more)
  cause_due st p n here (deep g q tag far levels) =
      level p (ground_open g p (subst (λ (x : State). Here s x p) q here) levels) tag
      (and_parts (leb 32 (depth g) && not (is_behind g)) (has (is_start class_of) s (p + 1)) far).1
  cause_due st p n here (crowded m seen o q start many crowd) =
      subst (Due s 11) (sym crowd.begins)
      (attribute crowd.at crowd.to (marked_may link_limits s crowd.at crowd.marked)
      (subst (λ (k : ℕ). TagStands s crowd.at k crowd.to) many crowd.stands) crowd.space
      (subst (λ (i : ℕ). has (is_start class_of) s i ≡ true) crowd.begins start))
  cause_due st p n here (opens g q tag open-there) =
      let at_ground : Here s (ground g) p = subst (λ (x : State). Here s x p) q here in
      opening p (marked_may link_limits s p (g, at_ground))
      (opening_stands s link_limits g p (at_start link_limits s p g at_ground) tag open-there)
  cause_due st p n here (longs due far next q roomy part) =
      long part.at p (marked_may link_limits s part.at part.marked) part.stands (ltb-true 64 (ends (is_name class_of) s p - p) far)

  -- a byte of a name stands where a long run begins
  pub long_name : (p most : ℕ) → most < ends (is_name class_of) s p - p → has (is_name class_of) s p ≡ true
  long_name p most far = go (has (is_name class_of) s p) refl
    where
      go : (t : Bool) → has (is_name class_of) s p ≡ t → has (is_name class_of) s p ≡ true
      go true h = h
      go false h = absurd (omega (arith, ends_stop (is_name class_of) s p h))

  tag_goes : (st : State) (g : Ground) (p : ℕ) → Here s st p → st ≡ ground g → has (is 60) s p ≡ true
      → (p < length s) × Continues (take (p + 1) s)
  tag_goes st g p here q tag = (
    has_lt (is 60) s p tag,
    goes_continues link_limits s st p here (has_lt (is 60) s p tag) (opened g)
        (ap (λ (x : State). step x (byte_at s p)) q ∙ rw (has_byte (is 60) s p tag)),
  )

  -- a byte that is refused with another number than 9 could have gone on
  pub cause_goes : (st : State) (p n : ℕ) → Here s st p → Cause link_limits s st p n → (n ≡ 9 → ⊥)
      → (p < length s) × Continues (take (p + 1) s)
  cause_goes st p n here (dies within dying) other = absurd (other refl)
  cause_goes st p n here (cut out more) other = absurd (other refl)
  cause_goes st p n here (deep g q tag far levels) other = tag_goes st g p here q tag
  cause_goes st p n here (crowded m seen o q start many crowd) other = (
    has_lt (is_start class_of) s p start,
    goes_continues link_limits s st p here (has_lt (is_start class_of) s p start) _
        (ap (λ (x : State). step x (byte_at s p)) q ∙ in_tag_goes m seen o (byte_at s p) (has_byte (is_start class_of) s p start)),
  )
  cause_goes st p n here (opens g q tag open-there) other = tag_goes st g p here q tag
  cause_goes st p n here (longs due far next q roomy part) other =
      let within : p < length s = has_lt (is_name class_of) s p (long_name p 64 (ltb-true 64 (ends (is_name class_of) s p - p) far)) in
      (within, goes_continues link_limits s st p here within next q)
