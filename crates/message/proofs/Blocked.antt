-- The machine does not go past a place where a refusal is due. Assumes nothing.
use Prim.Native.Nat.{ℕ, ◌+◌, ◌-◌, ◌<◌}
use mathlib.Core.Path.{◌≡◌, sym, ◌∙◌, ap, subst}
use mathlib.Core.Logic.{⊎_elim}
use mathlib.Core.Bool.{true, false, true≢false}
use mathlib.Core.List.{List, ◌++◌}
use native.Mathlib.Omega.{arith}
use lib.ListN.{length, take}
use borrow.Author.Tests.{lt-ltb, le-leb}
use Rattle.std.proofs.lemmas.Bool.Decides.{nat_tests}
use Rattle.message.specs.Class.{class_of, is_start, is_name}
use Rattle.message.specs.Reading.{is, byte_at, has, ends}
use Rattle.message.specs.Limits.{link_limits}
use Rattle.message.specs.Readable.{Continues, MarkupMayBegin, end_tags, Open, PartStands}
use Rattle.message.specs.Nine.{dead, unfinished}
use Rattle.message.specs.Due.{Opening, Due, nine, level, attribute, opening, long}
use Rattle.message.proofs.Laws.{or_true}
use Rattle.message.proofs.Automaton.{Ground, first, behind, State, ground, in_tag, goes, step, steps}
use Rattle.message.proofs.Dues as dues
use Rattle.message.proofs.Dues.{depth, too_deep, due, Here}
use Rattle.message.proofs.Accepted.{steps_from, readable_ends, goes_continues, may_ground}
use Rattle.message.proofs.Sound.{sane_at}
use Rattle.message.proofs.Inverse.{open_depth}
use Rattle.message.proofs.Past.{at_first}
use Rattle.message.proofs.Ways.{steps_at, goes_dead}
use Rattle.message.proofs.Spelling.{stands_opening}
use Rattle.message.proofs.Causes.{long_name}
use Rattle.message.proofs.TagInverse.{tag_inverse}
use Rattle.message.proofs.PartInverse.{part_inverse}

module _ (s : List ℕ) where
  -- ---- the state where a refusal is due

  -- where n elements are open the machine is that deep
  open_ground : (n p : ℕ) (st : State) → Here s st p → Open n (take p s) → (g : Ground) × (st ≡ ground g) × (depth g ≡ n)
  open_ground n p st here open-there =
      let x = may_ground link_limits s p st here open-there.markup in
      let at_ground : Here s (ground x.0) p = subst (λ (h : State). Here s h p) x.1 here in
      let closed : steps (ground x.0) (end_tags open-there.names) ≡ goes (ground behind) = sym (steps_from (ground first) (take p s)
      (end_tags open-there.names) (ground x.0) (steps_at link_limits s p (ground x.0) at_ground))
      ∙ readable_ends (take p s ++ end_tags open-there.names) open-there.closed in (
        x.0,
        x.1,
        open_depth x.0 (sane_at link_limits s p (ground x.0) at_ground) open-there.names open-there.named closed
            ∙ open-there.many,
      )

  level_due : (g : Ground) (p : ℕ) → depth g ≡ 32 → has (is 60) s p ≡ true → has (is_start class_of) s (p + 1) ≡ true
      → due link_limits s (ground g) p ≡ true
  level_due g p levels tag start = grind (arith, nat_tests)

  opening_due : (g : Ground) (p : ℕ) → has (is 60) s p ≡ true → dues.opening link_limits s g p ≡ true → due link_limits s (ground g) p ≡ true
  opening_due g p tag h = rw tag (sym (or_true (too_deep link_limits s g p) h))

  attribute_due : (n : List ℕ) (seen o : List (List ℕ)) (p : ℕ) → length seen ≡ 16 → has (is_start class_of) s p ≡ true
      → due link_limits s (in_tag true n seen o) p ≡ true
  attribute_due n seen o p many start = rw (start, le-leb 16 (length seen) (omega arith))

  -- ---- something is due, or the byte is dead

  module _ (p : ℕ) (st next : State) (here : Here s st p) (within : p < length s) (free : due link_limits s st p ≡ false) (going : step st (byte_at s p) ≡ goes next) where
    undue : (st' : State) → st ≡ st' → due link_limits s st' p ≡ true → ⊥
    undue st' same h = true≢false (sym (ap (λ (x : State). due link_limits s x p) same ∙ h) ∙ free)

    pub blocked : (n q : ℕ) → q ≡ p → Due s n q → ⊥
    blocked n q same (nine q' (dead inner on off)) =
        off (subst (λ (i : ℕ). Continues (take (i + 1) s)) (sym same) (goes_continues link_limits s st p here within next going))
    blocked n q same (nine q' (unfinished all on off)) = omega arith
    blocked n q same (level q' open-there tag start) =
        let x = open_ground 32 p st here (subst (λ (i : ℕ). Open 32 (take i s)) same open-there) in
        undue (ground x.0) x.1
        (level_due x.0 p x.2 (subst (λ (i : ℕ). has (is 60) s i ≡ true) same tag)
        (subst (λ (i : ℕ). has (is_start class_of) s (i + 1) ≡ true) same start))
    blocked n q same (attribute at to marked stands space start) =
        let x = tag_inverse link_limits s p st here at 16 to marked stands space (sym same) in
        undue (in_tag true x.0 x.1 x.2) x.3
        (attribute_due x.0 x.1 x.2 p x.4 (subst (λ (i : ℕ). has (is_start class_of) s i ≡ true) same start))
    blocked n q same (opening q' marked open-there) =
        let x = may_ground link_limits s p st here (subst (λ (i : ℕ). MarkupMayBegin (take i s)) same marked) in
        let at_ground : Here s (ground x.0) p = subst (λ (h : State). Here s h p) x.1 here in
        let y = stands_opening s link_limits x.0 p (at_first link_limits s p x.0 at_ground) (subst (Opening s) same open-there) in
        undue (ground x.0) x.1 (opening_due x.0 p y.0 y.1)
    blocked n q same (long at q' marked stands far) =
        let far_there : 64 < ends (is_name class_of) s p - p = subst (λ (i : ℕ). 64 < ends (is_name class_of) s i - i) same far in
        ⊎_elim (λ h. true≢false (sym h ∙ free)) (λ h. goes_dead (sym going ∙ h.1))
        (part_inverse link_limits s p st here at marked (subst (PartStands s at) same stands) (long_name s p 64 far_there)
        (lt-ltb 64 (ends (is_name class_of) s p - p) far_there)).1
