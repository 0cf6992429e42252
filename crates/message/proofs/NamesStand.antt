-- Names (specs/Seven): the part that elements are called by stands behind the name's one colon, if it has one, and the words are those of the documents.
-- Assumes nothing.
use Prim.Native.Nat.{ℕ, ◌-◌, ◌<◌, ◌≤◌}
use mathlib.Core.Path.{◌≡◌, refl, sym, ◌∙◌, ap, subst}
use mathlib.Core.List.{List}
use native.Mathlib.Omega.{arith}
use native.Mathlib.Decide.{dec_lt}
use lib.ListN.{length}
use Rattle.message.specs.Class.{class_of, is_name}
use Rattle.message.specs.Reading.{byte_at, ends}
use Rattle.message.specs.Names.{Named}
use Rattle.message.specs.Seven.{Local, LocalNames, NamesAre}
use Rattle.message.specs.Seven.Local.{undivided, divided}
use Rattle.message.proofs.Laws.{ends_from}
use Rattle.message.proofs.Runs.{byte_is, start_in_name}
use Rattle.message.proofs.Unquoted.{Free, free_none, free_run}
use Rattle.message.proofs.Shapes.{Shape, name_shape}
use Rattle.message.proofs.Shapes.Shape.{single, double}

-- no colon stands in a part of a name
part_free : (s : List ℕ) (at end : ℕ) → end ≡ ends (is_name class_of) s at → Free s 58 at end
unfolding class_of
part_free s at end h = subst (Free s 58 at) (sym h) (free_run s 58 (is_name class_of) refl (length s) at at (omega arith) (free_none s 58 at))

shape_local : (s : List ℕ) (at : ℕ) (name : Named) → Shape class_of s at name → Local s at name
shape_local s at name (single starts no-colon local-is end_is) = undivided local-is (part_free s at name.end end_is)
shape_local s at name (double starts colon local-is begins end_is) =
    divided (omega (arith, ends_from (is_name class_of) s at)) (omega (arith, start_in_name class_of s name.local begins))
    (ap (byte_at s) before ∙ byte_is 58 s (ends (is_name class_of) s at) colon) one_colon
  where
    before : name.local - 1 ≡ ends (is_name class_of) s at
    before = omega (arith, local-is)

    one_colon : (i : ℕ) → at ≤ i → i < name.end → byte_at s i ≡ 58 → i ≡ name.local - 1
    one_colon i from to e =
        elim (dec_lt i (name.local - 1)) [
          | yes h ↦ absurd (part_free s at (name.local - 1) before i from h e)
          | no h ↦ elim (dec_lt i name.local) [
            | yes h' ↦ omega arith
            | no h' ↦ absurd (part_free s name.local name.end end_is i (omega arith) to e)
          ]
        ]

pub local_names : LocalNames
local_names s at name stands = shape_local s at name (name_shape class_of s at stands.0 name stands.1)

pub names_are : NamesAre
names_are = (refl, refl, refl, refl, refl, refl, refl, refl, refl, refl, refl, refl, refl, refl)
