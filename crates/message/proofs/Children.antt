-- The elements of a message that was read stand in it as they are listed. Assumes nothing.
use Prim.Native.Nat.{ℕ, zero, suc, ◌+◌, ◌-◌}
use mathlib.Core.Path.{◌≡◌, refl, ◌∙◌, ap}
use mathlib.Core.List.{List}
use native.Mathlib.Omega.{arith}
use lib.ListN.{length}
use Rattle.message.specs.Class.{class_of}
use Rattle.message.specs.Reading.{Reading}
use Rattle.message.specs.Reading.Reading.{whole}
use Rattle.message.specs.Limits.{Limits}
use Rattle.message.specs.Elements.{Element, Start, Content, start_at, end_tag_at, content_at, rest_at, element_at}
use Rattle.message.specs.Seven.{Holds, last, next, Inside, nothing, content, EachInside, ElementsStand}
use Rattle.message.proofs.Facts.{then_whole, start_starts, content_every, rest_cases, none_deep, document_element}

module _ (s : List ℕ) (l : Limits) where
  -- an element that is read at the place begins there, and stands with all inside it
  abbrev Placed : ℕ → Element → Type 0
  Placed at e = (e.tag.begin ≡ at + 1) × Inside s l e.tag e.inside × EachInside s l e.inside

  abbrev Places : (ℕ → Reading Element) → Type 0
  Places child = (at : ℕ) (e : Element) → child at ≡ whole e → Placed at e

  -- content and the end tag of an element
  abbrev Filled : Start → ℕ → Content → Type 0
  Filled st at c = Holds s at c.inside c.to × (end_tag_at class_of s l st.begin st.name (c.to + 2) ≡ whole c.end) × EachInside s l c.inside

  content_filled : (child : ℕ → Reading Element) → Places child → (st : Start) (at : ℕ) (c : Content)
      → content_at class_of s l (length s) child st at ≡ whole c → Filled st at c
  content_filled child places st =
      content_every class_of s l child st (Filled st) (λ at stop e f t h. (last f t, h, tt)) (λ at stop e c f h r.
      let placed = places stop e h in
      (next f placed.0 r.0, r.1, (placed.1, placed.2, r.2))) (length s)

  rest_placed : (child : ℕ → Reading Element) → Places child → (at : ℕ) (st : Start) → start_at class_of s l at ≡ whole st → (e : Element)
      → rest_at class_of s l child st ≡ whole e → Placed at e
  rest_placed child places at st started =
      rest_cases class_of s l child st (Placed at) (λ t. (begins, nothing st again t refl, tt)) (λ t c q.
      let filled = content_filled child places st st.from c q in
      (begins, content st again t refl filled.0 filled.1, filled.2))
    where
      begins : st.begin ≡ at + 1
      begins = (start_starts class_of s l at st started).begins

      again : start_at class_of s l (st.begin - 1) ≡ whole st
      again = let back : st.begin - 1 ≡ at = omega (arith, begins) in ap (start_at class_of s l) back ∙ started

  element_placed : (depth : ℕ) → Places (element_at class_of s l depth)
  unfolding element_at
  element_placed zero at e q = absurd (none_deep class_of s l at e q)
  element_placed (suc depth) at e q =
      let x = then_whole _ (start_at class_of s l at) e q in
      rest_placed (element_at class_of s l depth) (element_placed depth) at x.0 x.1 e x.2

pub elements_stand : ElementsStand
elements_stand s l root q =
    let x = document_element class_of s l 0 root q in
    let placed = element_placed s l l.levels x.0 root x.1 in
    (placed.1, placed.2, tt)
