-- What the one pass over a message holds on to of each element, for the messages to be told from each other afterwards. An element is held on to by the
-- place where its name begins, which is never 0. Assumes nothing.
use Rattle.std.specs.Prelude.{ℕ, suc, ◌+◌, cond, List, eqb}
use Rattle.message.specs.Reading.{Reading, ◌>>=◌}
use Rattle.message.specs.Reading.Reading.{whole}
use Rattle.message.specs.Elements.{Tag, Elements, Element}
use Rattle.message.specs.Elements.Elements.{none, more}
use Rattle.message.specs.Messages.{called}
use Rattle.message.specs.Words.{advisory_type}
use Rattle.elements.specs.declared.Inside.{Inside}
use Rattle.elements.specs.declared.Seen.{Seen}

-- ---- what is held on to

abbrev pub count : Elements → ℕ
count none = 0
count (more t inner others) = suc (count others)

abbrev pub nothing_inside : Inside
nothing_inside = record { children = 0; first = 0; typed = 0; nested = 0 }

module _ (s : List ℕ) where
  -- where an element's name begins, if it is an AdvisoryType, and else 0
  abbrev pub mark_of : Tag → ℕ
  mark_of tag = cond (called s advisory_type tag) tag.begin 0

  -- of the first AdvisoryType among elements
  abbrev pub typed_in : Elements → ℕ
  typed_in none = 0
  typed_in (more t inner others) = cond (eqb (mark_of t) 0) (typed_in others) (mark_of t)

  -- of the elements inside another: how many they are, the first, the first AdvisoryType, and the first AdvisoryType inside the first
  abbrev pub inside_of : Elements → Inside
  inside_of none = nothing_inside
  inside_of (more t inner others) =
      record { children = suc (count others); first = t.begin; typed = typed_in (more t inner others); nested = typed_in inner }

  -- of an element: where it stands, where its content does, and whether it is an AdvisoryType
  abbrev pub seen_of : Element → Seen
  seen_of e =
      record { begin = e.tag.begin; from = e.tag.from; to = e.tag.to; end = e.tag.end; mark = mark_of e.tag; inside = inside_of e.inside }

  abbrev pub seen : Reading Element → Reading Seen
  seen reading = reading >>= (λ e. whole (seen_of e))

-- one more element behind those that are inside
abbrev pub noted : Inside → Seen → Inside
noted i child = record {
  children = i.children + 1;
  first = cond (eqb i.children 0) child.begin i.first;
  typed = cond (eqb i.typed 0) child.mark i.typed;
  nested = cond (eqb i.children 0) child.inside.typed i.nested;
}
