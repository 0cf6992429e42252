-- The elements of a message that was read: each was read by itself, with its start tag's attributes. Assumes nothing.
use Prim.Native.Nat.{ℕ, zero, suc, ◌-◌}
use mathlib.Core.Path.{◌≡◌}
use mathlib.Core.List.{List}
use Rattle.message.specs.Reading.Reading.{whole}
use Rattle.message.specs.Limits.{Limits}
use Rattle.message.specs.Elements.{Elements, Element, element_at, document_at}
use Rattle.message.specs.Elements.Elements.{none, more}
use Rattle.message.proofs.Facts.{Attributed, Reads, none_deep, element_stands, document_element}

module _ (class : ℕ → ℕ) (s : List ℕ) (l : Limits) where
  -- an element that was read at some place, at some level
  abbrev pub WasRead : Element → Type 0
  WasRead e = (depth : ℕ) × (at : ℕ) × (element_at class s l (suc depth) at ≡ whole e)

  abbrev pub EachRead : Elements → Type 0
  EachRead none = Unit {0}
  EachRead (more t inner others) = WasRead (record { tag = t; inside = inner }) × EachRead others

  was_read : (depth at : ℕ) (e : Element) → element_at class s l depth at ≡ whole e → WasRead e
  was_read zero at e q = absurd (none_deep class s l at e q)
  was_read (suc depth) at e q = (depth, at, q)

  each_read : (depth : ℕ) (es : Elements) → Reads class s l (element_at class s l depth) es → EachRead es
  each_read depth none r = tt
  each_read depth (more t inner others) r =
      (was_read depth (t.begin - 1) (record { tag = t; inside = inner }) r.0, each_read depth others r.1)

  pub root_read : (at : ℕ) (root : Element) → document_at class s l at ≡ whole root → WasRead root
  root_read at root q = let x = document_element class s l at root q in was_read l.levels x.0 root x.1

  pub inside_read : (e : Element) → WasRead e → EachRead e.inside
  inside_read e r = each_read r.0 e.inside (element_stands class s l r.0 r.1 e r.2).inner

  pub attributes_read : (e : Element) → WasRead e → Attributed class s l e.tag.name
  attributes_read e r = (element_stands class s l r.0 r.1 e r.2).attributed
