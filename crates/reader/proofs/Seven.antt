-- The seven messages, told by what the one pass holds on to of the root. Assumes nothing.
use Rattle.std.specs.Prelude.{Result, Ok, Err}
use Rattle.std.specs.Result.{IsErrAnd}
use Rattle.std.proofs.lemmas.Result.{err_from_is_err_and}
use Prim.Native.Nat.{ℕ, suc, ◌-◌}
use mathlib.Core.Path.{◌≡◌, refl, sym, ◌∙◌, ap, subst}
use mathlib.Core.Bool.{Bool, true, false, cond}
use mathlib.Core.List.{List}
use native.Mathlib.Omega.{arith}
use lib.ListN.{length}
use lib.Dec.{eqb}
use borrow.Author.Tests.{ne_eqb}
use Rattle.message.specs.Reading.{Reading, ◌>>=◌, said, reason_number}
use Rattle.message.specs.Reading.Reading.{whole, refused}
use Rattle.message.specs.Names.{name_at}
use Rattle.message.proofs.Laws.{went, stopped}
use Rattle.message.specs.Limits.{link_limits}
use Rattle.message.specs.Words.{advisory_type}
use Rattle.message.specs.Elements.{part, Tag, Elements, Element, element_at, document_at}
use Rattle.message.specs.Elements.Elements.{none, more}
use Rattle.message.specs.Messages.{found, no_message, kind_of, Found, needed, found_in, called, only_child, first_called, attribute_called, attribute_of, message_of_kind, message_at}
use Rattle.elements.specs.Seen.{count, mark_of, typed_in, inside_of, seen_of, seen}
use Rattle.reader.specs.Roots.{needed_said, only_called, name_end, kind_named}
use Rattle.message.specs.declared.Kind.{Kind}
use Rattle.message.specs.declared.Message.{Message}
use Rattle.message.specs.declared.Refusal.{Refusal}
use Rattle.elements.specs.declared.attributes.Span.{Span}
use Rattle.elements.specs.declared.Inside.{Inside}
use Rattle.elements.specs.declared.Seen.{Seen}
use Rattle.message.proofs.Trees.{whole_same}
use Rattle.message.proofs.Seven.{only_child_lem}
use Rattle.message.proofs.Facts.{then_whole, refused_then, Reads, Stands, element_stands, document_root}
use Rattle.elements.proofs.ContentLoop.{seen_whole, seen_refused}

-- what a `?` hands on
pub handed_on : {A : Type 0} (r : Result A Refusal) (e : Refusal) → IsErrAnd r (λ y. y ≡ e) → said r ≡ refused (reason_number e.reason) e.place
handed_on r e same = let p = err_from_is_err_and r same in rw (p.1, p.2)

module _ (class : ℕ → ℕ) (s : List ℕ) where
  abbrev level : ℕ → ℕ → Reading Element
  level depth = element_at class s link_limits depth

  -- ---- the elements inside one that has been read

  -- the name of an element, read again
  again : (depth : ℕ) (t : Tag) (inner : Elements) → level (suc depth) (t.begin - 1) ≡ whole (record { tag = t; inside = inner }) → Stands class s link_limits (level depth) (t.begin - 1) (record { tag = t; inside = inner })
  again depth t inner q = element_stands class s link_limits depth (t.begin - 1) (record { tag = t; inside = inner }) q

  pub only_same : (depth : ℕ) (w : List ℕ) (es : Elements) → Reads class s link_limits (level (suc depth)) es → only_called class s w (inside_of s es) ≡ (only_child s w es >>= (λ e. whole e.tag.name.end))
  only_same depth w none r = refl
  only_same depth w (more t inner none) r = rw (again depth t inner r.0).named (go (called s w t))
    where
      go : (b : Bool) → cond b (whole t.name.end) no_message ≡ (◌>>=◌ {A = Element} (cond b (whole (record { tag = t; inside = inner })) no_message) (λ e. whole e.tag.name.end))
      go true = refl
      go false = refl
  only_same depth w (more t inner (more t' inner' others)) r = rw (ne_eqb (suc (suc (count others))) 1 (λ z. omega (arith, z)))

  -- ---- the first AdvisoryType, found by its mark, which is never 0

  marked : (depth : ℕ) (t : Tag) (inner : Elements) → level (suc depth) (t.begin - 1) ≡ whole (record { tag = t; inside = inner }) → called s advisory_type t ≡ true → eqb (mark_of s t) 0 ≡ false
  marked depth t inner q h = rw h (ne_eqb t.begin 0 (λ z. omega (arith, (again depth t inner q).begins, z)))

  pub typed_none : (depth : ℕ) (es : Elements) → Reads class s link_limits (level (suc depth)) es → typed_in s es ≡ 0 → first_called s advisory_type es ≡ no_message
  typed_none depth none r z = refl
  typed_none depth (more t inner others) r z = go (typed_none depth others r.1) (called s advisory_type t) refl
    where
      go : (typed_in s others ≡ 0 → first_called s advisory_type others ≡ no_message) → (b : Bool) → called s advisory_type t ≡ b → first_called s advisory_type (more t inner others) ≡ no_message
      go further true h = absurd (omega (arith, (again depth t inner r.0).begins, sym (rw (marked depth t inner r.0 h, h) at z)))
      go further false h = rw h (further (rw h at z))

  pub record Typed (depth : ℕ) (es : Elements) : Type 0 where
    pub element : Element
    pub first : first_called s advisory_type es ≡ whole element
    pub place : typed_in s es ≡ element.tag.begin
    pub reads : level (suc depth) (element.tag.begin - 1) ≡ whole element

  pub typed_some : (depth : ℕ) (es : Elements) → Reads class s link_limits (level (suc depth)) es → (typed_in s es ≡ 0 → ⊥) → Typed depth es
  typed_some depth none r z = absurd (z refl)
  typed_some depth (more t inner others) r z = go (typed_some depth others r.1) (called s advisory_type t) refl
    where
      go : ((typed_in s others ≡ 0 → ⊥) → Typed depth others) → (b : Bool) → called s advisory_type t ≡ b → Typed depth (more t inner others)
      go further true h = record { element = record { tag = t; inside = inner }; first = rw h; place = rw (marked depth t inner r.0 h, h); reads = r.0 }
      go further false h =
          let x = further (λ e. z (rw h e)) in
          record { element = x.element; first = rw h x.first; place = rw h x.place; reads = x.reads }

  -- it is read again at its mark
  pub typed_again : (depth : ℕ) (es : Elements) (x : Typed depth es) (b : ℕ) → b ≡ typed_in s es → level (suc depth) (b - 1) ≡ whole x.element
  typed_again depth es x b h = ap (λ (m : ℕ). level (suc depth) (m - 1)) (h ∙ x.place) ∙ x.reads

  -- ---- values, looked for from the place e on, where the tag's name ends

  abbrev found_from : List ℕ → ℕ → Found
  found_from w e = found_in (attribute_called class link_limits s (length s) w e)

  module _ (w : List ℕ) (tag : Tag) {e : ℕ} (e-is : e ≡ tag.name.end) where
    pub value_is : found_from w e ≡ attribute_of class link_limits s w tag
    value_is = ap (found_from w) e-is

    module _ (r : Result Span Refusal) (says : needed_said r ≡ needed (found_from w e)) (next : Found → Reading Message) where
      needed_is : needed_said r ≡ needed (attribute_of class link_limits s w tag)
      needed_is = says ∙ ap needed value_is

      pub value_missing : {x : Refusal} → r ≡ Err x → refused (reason_number x.reason) x.place ≡ (needed (attribute_of class link_limits s w tag) >>= next)
      value_missing r-is = stopped next (sym needed_is ∙ ap needed_said r-is)

      pub value_there : {v : Span} → r ≡ Ok v → next (found v.from v.to) ≡ (needed (attribute_of class link_limits s w tag) >>= next)
      value_there r-is = went next (sym needed_is ∙ ap needed_said r-is)

  -- ---- the root, held on to

  module _ (held : Seen) (root : Element) (so : level 32 (held.begin - 1) ≡ whole root) (held_is : held ≡ seen_of s root) where
    stands : Stands class s link_limits (level 31) (held.begin - 1) root
    stands = element_stands class s link_limits 31 (held.begin - 1) root so

    named : name_at class 64 s held.begin ≡ whole root.tag.name
    named = ap (name_at class 64 s) (ap (λ (x : Seen). x.begin) held_is) ∙ stands.named

    pub root_end : name_end class s held.begin ≡ root.tag.name.end
    root_end = rw named

    pub root_kind_is : kind_named class s held.begin ≡ kind_of (part s root.tag.name.local root.tag.name.end)
    root_kind_is = rw named

    pub inside_is : held.inside ≡ inside_of s root.inside
    inside_is = ap (λ (x : Seen). x.inside) held_is

    pub only_is : (w : List ℕ) → only_called class s w held.inside ≡ (only_child s w root.inside >>= (λ e. whole e.tag.name.end))
    only_is w = ap (only_called class s w) inside_is ∙ only_same 30 w root.inside stands.inner

    pub child_refused : (w : List ℕ) (next : Element → Reading Message) {n p : ℕ} → only_called class s w held.inside ≡ refused n p → refused n p ≡ (only_child s w root.inside >>= next)
    child_refused w next q = stopped next (refused_then (only_child s w root.inside) (λ e. e.tag.name.end) (sym (only_is w) ∙ q))

    -- the only child element, where there is one
    pub record Child (w : List ℕ) (e : ℕ) : Type 0 where
      pub child : Element
      pub only : only_child s w root.inside ≡ whole child
      pub end : e ≡ child.tag.name.end
      pub inner : Reads class s link_limits (level 30) child.inside
      pub nested : held.inside.nested ≡ typed_in s child.inside

    pub child_is : (w : List ℕ) (e : ℕ) → only_called class s w held.inside ≡ whole e → Child w e
    child_is w e q =
        let x = then_whole (λ y. whole y.tag.name.end) (only_child s w root.inside) e (sym (only_is w) ∙ q) in
        let alone = (only_child_lem s w root.inside x.0 x.1).0 in
        let reads = subst (Reads class s link_limits (level 31)) alone stands.inner in
        record { child = x.0; only = x.1; end = sym (whole_same x.2); inner = (again 30 x.0.tag x.0.inside reads.0).inner; nested = ap (λ (i : Inside). i.nested) (inside_is ∙ ap (inside_of s) alone) }

-- ---- the root of a message that was read

pub record ReadRoot (class : ℕ → ℕ) (s : List ℕ) (at : ℕ) (held : Seen) : Type 0 where
  pub root : Element
  pub document : document_at class s link_limits at ≡ whole root
  pub held_is : held ≡ seen_of s root
  pub reads : element_at class s link_limits 32 (held.begin - 1) ≡ whole root

pub read_root : (class : ℕ → ℕ) (s : List ℕ) (at : ℕ) (held : Seen) → seen s (document_at class s link_limits at) ≡ whole held → ReadRoot class s at held
read_root class s at held q =
    let x = seen_whole s (document_at class s link_limits at) q in
    record { root = x.0; document = x.1; held_is = x.2; reads = ap (λ (h : Seen). element_at class s link_limits 32 (h.begin - 1)) x.2 ∙ document_root class s link_limits 31 at x.0 refl x.1 }

-- ---- the message

module _ (class : ℕ → ℕ) (s : List ℕ) (at : ℕ) where
  pub message_refused : {n p : ℕ} → seen s (document_at class s link_limits at) ≡ refused n p → refused n p ≡ message_at class link_limits s at
  unfolding message_at
  message_refused q = stopped _ (seen_refused s (document_at class s link_limits at) q)

  module _ (held : Seen) (x : ReadRoot class s at held) where
    kind_is : {a : Reading Kind} → kind_named class s held.begin ≡ a → kind_of (part s x.root.tag.name.local x.root.tag.name.end) ≡ a
    kind_is h = sym (root_kind_is class s held x.root x.reads x.held_is) ∙ h

    pub message_unknown : {n p : ℕ} → kind_named class s held.begin ≡ refused n p → refused n p ≡ message_at class link_limits s at
    unfolding message_at
    message_unknown h = stopped _ (kind_is h) ∙ went _ x.document

    pub message_known : (k : Kind) {r : Reading Message} → kind_named class s held.begin ≡ whole k → r ≡ message_of_kind class link_limits s x.root k → r ≡ message_at class link_limits s at
    unfolding message_at
    message_known k h r-is = r-is ∙ (went _ (kind_is h) ∙ went _ x.document)

-- with the same classes the same message is read
pub classes_same : (s : List ℕ) (at : ℕ) {f g : ℕ → ℕ} → f ≡ g → message_at f link_limits s at ≡ message_at g link_limits s at
classes_same s at h = ap (λ (f : ℕ → ℕ). message_at f link_limits s at) h
