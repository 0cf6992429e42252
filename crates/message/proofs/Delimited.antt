-- Where values stand (specs/Seven): an attribute's between its quotation marks, an element's between its tags. Assumes nothing.
use Prim.Native.Nat.{ℕ, ◌+◌, ◌-◌, ◌≤◌, ◌<◌}
use mathlib.Core.Path.{◌≡◌, refl, sym, ◌∙◌, ap, subst}
use mathlib.Core.Bool.{true}
use mathlib.Core.List.{List}
use native.Mathlib.Omega.{arith}
use lib.ListN.{length}
use Rattle.message.specs.Class.{class_of}
use Rattle.message.specs.Reading.{Reading, is_quote, is, has, one, byte_at, equals_at, opened_at}
use Rattle.message.specs.Reading.Reading.{whole}
use Rattle.message.specs.Names.{Named}
use Rattle.message.specs.Text.{value_at}
use Rattle.message.specs.Limits.{Limits}
use Rattle.message.specs.Words as words
use Rattle.message.specs.Elements.{Elements, Element, Start, Content, Quoted, start_end_at, quoted_at, start_at, end_tag_at, content_at, rest_at, element_at}
use Rattle.message.specs.Seven.{First, Quotes, Between, AttributesDelimited, TypeDelimited}
use Rattle.message.specs.Seven.First.{this, later}
use Rattle.message.specs.Seven.Between.{tags, empty}
use Rattle.message.proofs.Laws.{has_lt, has_byte, one_has}
use Rattle.message.proofs.Runs.{byte_is}
use Rattle.message.proofs.Progress.{Every}
use Rattle.message.proofs.Trees.{whole_same, value_stops, free_mark, element_on}
use Rattle.message.proofs.Facts.{then_whole, end_cases, start_starts, content_every, rest_cases}
use Rattle.message.proofs.Within.{WasRead, EachRead, root_read, inside_read}
use Rattle.message.proofs.Repeated.{end_tag}
use Rattle.message.proofs.Unquoted.{Free, free_none, free_value}

-- ---- attributes

module _ (s : List ℕ) where
  value_quotes : (begin stop : ℕ) → 0 < begin → is_quote (byte_at s (begin - 1)) ≡ true
      → value_at class_of (length s) (byte_at s (begin - 1)) s begin ≡ whole stop → Quotes s begin stop
  value_quotes begin stop some mark q =
      let quote = byte_at s (begin - 1) in
      let x = subst (Every (λ stop. Free s quote begin stop × (has (is quote) s stop ≡ true))) q
      (free_value s quote mark begin (length s) begin (free_none s quote begin)) in
      let on = subst (Every (λ to. (begin ≤ to) × (to < length s))) q (value_stops class_of s begin (length s) quote begin (omega arith)) in
      record {
        some = some;
        order = on.0;
        within = on.1;
        mark = mark;
        closed = byte_is quote s stop x.1;
        inside = x.0;
      }

  quoted_stands : (at : ℕ) (v : Quoted) → quoted_at class_of s at ≡ whole v → (equals_at class_of s at ≡ whole (v.from - 1)) × Quotes s v.from v.to
  unfolding quoted_at opened_at
  quoted_stands at v q =
      let x = then_whole _ (opened_at class_of s at) v q in
      let y = then_whole _ (value_at class_of (length s) (byte_at s (x.0 - 1)) s x.0) v x.2 in
      let mark = then_whole (one is_quote s) (equals_at class_of s at) x.0 x.1 in
      let o = one_has is_quote s mark.0 x.0 mark.2 in
      let back : mark.0 ≡ x.0 - 1 = omega (arith, o.1) in
      let quoted : is_quote (byte_at s (x.0 - 1)) ≡ true = subst (λ (i : ℕ). is_quote (byte_at s i) ≡ true) back (has_byte is_quote s mark.0 o.0) in
      subst (λ (u : Quoted). (equals_at class_of s at ≡ whole (u.from - 1)) × Quotes s u.from u.to) (whole_same y.2)
      (mark.1 ∙ ap whole back, value_quotes x.0 y.0 (omega (arith, o.1)) quoted y.1)

pub attributes_delimited : AttributesDelimited
attributes_delimited s at to a =
    let x = quoted_stands s a.name.end a.value a.valued in
    record { quotes = x.1; equals = x.0; last = sym a.ends }

-- ---- elements

module _ (s : List ℕ) where
  -- the `>` of a start tag, behind a `/` where it is an empty-element tag
  record TagEnds (st : Start) : Type 0 where
    pub some : 0 < st.from
    pub closed : byte_at s (st.from - 1) ≡ 62
    pub slash : st.empty ≡ true → byte_at s (st.from - 2) ≡ 47

  tag_ends : (b : ℕ) (n : Named) (at : ℕ) (st : Start) → start_end_at s b n at ≡ whole st → TagEnds st
  tag_ends b n at =
      end_cases s b n at TagEnds
      (λ t u. record { some = omega arith; closed = back (at + 1 + 1 - 1) (at + 1) 62 (omega arith) u; slash = λ e. back (at + 1 + 1 - 2) at 47 (omega arith) t })
      (λ u. record { some = omega arith; closed = back (at + 1 - 1) at 62 (omega arith) u; slash = λ e. cc })
    where
      back : (i at x : ℕ) → i ≡ at → has (is x) s at ≡ true → byte_at s i ≡ x
      back i at x h t = ap (byte_at s) h ∙ byte_is x s at t

  module _ (l : Limits) where
    -- the `</` behind an element's content
    record ContentEnds (st : Start) (at : ℕ) (c : Content) : Type 0 where
      pub order : at ≤ c.to
      pub mark : has (is 60) s c.to ≡ true
      pub slash : has (is 47) s (c.to + 1) ≡ true
      pub tag : end_tag_at class_of s l st.begin st.name (c.to + 2) ≡ whole c.end

    -- an element that is read ends past its `<`
    abbrev Grows : (ℕ → Reading Element) → Type 0
    Grows child = (at : ℕ) (e : Element) → child at ≡ whole e → at < e.tag.end

    content_ends : (child : ℕ → Reading Element) → Grows child → (st : Start) (fuel at : ℕ) (c : Content)
        → content_at class_of s l fuel child st at ≡ whole c → ContentEnds st at c
    content_ends child grows st =
        content_every class_of s l child st (ContentEnds st)
        (λ at stop e f t h. let x = free_mark class_of s at stop f in record { order = x.0; mark = x.1; slash = t; tag = h })
        (λ at stop e c f h r. record { order = omega (arith, (free_mark class_of s at stop f).0, grows stop e h, r.order); mark = r.mark; slash = r.slash; tag = r.tag })

    rest_between : (child : ℕ → Reading Element) → Grows child → (at : ℕ) (st : Start) → start_at class_of s l at ≡ whole st → (e : Element)
        → rest_at class_of s l child st ≡ whole e → Between s e.tag
    rest_between child grows at st started =
        let starts = start_starts class_of s l at st started in
        let ends = tag_ends st.begin st.name starts.attributed.0 st starts.ends in
        rest_cases class_of s l child st (λ e. Between s e.tag) (λ t. empty refl refl ends.closed (ends.slash t)) (λ t c q.
        let x = content_ends child grows st (length s) st.from c q in
        tags ends.some x.order (has_lt (is 47) s (c.to + 1) x.slash) ends.closed (byte_is 60 s c.to x.mark)
        (byte_is 47 s (c.to + 1) x.slash)
        (end_tag class_of s l st.begin st.name starts.named (c.to + 2) c.end x.tag))

    read_between : (e : Element) → WasRead class_of s l e → Between s e.tag
    unfolding element_at
    read_between e r =
        let x = then_whole _ (start_at class_of s l r.1) e r.2 in
        rest_between (element_at class_of s l r.0) (λ at e q. (element_on class_of s l r.0 at e q).0) r.1 x.0 x.1 e x.2

    first_read : (w : List ℕ) (es : Elements) (e : Element) → EachRead class_of s l es → First s w es e → WasRead class_of s l e
    first_read w _ _ r (this c) = r.0
    first_read w _ e r (later {others = others} other f) = first_read w others e r.1 f

pub type_delimited : TypeDelimited
type_delimited s l root child type q only first =
    let inner = inside_read class_of s l root (root_read class_of s l 0 root q) in
    let was = (subst (EachRead class_of s l) only.0 inner).0 in
    read_between s l type (first_read s l words.advisory_type child.inside type (inside_read class_of s l child was) first)
