-- The seven (specs/Seven): a message that is read is one of them, and 13 is the answer to what is none of them. Assumes nothing.
use Prim.Native.Nat.{ℕ}
use mathlib.Core.Path.{◌≡◌, refl, sym, ◌∙◌, ap, subst}
use mathlib.Core.Bool.{Bool, true, false, cond}
use mathlib.Core.List.{List, []}
use native.Mathlib.Omega.{arith}
use lib.ListN.{length}
use Rattle.std.proofs.lemmas.Bool.{both_ways, cond_both, false_from_ne_true}
use Rattle.laws.specs.Bytes.{same_bytes}
use Rattle.laws.proofs.Tails.{same_refl, same_eq}
use Rattle.message.specs.Class.{class_of}
use Rattle.message.specs.Reading.{Reading, ◌>>=◌, is_whole}
use Rattle.message.specs.Reading.Reading.{whole, refused}
use Rattle.message.specs.Limits.{Limits}
use Rattle.message.specs.Elements.{part, Tag, Elements, Element, Quoted, document_at}
use Rattle.message.specs.Elements.Elements.{none, more}
use Rattle.message.specs.Messages.{no_message, kind_of, Found, needed, found_in, called, only_child, first_called, number_value, attribute_called, attribute_of, message_of_kind, message_at, message_of}
use Rattle.message.specs.Messages.Found.{missing, found}
use Rattle.message.specs.Words as words
use Rattle.message.specs.Seven.{Called, HasAttribute, First, OnlyChild, PerhapsNumber, OneOfSeven, ReadIsOne, ThirteenIsNone, NoneIsThirteen}
use Rattle.message.specs.Seven.First.{this, later}
use Rattle.message.specs.Seven.PerhapsNumber.{present, missing as absent}
use Rattle.message.specs.Seven.OneOfSeven.{open_request, open_response, session_ok, ok, advisory, request, response}
use Rattle.message.specs.declared.Kind.{Kind}
use Rattle.message.specs.declared.Kind.TheVariants as kinds
use Rattle.message.specs.declared.Message.{Message}
use Rattle.message.proofs.Laws.{went, cond_true, cond_false}
use Rattle.message.proofs.Trees.{whole_same, unread}
use Rattle.message.proofs.Facts.{then_whole, Attributed}
use Rattle.message.proofs.ByForm.{refuses_number}
use Rattle.message.proofs.Numbers.{Holds, told_document}
use Rattle.message.proofs.Within.{WasRead, EachRead, root_read, inside_read, attributes_read}
use Rattle.message.proofs.Carried.{called_carries, carries_called}
use Rattle.message.proofs.Shown.{no_number_lem, no_status_lem, no_type_lem, type_there, number_there, status_there}

reads_then : {A B : Type 0} {a : Reading A} {x : A} (next : A → Reading B) → a ≡ whole x → is_whole (next x) ≡ true → is_whole (a >>= next) ≡ true
reads_then next q h = rw q h

-- ---- the names of the kinds

word_kind : (k : Kind) → kind_of (words.kind_name k) ≡ whole k
unfolding kind_of same_bytes
word_kind kinds.SessionOpenRequest = refl
word_kind kinds.SessionOpenResponse = refl
word_kind kinds.SessionOk = refl
word_kind kinds.Ok = refl
word_kind kinds.Advisory = refl
word_kind kinds.Request = refl
word_kind kinds.Response = refl

kind_word : (name : List ℕ) (k : Kind) → kind_of name ≡ whole k → name ≡ words.kind_name k
unfolding kind_of
kind_word name k =
    next kinds.SessionOpenRequest
    (next kinds.SessionOpenResponse (next kinds.SessionOk (next kinds.Ok (next kinds.Advisory (next kinds.Request (next kinds.Response unread))))))
  where
    next : (k' : Kind) {others : Reading Kind} → (others ≡ whole k → name ≡ words.kind_name k) → cond (same_bytes name (words.kind_name k')) (whole k') others ≡ whole k
        → name ≡ words.kind_name k
    next k' further =
        cond_both (same_bytes name (words.kind_name k')) _ _ (λ r. r ≡ whole k → name ≡ words.kind_name k) (λ t q. same_eq name (words.kind_name k') t ∙ ap words.kind_name (whole_same q)) (λ t. further)

-- ---- a reading that is whole or 13

pub data Decided {A : Type 0} : Reading A → Type 0 where
  read : (x : A) → Decided (whole x)
  thirteen : Decided (refused 13 0)

decided_then : {A B : Type 0} {a : Reading A} (next : A → Reading B) → Decided a → ((x : A) → Decided (next x)) → Decided (a >>= next)
decided_then next (read x) g = g x
decided_then next thirteen g = thirteen

decided_kind : (name : List ℕ) → Decided (kind_of name)
unfolding kind_of
decided_kind name =
    next kinds.SessionOpenRequest
    (next kinds.SessionOpenResponse (next kinds.SessionOk (next kinds.Ok (next kinds.Advisory (next kinds.Request (next kinds.Response thirteen))))))
  where
    next : (k : Kind) {others : Reading Kind} → Decided others → Decided (cond (same_bytes name (words.kind_name k)) (whole k) others)
    next k others = cond_both (same_bytes name (words.kind_name k)) _ _ Decided (λ t. read k) (λ t. others)

module _ (s : List ℕ) where
  decided_only : (w : List ℕ) (es : Elements) → Decided (only_child s w es)
  decided_only w none = thirteen
  decided_only w (more t inner none) = cond_both (called s w t) _ _ Decided (λ e. read _) (λ e. thirteen)
  decided_only w (more t inner (more t' inner' others)) = thirteen

  decided_first : (w : List ℕ) (es : Elements) → Decided (first_called s w es)
  decided_first w none = thirteen
  decided_first w (more t inner others) = cond_both (called s w t) _ _ Decided (λ e. read _) (λ e. decided_first w others)

  -- ---- elements by their names

  pub only_child_lem : (w : List ℕ) (es : Elements) (e : Element) → only_child s w es ≡ whole e → (es ≡ more e.tag e.inside none) × Called s w e.tag
  only_child_lem w none e q = unread q
  only_child_lem w (more t inner none) e q = go (called s w t) refl q
    where
      go : (b : Bool) → called s w t ≡ b → cond b (whole (record { tag = t; inside = inner })) no_message ≡ whole e
          → (more t inner none ≡ more e.tag e.inside none) × Called s w e.tag
      go true h q =
          let is : record { tag = t; inside = inner } ≡ e = whole_same q in (
            ap (λ (x : Element). more x.tag x.inside none) is,
            subst (λ (x : Element). Called s w x.tag) is (same_eq (part s t.name.local t.name.end) w h),
          )
      go false h q = unread q
  only_child_lem w (more t inner (more t' inner' others)) e q = unread q

  called_true : (w : List ℕ) (t : Tag) → Called s w t → called s w t ≡ true
  called_true w t c = ap (λ (u : List ℕ). same_bytes u w) c ∙ same_refl w

  child_only : (w : List ℕ) (root e : Element) → OnlyChild s w root e → only_child s w root.inside ≡ whole e
  child_only w root e c = ap (only_child s w) c.0 ∙ sym (cond_true _ (called_true w e.tag c.1))

  first_called_lem : (w : List ℕ) (es : Elements) (e : Element) → first_called s w es ≡ whole e → First s w es e
  first_called_lem w none e q = unread q
  first_called_lem w (more t inner others) e q = go (first_called_lem w others e) (called s w t) refl q
    where
      go : (first_called s w others ≡ whole e → First s w others e) → (b : Bool) → called s w t ≡ b
          → cond b (whole (record { tag = t; inside = inner })) (first_called s w others) ≡ whole e → First s w (more t inner others) e
      go further true h q = subst (First s w (more t inner others)) (whole_same q) (this (same_eq (part s t.name.local t.name.end) w h))
      go further false h q = later (λ c. both_ways _ h (called_true w t c)) (further q)

  called_first : (w : List ℕ) (es : Elements) (e : Element) → First s w es e → first_called s w es ≡ whole e
  called_first w _ _ (this {tag = t} c) = sym (cond_true _ (called_true w t c))
  called_first w _ e (later {tag = t} {others = others} other f) =
      sym (cond_false _ (false_from_ne_true (called s w t) (λ h. other (same_eq (part s t.name.local t.name.end) w h)))) ∙ called_first w others e f

module _ (s : List ℕ) (l : Limits) where
  -- ---- attributes

  decided_needed : (f : Found) → Decided (needed f)
  decided_needed missing = thirteen
  decided_needed (found from to) = read _

  module _ (w : List ℕ) (tag : Tag) (a : Attributed class_of s l tag.name) where
    abbrev pub value : Reading Quoted
    value = attribute_called class_of l s (length s) w tag.name.end

    pub value_there : (v : Quoted) → value ≡ whole v → HasAttribute s w tag v
    value_there v q = called_carries s l w (length s) [] tag.name.end a.0 v a.1 q

    pub there_value : (v : Quoted) → HasAttribute s w tag v → value ≡ whole v
    there_value v c = carries_called s l w (length s) [] tag.name.end a.0 v a.1 c

    perhaps_number : PerhapsNumber s w tag (number_value class_of s (attribute_of class_of l s w tag))
    perhaps_number = go value refl
      where
        go : (r : Reading Quoted) → value ≡ r → PerhapsNumber s w tag (number_value class_of s (found_in r))
        go (whole v) q = present (number_there s w tag v (value_there v q))
        go (refused n p) q = absent (λ v c. unread (sym q ∙ there_value v c)) (no_number_lem s)

    needed_there : {m : Message} (next : Found → Reading Message) → (needed (attribute_of class_of l s w tag) >>= next) ≡ whole m
        → (v : Quoted) × HasAttribute s w tag v × (next (found v.from v.to) ≡ whole m)
    needed_there {m = m} next h = go value refl h
      where
        go : (r : Reading Quoted) → value ≡ r → (needed (found_in r) >>= next) ≡ whole m
            → (v : Quoted) × HasAttribute s w tag v × (next (found v.from v.to) ≡ whole m)
        go (whole v) q h = (v, value_there v q, h)
        go (refused n p) q h = unread h

    there_needed : (v : Quoted) → HasAttribute s w tag v → needed (attribute_of class_of l s w tag) ≡ whole (found v.from v.to)
    there_needed v c = ap (λ (r : Reading Quoted). needed (found_in r)) (there_value v c)

  -- ---- the seven

  module _ (root : Element) where
    abbrev pub rest : Reading Message
    rest = kind_of (part s root.tag.name.local root.tag.name.end) >>= message_of_kind class_of l s root

    begun : (k : Kind) → Called s (words.kind_name k) root.tag → is_whole (message_of_kind class_of l s root k) ≡ true → is_whole rest ≡ true
    begun k c h = reads_then (message_of_kind class_of l s root) (ap kind_of c ∙ word_kind k) h

    decided_of_kind : (k : Kind) → Decided (message_of_kind class_of l s root k)
    decided_of_kind kinds.SessionOpenRequest = read _
    decided_of_kind kinds.SessionOpenResponse = decided_then _ (decided_needed (attribute_of class_of l s words.status root.tag)) (λ v. read _)
    decided_of_kind kinds.SessionOk = decided_then _ (decided_needed (attribute_of class_of l s words.identity root.tag)) (λ v. read _)
    decided_of_kind kinds.Ok = decided_then _ (decided_needed (attribute_of class_of l s words.in_response_to root.tag)) (λ v. read _)
    decided_of_kind kinds.Advisory =
        decided_then _ (decided_only s words.advisory root.inside) (λ e. decided_then _ (decided_first s words.advisory_type e.inside) (λ t. read _))
    decided_of_kind kinds.Request =
        decided_then _ (decided_only s words.query_request root.inside)
        (λ e. decided_then _ (decided_needed (attribute_of class_of l s words.identity e.tag)) (λ v. read _))
    decided_of_kind kinds.Response = decided_then _ (decided_only s words.query_response root.inside) (λ e. read _)

    pub decided : Decided rest
    decided = decided_then (message_of_kind class_of l s root) (decided_kind (part s root.tag.name.local root.tag.name.end)) decided_of_kind

    module _ (was : WasRead class_of s l root) where
      pub own : Attributed class_of s l root.tag.name
      own = attributes_read class_of s l root was

      pub childs : (w : List ℕ) (e : Element) → OnlyChild s w root e → Attributed class_of s l e.tag.name
      childs w e c = attributes_read class_of s l e (subst (EachRead class_of s l) c.0 (inside_read class_of s l root was)).0

      rest_one : (m : Message) → rest ≡ whole m → OneOfSeven s root m
      rest_one m q =
          let x = then_whole (message_of_kind class_of l s root) (kind_of (part s root.tag.name.local root.tag.name.end)) m q in
          go x.0 (kind_word _ x.0 x.1) x.2
        where
          go : (k : Kind) → Called s (words.kind_name k) root.tag → message_of_kind class_of l s root k ≡ whole m → OneOfSeven s root m
          go kinds.SessionOpenRequest c h =
              subst (OneOfSeven s root) (whole_same h) (open_request refl c (no_status_lem s) (no_number_lem s) (no_number_lem s) (no_number_lem s) (no_type_lem s))
          go kinds.SessionOpenResponse c h =
              let x = needed_there words.status root.tag own _ h in
              subst (OneOfSeven s root) (whole_same x.2)
              (open_response refl c (status_there s words.status root.tag x.0 x.1) (no_number_lem s) (no_number_lem s) (no_number_lem s) (no_type_lem s))
          go kinds.SessionOk c h =
              let x = needed_there words.identity root.tag own _ h in
              subst (OneOfSeven s root) (whole_same x.2)
              (session_ok refl c (number_there s words.identity root.tag x.0 x.1) (no_status_lem s) (no_number_lem s) (no_number_lem s) (no_type_lem s))
          go kinds.Ok c h =
              let x = needed_there words.in_response_to root.tag own _ h in
              subst (OneOfSeven s root) (whole_same x.2)
              (ok refl c (number_there s words.in_response_to root.tag x.0 x.1) (no_status_lem s) (no_number_lem s) (no_number_lem s) (no_type_lem s))
          go kinds.Advisory c h =
              let e = then_whole _ (only_child s words.advisory root.inside) m h in
              let t = then_whole _ (first_called s words.advisory_type e.0.inside) m e.2 in
              let only = only_child_lem s words.advisory root.inside e.0 e.1 in
              subst (OneOfSeven s root) (whole_same t.2)
              (advisory e.0 t.0 refl c only (perhaps_number words.in_relation_to e.0.tag (childs words.advisory e.0 only))
              (first_called_lem s words.advisory_type e.0.inside t.0 t.1) (type_there s t.0) (no_status_lem s) (no_number_lem s) (no_number_lem s))
          go kinds.Request c h =
              let e = then_whole _ (only_child s words.query_request root.inside) m h in
              let only = only_child_lem s words.query_request root.inside e.0 e.1 in
              let x = needed_there words.identity e.0.tag (childs words.query_request e.0 only) _ e.2 in
              subst (OneOfSeven s root) (whole_same x.2)
              (request e.0 refl c only (number_there s words.identity e.0.tag x.0 x.1) (no_status_lem s) (no_number_lem s) (no_number_lem s) (no_type_lem s))
          go kinds.Response c h =
              let e = then_whole _ (only_child s words.query_response root.inside) m h in
              let only = only_child_lem s words.query_response root.inside e.0 e.1 in
              subst (OneOfSeven s root) (whole_same e.2)
              (response e.0 refl c only (perhaps_number words.in_response_to e.0.tag (childs words.query_response e.0 only)) (no_status_lem s) (no_number_lem s) (no_number_lem s) (no_type_lem s))

      one_rest : (m : Message) → OneOfSeven s root m → is_whole rest ≡ true
      one_rest m (open_request k c _ _ _ _ _) = begun kinds.SessionOpenRequest c refl
      one_rest m (open_response k c v _ _ _ _) = begun kinds.SessionOpenResponse c (reads_then _ (there_needed words.status root.tag own v.value v.has) refl)
      one_rest m (session_ok k c v _ _ _ _) = begun kinds.SessionOk c (reads_then _ (there_needed words.identity root.tag own v.value v.has) refl)
      one_rest m (ok k c v _ _ _ _) = begun kinds.Ok c (reads_then _ (there_needed words.in_response_to root.tag own v.value v.has) refl)
      one_rest m (advisory e type k c only _ first _ _ _ _) =
          begun kinds.Advisory c (reads_then _ (child_only s words.advisory root e only) (reads_then _ (called_first s words.advisory_type e.inside type first) refl))
      one_rest m (request e k c only v _ _ _ _) =
          let attribute = there_needed words.identity e.tag (childs words.query_request e only) v.value v.has in
          begun kinds.Request c (reads_then _ (child_only s words.query_request root e only) (reads_then _ attribute refl))
      one_rest m (response e k c only _ _ _ _ _) = begun kinds.Response c (reads_then _ (child_only s words.query_response root e only) refl)

  message_is : (root : Element) → document_at class_of s l 0 ≡ whole root → message_of class_of l s ≡ rest root
  unfolding message_at
  message_is root q = sym (went _ q)

pub read_is_one : ReadIsOne
unfolding message_at
read_is_one s l m q =
    let x = then_whole _ (document_at class_of s l 0) m q in
    (x.0, x.1, rest_one s l x.0 (root_read class_of s l 0 x.0 x.1) m x.2)

pub none_is_thirteen : NoneIsThirteen
none_is_thirteen s l root q none_is = go (rest s l root) refl (decided s l root)
  where
    go : (r : Reading Message) → rest s l root ≡ r → Decided r → message_of class_of l s ≡ refused 13 0
    go _ e (read m) = absurd (none_is m (rest_one s l root (root_read class_of s l 0 root q) m e))
    go _ e thirteen = message_is s l root q ∙ e

-- a number of refusal that is not 13
abbrev Other : ℕ → Type 0
Other n = n ≡ 13 → ⊥

pub thirteen_is_none : ThirteenIsNone
unfolding message_at
thirteen_is_none s l p q = go (document_at class_of s l 0) refl
  where
    other : Holds Other s l
    other =
        record { eight = λ h z. omega arith; nine = λ z. omega arith; ten = λ h z. omega arith; eleven = λ h z. omega arith; twelve = λ z. omega arith; fourteen = λ h z. omega arith }

    place : (r : Reading Message) → Decided r → r ≡ refused 13 p → p ≡ 0
    place _ (read m) h = unread (sym h)
    place _ thirteen h = cc

    go : (d : Reading Element) → document_at class_of s l 0 ≡ d
        → (p ≡ 0) × ((root : Element) × (document_at class_of s l 0 ≡ whole root) × ((m : Message) → OneOfSeven s root m → ⊥))
    go (whole root) e =
        let h : rest s l root ≡ refused 13 p = sym (message_is s l root e) ∙ q in
        (place (rest s l root) (decided s l root) h, (root, e, λ m one. both_ways _ (ap is_whole h) (one_rest s l root (root_read class_of s l 0 root e) m one)))
    go (refused n p') e =
        let h : refused n p' ≡ refused 13 p = sym (ap (λ (d : Reading Element). d >>= (λ root. rest s l root)) e) ∙ q in
        let z : n ≡ 13 = cc in
        absurd (refuses_number {P = Other} n p' (told_document Other class_of s l other 0) e z)
