-- Proves specs/Places and specs/Earliest: the link's answer is the first refusal that is due. Assumes nothing.
use Prim.Native.Nat.{ℕ, ◌+◌, ◌-◌, ◌<◌, ◌≤◌}
use mathlib.Core.Path.{◌≡◌, refl, sym, ◌∙◌, ap, subst}
use mathlib.Core.Logic.{◌⊎◌, ⊎_elim, inl, inr}
use mathlib.Core.Bool.{true, cond, true≢false}
use mathlib.Core.List.{List}
use native.Mathlib.Decide.{dec_lt}
use native.Mathlib.Omega.{arith}
use lib.ListN.{length, take}
use lib.Dec.{eqb}
use borrow.Author.Tests.{lt-ltb, le-leb}
use Rattle.message.specs.Class.{class_of, is_start, is_name}
use Rattle.message.specs.Reading.{Reading, is, has, ends, blanks}
use Rattle.message.specs.Reading.Reading.{whole, refused}
use Rattle.message.specs.Words.{codes}
use Rattle.message.specs.Limits.{link_limits}
use Rattle.message.specs.Elements.{Element, document_at}
use Rattle.message.specs.Messages.{message_at}
use Rattle.message.specs.Readable.{Readable, Continues, PartStands}
use Rattle.message.specs.Nine.{dead, unfinished}
use Rattle.message.specs.Due.{Opening, doctype, cdata, instruction, Due, nine, level, attribute, opening, long}
use Rattle.message.specs.Places.{PlaceOfTen, PlaceOfEleven, PlaceOfTwelve, PlaceOfFourteen}
use Rattle.message.specs.Earliest.{rank, FirstDue, NoneDue, answer, Answered, EarliestWins}
use Rattle.message.specs.declared.Message.{Message}
use Rattle.message.proofs.Laws.{has_lt}
use Rattle.message.proofs.Dues.{Here}
use Rattle.message.proofs.Facts.{then_whole}
use Rattle.message.proofs.Automaton.{Ground, behind, State, ground, in_tag}
use Rattle.message.proofs.Going.{Cause, dies, cut, deep, crowded, opens, longs, Stuck, Outcome}
use Rattle.message.proofs.GoingElements.{going_document}
use Rattle.message.proofs.Accepted.{whole_fits, at_continues}
use Rattle.message.proofs.Alive.{alive_before}
use Rattle.message.proofs.ByKind.{of_document, of_kind, Refusal, document_refused, message_refusal}
use Rattle.message.proofs.Spelling.{spelled_first, opening_no_start}
use Rattle.message.proofs.Causes.{long_name, cause_due, cause_goes}
use Rattle.message.proofs.TagInverse.{tag_inverse}
use Rattle.message.proofs.PartInverse.{part_inverse}
use Rattle.message.proofs.Blocked.{blocked}
use Rattle.message.proofs.Nine.{document_stuck}

-- the number with that rank
abbrev unrank : ℕ → ℕ
unrank r = cond (eqb r 0) 9 (cond (eqb r 1) 11 (cond (eqb r 2) 14 (cond (eqb r 3) 10 12)))

module _ (s : List ℕ) where
  -- ---- what is due stands in the message, but for an end that comes too soon

  opening_within : (p : ℕ) → Opening s p → p < length s
  opening_within p (doctype h) = has_lt (is 60) s p (spelled_first s 60 (codes "!DOCTYPE") p h)
  opening_within p (cdata h) = has_lt (is 60) s p (spelled_first s 60 (codes "![CDATA[") p h)
  opening_within p (instruction h other) = has_lt (is 60) s p (spelled_first s 60 (codes "?") p h)

  due_within : (n p : ℕ) → Due s n p → (p < length s) ⊎ ((p ≡ length s) × (Readable s → ⊥))
  due_within n p (nine q (dead within on off)) = inl within
  due_within n p (nine q (unfinished all on off)) = inr (all, off)
  due_within n p (level q open-there tag start) = inl (has_lt (is 60) s q tag)
  due_within n p (attribute at to marked stands space start) = inl (has_lt (is_start class_of) s (blanks class_of s to) start)
  due_within n p (opening q marked open-there) = inl (opening_within q open-there)
  due_within n p (long at q marked stands far) = inl (has_lt (is_name class_of) s q (long_name s q 64 far))

  -- nothing is due before the machine
  none_passed : (st : State) (p : ℕ) → Here s st p → (n q : ℕ) → Due s n q → q < p → ⊥
  none_passed st p here n q d less =
      let a = alive_before link_limits s p q st here less in
      blocked s q a.1.from a.0 a.1.here a.1.within a.1.free a.1.by n q refl d

  -- ---- at one place

  -- the order, from what is not due there
  below : (k r : ℕ) → (k < r → ⊥) → r ≤ k
  below k r h = elim (dec_lt k r) [ yes less ↦ absurd (h less) | no more ↦ omega arith ]

  module _ (r p : ℕ) (most : r ≤ 4) (no_9 : 0 < r → Due s 9 p → ⊥) (no-11 : 1 < r → Due s 11 p → ⊥) (no-14 : 2 < r → Due s 14 p → ⊥) (no-10 : 3 < r → Due s 10 p → ⊥) where
    ranked : (n q : ℕ) → q ≡ p → Due s n q → r ≤ rank n
    ranked n q same (nine q' at) = below 0 r (λ h. no_9 h (subst (Due s 9) same (nine q' at)))
    ranked n q same (level q' open-there tag start) = below 3 r (λ h. no-10 h (subst (Due s 10) same (level q' open-there tag start)))
    ranked n q same (attribute at to marked stands space start) =
        below 1 r (λ h. no-11 h (subst (Due s 11) same (attribute at to marked stands space start)))
    ranked n q same (opening q' marked open-there) = most
    ranked n q same (long at q' marked stands far) = below 2 r (λ h. no-14 h (subst (Due s 14) same (long at q' marked stands far)))

  no_nine : (p n q : ℕ) → n ≡ 9 → q ≡ p → p < length s → Continues (take (p + 1) s) → Due s n q → ⊥
  no_nine p n q number same within on (nine q' (dead inner before off)) = off (subst (λ (i : ℕ). Continues (take (i + 1) s)) (sym same) on)
  no_nine p n q number same within on (nine q' (unfinished all before off)) = omega arith
  no_nine p n q number same within on (level q' open-there tag start) = omega arith
  no_nine p n q number same within on (attribute at to marked stands space start) = omega arith
  no_nine p n q number same within on (opening q' marked open-there) = omega arith
  no_nine p n q number same within on (long at q' marked stands far) = omega arith

  eleven_state : (p : ℕ) (st : State) → Here s st p → (n q : ℕ) → n ≡ 11 → q ≡ p → Due s n q
      → (m : List ℕ) × (seen : List (List ℕ)) × (o : List (List ℕ)) × (st ≡ in_tag true m seen o) × (length seen ≡ 16)
  eleven_state p st here n q number same (nine q' at) = absurd (omega arith)
  eleven_state p st here n q number same (level q' open-there tag start) = absurd (omega arith)
  eleven_state p st here n q number same (attribute at to marked stands space start) =
      tag_inverse link_limits s p st here at 16 to marked stands space (sym same)
  eleven_state p st here n q number same (opening q' marked open-there) = absurd (omega arith)
  eleven_state p st here n q number same (long at q' marked stands far) = absurd (omega arith)

  fourteen_state : (p : ℕ) (st : State) → Here s st p → (n q : ℕ) → n ≡ 14 → q ≡ p → Due s n q → (g : Ground) → st ≡ ground g → ⊥
  fourteen_state p st here n q number same (nine q' at) = absurd (omega arith)
  fourteen_state p st here n q number same (level q' open-there tag start) = absurd (omega arith)
  fourteen_state p st here n q number same (attribute at to marked stands space start) = absurd (omega arith)
  fourteen_state p st here n q number same (opening q' marked open-there) = absurd (omega arith)
  fourteen_state p st here n q number same (long at q' marked stands far) =
      let far_there : 64 < ends (is_name class_of) s p - p = subst (λ (i : ℕ). 64 < ends (is_name class_of) s i - i) same far in
      (part_inverse link_limits s p st here at marked (subst (PartStands s at) same stands) (long_name s p 64 far_there)
      (lt-ltb 64 (ends (is_name class_of) s p - p) far_there)).0

  ten_start : (p n q : ℕ) → n ≡ 10 → q ≡ p → Due s n q → has (is_start class_of) s (p + 1) ≡ true
  ten_start p n q number same (nine q' at) = absurd (omega arith)
  ten_start p n q number same (level q' open-there tag start) = subst (λ (i : ℕ). has (is_start class_of) s (i + 1) ≡ true) same start
  ten_start p n q number same (attribute at to marked stands space start) = absurd (omega arith)
  ten_start p n q number same (opening q' marked open-there) = absurd (omega arith)
  ten_start p n q number same (long at q' marked stands far) = absurd (omega arith)

  -- ---- a refusal is the first that is due

  tag_ground : {m : List ℕ} {seen o : List (List ℕ)} {g : Ground} → ground g ≡ in_tag true m seen o → ⊥
  tag_ground e = cc

  ranks : (st : State) (p n : ℕ) → Here s st p → Cause link_limits s st p n → (n' q : ℕ) → q ≡ p → Due s n' q → rank n ≤ rank n'
  ranks st p n here (dies within dying) n' q same d = omega arith
  ranks st p n here (cut out more) n' q same d = omega arith
  ranks st p n here (crowded m seen o is start many crowd) n' q same d =
      let on = cause_goes s st p 11 here (crowded m seen o is start many crowd) (λ e. omega arith) in
      ranked 1 p (omega arith) (λ h. no_nine p 9 p refl refl on.0 on.1) (λ h. absurd (omega arith)) (λ h. absurd (omega arith))
      (λ h. absurd (omega arith)) n' q same d
  ranks st p n here (longs due far next goes_on roomy part) n' q same d =
      let on = cause_goes s st p 14 here (longs due far next goes_on roomy part) (λ e. omega arith) in
      ranked 2 p (omega arith) (λ h. no_nine p 9 p refl refl on.0 on.1) (λ h e. crowded_out e) (λ h. absurd (omega arith))
      (λ h. absurd (omega arith)) n' q same d
    where
      crowded_out : Due s 11 p → ⊥
      crowded_out e =
          let x = eleven_state p st here 11 p refl refl e in
          true≢false (sym (le-leb 16 (length x.1) (omega (arith, x.4))) ∙ roomy true x.0 x.1 x.2 x.3)
  ranks st p n here (deep g is tag far levels) n' q same d =
      let on = cause_goes s st p 10 here (deep g is tag far levels) (λ e. omega arith) in
      ranked 3 p (omega arith) (λ h. no_nine p 9 p refl refl on.0 on.1)
      (λ h e. tag_ground (sym is ∙ (eleven_state p st here 11 p refl refl e).3)) (λ h e. fourteen_state p st here 14 p refl refl e g is)
      (λ h. absurd (omega arith)) n' q same d
  ranks st p n here (opens g is tag open-there) n' q same d =
      let on = cause_goes s st p 12 here (opens g is tag open-there) (λ e. omega arith) in
      ranked 4 p (omega arith) (λ h. no_nine p 9 p refl refl on.0 on.1)
      (λ h e. tag_ground (sym is ∙ (eleven_state p st here 11 p refl refl e).3)) (λ h e. fourteen_state p st here 14 p refl refl e g is)
      (λ h e. opening_no_start s link_limits g p open-there (ten_start p 10 p refl refl e)) n' q same d

  stuck_first : (n p : ℕ) → Stuck link_limits s n p → FirstDue s n p
  stuck_first n p stuck = record { due = cause_due s stuck.0 p n stuck.1 stuck.2; least = least }
    where
      least : (n' p' : ℕ) → Due s n' p' → (p < p') ⊎ ((p ≡ p') × (rank n ≤ rank n'))
      least n' p' d =
          elim (dec_lt p p') [
            | yes h ↦ inl h
            | no h ↦
                elim (dec_lt p' p) [
                  | yes k ↦ absurd (none_passed stuck.0 p stuck.1 n' p' d k)
                  | no k ↦ let same : p' ≡ p = omega arith in inr (sym same, ranks stuck.0 p n stuck.1 stuck.2 n' p' same d)
                ]
          ]

  -- ---- the answer

  -- a message that is read was read as XML
  read_root : (m : Message) → answer s ≡ whole m → (root : Element) × (document_at class_of s link_limits 0 ≡ whole root)
  unfolding message_at
  read_root m q = let x = then_whole _ (document_at class_of s link_limits 0) m q in (x.0, x.1)

  ranked_back : (n p : ℕ) → Due s n p → unrank (rank n) ≡ n
  ranked_back n p (nine q at) = refl
  ranked_back n p (level q open-there tag start) = refl
  ranked_back n p (attribute at to marked stands space start) = refl
  ranked_back n p (opening q marked open-there) = refl
  ranked_back n p (long at q marked stands far) = refl

  module _ (fits : length s ≤ 65520) where
    -- where the message is read as XML nothing is due
    whole_free : (root : Element) → document_at class_of s link_limits 0 ≡ whole root → NoneDue s
    whole_free root q n p d =
        ⊎_elim (λ within. none_passed (ground behind) (length s) at_end n p d within) (λ last. last.1 (link_limits, root, q))
        (due_within n p d)
      where
        at_end : Here s (ground behind) (length s)
        at_end = subst (Outcome link_limits s (λ r. Here s (ground behind) (length s))) q (going_document link_limits s fits)

    read_none : (m : Message) → answer s ≡ whole m → NoneDue s
    read_none m q = let root = read_root m q in whole_free root.0 root.1

    document_first : (n p : ℕ) → document_at class_of s link_limits 0 ≡ refused n p → FirstDue s n p
    document_first n p q =
        stuck_first n p (subst (Outcome link_limits s (λ r. Here s (ground behind) (length s))) q (going_document link_limits s fits))

    refused_first : (n p : ℕ) → answer s ≡ refused n p → ((n ≡ 13) × (p ≡ 0) × NoneDue s) ⊎ FirstDue s n p
    refused_first n p q = go (message_refusal link_limits s n p q)
      where
        go : Refusal link_limits s n p → ((n ≡ 13) × (p ≡ 0) × NoneDue s) ⊎ FirstDue s n p
        go (of_document e) = inr (document_first n p e)
        go (of_kind number place root e) = inl (number, place, whole_free root e)

    none_due : NoneDue s → ((m : Message) × (answer s ≡ whole m)) ⊎ (answer s ≡ refused 13 0)
    none_due none = go (answer s) refl
      where
        go : (r : Reading Message) → answer s ≡ r → ((m : Message) × (answer s ≡ whole m)) ⊎ (answer s ≡ refused 13 0)
        go (whole m) q = inl (m, q)
        go (refused n p) q =
            ⊎_elim (λ k. inr (q ∙ ap (λ (i : ℕ). refused i p) k.0 ∙ ap (refused 13) k.1)) (λ f. absurd (none n p f.due))
            (refused_first n p q)

    -- two that are first are the same
    same_first : (n p n' p' : ℕ) → FirstDue s n p → FirstDue s n' p' → (n ≡ n') × (p ≡ p')
    same_first n p n' p' one other =
        ⊎_elim (λ less. absurd (apart less))
        (λ h. ⊎_elim (λ less. absurd (omega (arith, h.0))) (λ k. (number h.1 k.1, h.0)) (other.least n p one.due))
        (one.least n' p' other.due)
      where
        apart : p < p' → ⊥
        apart less = ⊎_elim (λ more. omega arith) (λ k. omega (arith, k.0)) (other.least n p one.due)

        number : rank n ≤ rank n' → rank n' ≤ rank n → n ≡ n'
        number h k =
            let same : rank n ≡ rank n' = omega arith in sym (ranked_back n p one.due) ∙ ap unrank same ∙ ranked_back n' p' other.due

    due_first : (n p : ℕ) → FirstDue s n p → answer s ≡ refused n p
    due_first n p first = go (answer s) refl
      where
        go : (r : Reading Message) → answer s ≡ r → answer s ≡ refused n p
        go (whole m) q = absurd (read_none m q n p first.due)
        go (refused n' p') q =
            ⊎_elim (λ k. absurd (k.2 n p first.due))
            (λ f. let same = same_first n' p' n p f first in q ∙ ap (λ (i : ℕ). refused i p') same.0 ∙ ap (refused n) same.1)
            (refused_first n' p' q)

  too_long : 65520 < length s → answer s ≡ refused 8 0
  unfolding document_at
  too_long far = document_refused link_limits s 8 0 (rw (lt-ltb 65520 (length s) far))

  answered : Answered s
  answered = record {
    too_long = too_long;
    due_first = due_first;
    refused_first = refused_first;
    none_due = none_due;
    read_free = λ m q. let root = read_root m q in
        let fits = whole_fits link_limits s root.0 root.1 in (fits, whole_free fits root.0 root.1);
  }

pub earliest_wins : EarliestWins
earliest_wins = answered

-- ---- the places of 10, 11, 12 and 14

place_of : (n : ℕ) → (n ≡ 8 → ⊥) → (n ≡ 13 → ⊥) → (s : List ℕ) (p : ℕ) → answer s ≡ refused n p → Continues (take p s) × Due s n p
place_of n not-8 not-13 s p q = go (message_refusal link_limits s n p q)
  where
    go : Refusal link_limits s n p → Continues (take p s) × Due s n p
    go (of_document e) =
        let stuck = document_stuck link_limits s n p e not-8 in
        (at_continues link_limits s stuck.0 p stuck.1, cause_due s stuck.0 p n stuck.1 stuck.2)
    go (of_kind number place root e) = absurd (not-13 number)

pub place_of_ten : PlaceOfTen
place_of_ten = place_of 10 (λ e. omega arith) (λ e. omega arith)

pub place_of_eleven : PlaceOfEleven
place_of_eleven = place_of 11 (λ e. omega arith) (λ e. omega arith)

pub place_of_twelve : PlaceOfTwelve
place_of_twelve = place_of 12 (λ e. omega arith) (λ e. omega arith)

pub place_of_fourteen : PlaceOfFourteen
place_of_fourteen = place_of 14 (λ e. omega arith) (λ e. omega arith)
