-- Promise 2, as specs/Raised says it: a raised limit changes only what was its own refusal, and with all limits out of the way only 9, 12
-- and 13 are left. Assumes nothing.
use Prim.Native.Nat.{ℕ}
use mathlib.Core.Path.{◌≡◌, refl, sym, ◌∙◌, ap}
use mathlib.Core.Logic.{◌⊎◌, inl, inr}
use mathlib.Core.List.{List, []}
use native.Mathlib.Omega.{arith}
use lib.ListN.{length}
use Rattle.message.specs.Class.{class_of}
use Rattle.message.specs.Reading.{Reading}
use Rattle.message.specs.Reading.Reading.{whole, refused}
use Rattle.message.specs.Limits.{Limits}
use Rattle.message.specs.Elements.{part, Tag, Element, Quoted, document_at}
use Rattle.message.specs.Messages.{kind_of, found_in, only_child, attribute_of, message_of_kind, message_at}
use Rattle.message.specs.Words as words
use Rattle.message.specs.Raised.{AtMost, RaisedChangesItsOwn, OutOfTheWay, OnlyTheRest}
use Rattle.message.specs.declared.Kind.{Kind}
use Rattle.message.specs.declared.Kind.TheVariants as kinds
use Rattle.message.proofs.Trees.{unread}
use Rattle.message.proofs.Facts.{then_same, Attributed}
use Rattle.message.proofs.Kept.{kept_then, kept_on, kept_whole, kept_attributes, kept_document}
use Rattle.message.proofs.ByForm.{Refuses, refuses_then, refuses_number}
use Rattle.message.proofs.ByForm.Refuses.{never, with}
use Rattle.message.proofs.Numbers.{Holds, told_document}
use Rattle.message.proofs.Within.{WasRead, root_read}
use Rattle.message.proofs.Seven.{Decided, only_child_lem, value, value_there, there_value, decided, own, childs}
use Rattle.message.proofs.Seven.Decided.{read, thirteen}

-- What is made of the elements is the same: either looks through the attributes of a start tag that was read whole, and finds what it carries
module _ (s : List ℕ) (l l' : Limits) (up : AtMost l l') where
  found_again : (w : List ℕ) (tag : Tag) → Attributed class_of s l tag.name
      → attribute_of class_of l s w tag ≡ attribute_of class_of l' s w tag
  found_again w tag a = go (value s l w tag a) refl (value s l' w tag a') refl
    where
      a' : Attributed class_of s l' tag.name
      a' = (a.0, kept_whole l l' _ _ a.0 (kept_attributes l l' class_of s up (length s) [] tag.name.end) a.1)

      go : (r : Reading Quoted) → value s l w tag a ≡ r → (r' : Reading Quoted) → value s l' w tag a' ≡ r' → found_in r ≡ found_in r'
      go (whole v) q r' q' = ap found_in (sym (there_value s l' w tag a' v (value_there s l w tag a v q)) ∙ q')
      go (refused n p) q (whole v) q' = unread (sym q ∙ there_value s l w tag a v (value_there s l' w tag a' v q'))
      go (refused n p) q (refused n' p') q' = refl

  kind_again : (root : Element) → WasRead class_of s l root → (k : Kind)
      → message_of_kind class_of l s root k ≡ message_of_kind class_of l' s root k
  kind_again root was k = go k
    where
      mine : (w : List ℕ) → attribute_of class_of l s w root.tag ≡ attribute_of class_of l' s w root.tag
      mine w = found_again w root.tag (own s l root was)

      childs_own : (w v : List ℕ) (e : Element) → only_child s v root.inside ≡ whole e
          → attribute_of class_of l s w e.tag ≡ attribute_of class_of l' s w e.tag
      childs_own w v e h = found_again w e.tag (childs s l root was v e (only_child_lem s v root.inside e h))

      go : (k : Kind) → message_of_kind class_of l s root k ≡ message_of_kind class_of l' s root k
      go kinds.SessionOpenRequest = refl
      go kinds.SessionOpenResponse = rw (mine words.status)
      go kinds.SessionOk = rw (mine words.identity)
      go kinds.Ok = rw (mine words.in_response_to)
      go kinds.Advisory =
          then_same _ _ (only_child s words.advisory root.inside) (λ e h. rw (childs_own words.in_relation_to words.advisory e h))
      go kinds.Request =
          then_same _ _ (only_child s words.query_request root.inside) (λ e h. rw (childs_own words.identity words.query_request e h))
      go kinds.Response =
          then_same _ _ (only_child s words.query_response root.inside) (λ e h. rw (childs_own words.in_response_to words.query_response e h))

pub raised_changes_its_own : RaisedChangesItsOwn
unfolding message_at
raised_changes_its_own s l l' up =
    kept_then l l' _ _ (kept_document l l' class_of s up 0) (λ root q.
    kept_on l l' _ _ (kind_of (part s root.tag.name.local root.tag.name.end)) (λ k.
    inl (kind_again s l l' up root (root_read class_of s l 0 root q) k)))

-- ---- what is left when the limits are out of the way

-- then what holds of 9 and 12 holds of all refusals of what is not well formed
out_holds : (P : ℕ → Type 0) (s : List ℕ) (l : Limits) → OutOfTheWay s l → P 9 → P 12 → Holds P s l
out_holds P s l out nine twelve = record {
  eight = λ h. absurd (omega (arith, out.bytes));
  nine = nine;
  ten = λ h. absurd (omega (arith, out.levels));
  eleven = λ h. absurd (omega (arith, out.attributes));
  twelve = twelve;
  fourteen = λ h. absurd (omega (arith, out.part));
}

abbrev NineOrTwelve : ℕ → Type 0
NineOrTwelve n = (n ≡ 9) ⊎ (n ≡ 12)

pub document_rest : (s : List ℕ) (l : Limits) → OutOfTheWay s l → (n p : ℕ) → document_at class_of s l 0 ≡ refused n p → NineOrTwelve n
document_rest s l out n p q =
    refuses_number n p (told_document NineOrTwelve class_of s l (out_holds NineOrTwelve s l out (inl refl) (inr refl)) 0) q

-- a message that is well formed is refused with 13 alone
decided_refuses : {P : ℕ → Type 0} {A : Type 0} {r : Reading A} → P 13 → Decided r → Refuses P r
decided_refuses h (read x) = never
decided_refuses h thirteen = with h

abbrev TheRest : ℕ → Type 0
TheRest n = (n ≡ 9) ⊎ ((n ≡ 12) ⊎ (n ≡ 13))

pub only_the_rest : OnlyTheRest
unfolding message_at
only_the_rest s l out n p q =
    let well-formed = told_document TheRest class_of s l (out_holds TheRest s l out (inl refl) (inr (inl refl))) 0 in
    refuses_number {P = TheRest} n p (refuses_then _ well-formed (λ root. decided_refuses (inr (inr refl)) (decided s l root))) q
