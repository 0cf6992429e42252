-- Once a message is read as XML only 13 can refuse it, at 0: a refusal is the document's, or that. Assumes nothing.
use Prim.Native.Nat.{ℕ}
use mathlib.Core.Path.{◌≡◌, refl, sym, ◌∙◌, ap, subst}
use mathlib.Core.List.{List}
use Rattle.message.specs.Class.{class_of}
use Rattle.message.specs.Reading.{Reading}
use Rattle.message.specs.Reading.Reading.{whole, refused}
use Rattle.message.specs.Limits.{Limits}
use Rattle.message.specs.Elements.{Element, document_at}
use Rattle.message.specs.Messages.{message_at, message_of}
use Rattle.message.proofs.Laws.{went, stopped}
use Rattle.message.proofs.Seven.{Decided, read, thirteen, decided}

-- what that says of a refusal
decided_number : {A : Type 0} {a : Reading A} (n p : ℕ) → Decided a → a ≡ refused n p → (n ≡ 13) × (p ≡ 0)
decided_number n p (read x) q = cc
decided_number n p thirteen q = let number : 13 ≡ n = cc in let place : 0 ≡ p = cc in (sym number, sym place)

module _ (l : Limits) (s : List ℕ) where
  -- what the document's reading is to the message's
  pub document_refused : (n p : ℕ) → document_at class_of s l 0 ≡ refused n p → message_of class_of l s ≡ refused n p
  unfolding message_at
  document_refused n p q = sym (stopped _ q)

  document_whole : (root : Element) → document_at class_of s l 0 ≡ whole root → Decided (message_of class_of l s)
  unfolding message_at
  document_whole root q = subst Decided (went _ q) (decided s l root)

  pub data Refusal (n p : ℕ) : Type 0 where
    of_document : document_at class_of s l 0 ≡ refused n p → Refusal n p
    of_kind : n ≡ 13 → p ≡ 0 → (root : Element) → document_at class_of s l 0 ≡ whole root → Refusal n p

  pub message_refusal : (n p : ℕ) → message_of class_of l s ≡ refused n p → Refusal n p
  message_refusal n p q = go (document_at class_of s l 0) refl
    where
      go : (r : Reading Element) → document_at class_of s l 0 ≡ r → Refusal n p
      go (whole root) e = let k = decided_number n p (document_whole root e) q in of_kind k.0 k.1 root e
      go (refused n' p') e =
          let same : refused n' p' ≡ refused n p = sym (document_refused n' p' e) ∙ q in
          let number : n' ≡ n = cc in
          let place : p' ≡ p = cc in
          of_document (e ∙ ap (λ (k : ℕ). refused k p') number ∙ ap (refused n) place)
