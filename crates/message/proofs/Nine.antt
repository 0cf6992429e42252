-- Proves specs/Nine: what the place of a 9 means, and that there is one such place at most. Assumes nothing.
use Prim.Native.Nat.{ℕ, ◌+◌, ◌-◌, ◌<◌, ◌≤◌}
use mathlib.Core.Path.{◌≡◌, refl, sym, ◌∙◌, ap, subst}
use mathlib.Core.Bool.{Bool, true, false, cond}
use mathlib.Core.List.{List, ◌++◌, append_assoc}
use native.Mathlib.Decide.{dec_lt}
use native.Mathlib.Omega.{arith}
use lib.ListN.{length, take, drop}
use lib.Seq.{take-add, take-length}
use lib.Dec.{ltb, eqb}
use borrow.Author.Tests.{ltb-false}
use Rattle.message.specs.Class.{class_of}
use Rattle.message.specs.Reading.{◌>>=◌}
use Rattle.message.specs.Reading.Reading.{whole, refused}
use Rattle.message.specs.Limits.{Limits}
use Rattle.message.specs.Elements.{declared_of, root_at, document_at}
use Rattle.message.specs.Readable.{Readable, Continues}
use Rattle.message.specs.Nine.{NineAt, dead, unfinished, NineMeans, NineOnce}
use Rattle.message.proofs.Automaton.{State, ground, behind}
use Rattle.message.proofs.Dues.{At}
use Rattle.message.proofs.Going.{Cause, dies, cut, deep, crowded, opens, longs, Stuck, Outcome}
use Rattle.message.proofs.GoingElements.{going_document}
use Rattle.message.proofs.Accepted.{dead_nine, cut_nine}
use Rattle.message.proofs.ByKind.{of_document, of_kind, Refusal, message_refusal}

-- a refusal of the document, but for 8, with its cause
pub document_stuck : (l : Limits) (s : List ℕ) (n p : ℕ) → document_at class_of s l 0 ≡ refused n p → (n ≡ 8 → ⊥) → Stuck l s n p
unfolding document_at
document_stuck l s n p q other = go (ltb l.bytes (length s)) refl
  where
    go : (t : Bool) → ltb l.bytes (length s) ≡ t → Stuck l s n p
    go true e =
        let same : refused 8 0 ≡ refused n p =
        sym (ap (λ (t : Bool). cond t (refused 8 0) (cond (eqb 0 0) (declared_of class_of s) (whole 0) >>= root_at class_of s l)) e) ∙ q in
        let eight : 8 ≡ n = cc in
        absurd (other (sym eight))
    go false e = subst (Outcome l s (λ root. At l s (ground behind) (length s))) q (going_document l s (ltb-false l.bytes (length s) e))

stuck_nine : (l : Limits) (s : List ℕ) (p : ℕ) → Stuck l s 9 p → NineAt s p
stuck_nine l s p stuck = go stuck.0 9 refl stuck.1 stuck.2
  where
    go : (st : State) (n : ℕ) → n ≡ 9 → At l s st p → Cause l s st p n → NineAt s p
    go st n nine here (dies within dying) = dead_nine l s st p here within dying
    go st n nine here (cut out more) = cut_nine l s st p here out more
    go st n nine here (deep g q tag far levels) = absurd (omega arith)
    go st n nine here (crowded m seen o q start many crowd) = absurd (omega arith)
    go st n nine here (opens g q tag opening) = absurd (omega arith)
    go st n nine here (longs due long next q roomy part) = absurd (omega arith)

pub nine_means : NineMeans
nine_means s l p q = go 9 refl (message_refusal l s 9 p q)
  where
    go : (n : ℕ) → n ≡ 9 → Refusal l s n p → NineAt s p
    go n nine (of_document e) = stuck_nine l s p (document_stuck l s 9 p (e ∙ ap (λ (k : ℕ). refused k p) nine) (λ h. omega arith))
    go n nine (of_kind thirteen zero root e) = absurd (omega arith)

-- ---- one place

-- fewer bytes can be continued where more can
continues_fewer : (s : List ℕ) (p q : ℕ) → p ≤ q → Continues (take q s) → Continues (take p s)
continues_fewer s p q less on =
    let more : p + (q - p) ≡ q = omega arith in
    let cut : take q s ≡ take p s ++ take (q - p) (drop p s) = ap (λ (i : ℕ). take i s) (sym more) ∙ take-add p (q - p) s in (
      take (q - p) (drop p s) ++ on.0,
      subst Readable (ap (λ (w : List ℕ). w ++ on.0) cut ∙ append_assoc (take p s) (take (q - p) (drop p s)) on.0) on.1,
    )

-- what comes first is not dead, and a message that only ends too soon has no dead byte
nine_before : (s : List ℕ) (p p' : ℕ) → NineAt s p → NineAt s p' → p < p' → ⊥
nine_before s p p' (dead within on off) (dead within' on' off') less = off (continues_fewer s (p + 1) p' (omega arith) on')
nine_before s p p' (dead within on off) (unfinished all on' off') less =
    off (continues_fewer s (p + 1) (length s) (omega arith) (subst Continues (sym (take-length s)) on'))
nine_before s p p' (unfinished all on off) (dead within' on' off') less = omega arith
nine_before s p p' (unfinished all on off) (unfinished all' on' off') less = omega arith

pub nine_once : NineOnce
nine_once s p p' one other =
    elim (dec_lt p p') [
      | yes h ↦ absurd (nine_before s p p' one other h)
      | no h ↦ elim (dec_lt p' p) [ yes k ↦ absurd (nine_before s p' p other one k) | no k ↦ omega arith ]
    ]
