-- Promise 7, one answer: the contract of each public function of this crate has one answer. Assumes nothing.
use mathlib.Core.Path.{◌≡◌, ap}
use mathlib.Core.Bool.{Bool}
use mathlib.Core.List.{List}
use Prim.Native.Nat.{ℕ}
use Rattle.std.specs.Prelude.{Result, Ok, Err}
use Rattle.laws.proofs.OneAnswer.{one_answer, one_said}
use Rattle.laws.specs.Bytes.{same_bytes}
use Rattle.message.specs.Class.{class_in}
use Rattle.message.specs.Reading.{said}
use Rattle.message.specs.Limits.{link_limits}
use Rattle.message.specs.Elements.{Quoted, part, quoted_at, element_at, document_at}
use Rattle.message.specs.declared.Refusal.{Refusal}
use Rattle.message.proofs.OneAnswer.{says_one_thing}
use Rattle.elements.specs.Held.{span_said}
use Rattle.elements.specs.Seen.{seen}
use Rattle.elements.specs.declared.Seen.{Seen}
use Rattle.elements.specs.declared.attributes.Span.{Span}

-- ---- no two answers say the same

spans_same : {b b' e e' : ℕ} → b ≡ b' → e ≡ e' → ◌≡◌ {A = Span} (record { from = b; to = e }) (record { from = b'; to = e' })
spans_same same same' = cc

pub span_says_one_thing : (r r' : Result Span Refusal) → span_said r ≡ span_said r' → r ≡ r'
span_says_one_thing (Ok n) (Ok n') same =
    let held : ◌≡◌ {A = Quoted} (record { from = n.from; to = n.to }) (record { from = n'.from; to = n'.to }) = cc in
    ap Ok (spans_same (ap (λ q. q.from) held) (ap (λ q. q.to) held))
span_says_one_thing (Ok n) (Err e) same = cc
span_says_one_thing (Err e) (Ok n) same = cc
span_says_one_thing (Err e) (Err e') same =
    let errs : ◌≡◌ {A = Result ℕ Refusal} (Err e) (Err e') = says_one_thing (Err e) (Err e') cc in
    cc

-- ---- attributes, elements, the document, names

pub quoted_once : (s table : List ℕ) (at : ℕ) {r r' : Result Span Refusal}
    → span_said r ≡ quoted_at (class_in table) s at → span_said r' ≡ quoted_at (class_in table) s at → r ≡ r'
quoted_once s table at = one_said span_said span_says_one_thing

pub element_once : (s table : List ℕ) (at depth : ℕ) {r r' : Result Seen Refusal}
    → said r ≡ seen s (element_at (class_in table) s link_limits depth at)
    → said r' ≡ seen s (element_at (class_in table) s link_limits depth at) → r ≡ r'
element_once s table at depth = one_said said says_one_thing

pub document_once : (s table : List ℕ) (at : ℕ) {r r' : Result Seen Refusal}
    → said r ≡ seen s (document_at (class_in table) s link_limits at)
    → said r' ≡ seen s (document_at (class_in table) s link_limits at) → r ≡ r'
document_once s table at = one_said said says_one_thing

pub called_once : (s : List ℕ) (b e : ℕ) (word : List ℕ) {r r' : Bool}
    → r ≡ same_bytes (part s b e) word → r' ≡ same_bytes (part s b e) word → r ≡ r'
called_once s b e word = one_answer
