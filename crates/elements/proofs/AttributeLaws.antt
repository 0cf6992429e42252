-- The attributes of a start tag: the loops over them. Assumes nothing.
use Prim.Native.Nat.{ℕ, suc, ◌+◌, ◌<◌, ◌≤◌}
use mathlib.Core.Path.{◌≡◌, refl, sym, ◌∙◌, ap}
use mathlib.Core.Bool.{true, false, cond}
use mathlib.Core.List.{List, [], ◌∷◌, ◌++◌}
use Rattle.std.specs.Prelude.{Result}
use Rattle.message.specs.declared.Refusal.{Refusal}
use native.Mathlib.Omega.{arith}
use lib.ListN.{length}
use Rattle.laws.specs.Bytes.{same_bytes}
use Rattle.message.specs.Class.{is_start, is_space}
use Rattle.message.specs.Reading.{Reading, ◌>>=◌, has, blanks}
use Rattle.message.specs.Reading.Reading.{whole, refused}
use Rattle.message.specs.Names.{Named, part_at, name_at}
use Rattle.message.proofs.Laws.{went, stopped, cond_true, cond_false, has_out, one_no, ends_after, ends_out}
use Rattle.message.proofs.Loops.{Fuelled, Left, left_first, left_on, left_done}
use Rattle.message.proofs.Trees.{name_on, quoted_on, fresh_on}
use Rattle.message.specs.Limits.{Limits}
use Rattle.message.specs.Elements.{part, Quoted, ends_tag, quoted_at, fresh_at, attributes_at}
use Rattle.elements.specs.Held.{names_of, span_said}
use Rattle.message.specs.Messages.{attribute_called}
use Rattle.elements.specs.declared.attributes.Span.{Span}
use Rattle.elements.proofs.HeldNames.{names_more, length_names}

-- what a reading was, from what the code says of it and the case that this is
pub span_is : {a : Reading Quoted} {r r' : Result Span Refusal} → span_said r ≡ a → r ≡ r' → a ≡ span_said r'
span_is says r-is = sym says ∙ ap span_said r-is

module _ (class : ℕ → ℕ) (s : List ℕ) where
  -- a name that is taken beside names that are held is in the message, and was not one too many
  pub fresh_held : (l : Limits) (held : List Span) (at : ℕ) {p e : ℕ} → fresh_at class s l (names_of s held) at p ≡ whole e → (p < e) × (e ≤ length s) × (length held < l.attributes)
  fresh_held l held at q =
      let f = fresh_on class s l (names_of s held) at q in
      (f.0, f.1, rw (length_names s held) at f.2)

  -- ---- the loop over the attributes: at the names of those before, and at the place behind them

  -- what is read at p, behind the white space
  abbrev pub behind_space : Limits → (List (List ℕ) × ℕ) → ℕ → ((List (List ℕ) × ℕ) → Reading ℕ) → Reading ℕ
  behind_space l i p next =
      cond (has ends_tag s p) (whole p) (fresh_at class s l i.0 i.1 p >>= (λ e. quoted_at class s e >>= (λ value. next (part s p e ∷ i.0, value.to + 1))))

  abbrev pub attributes_step : Limits → (List (List ℕ) × ℕ) → ((List (List ℕ) × ℕ) → Reading ℕ) → Reading ℕ
  attributes_step l i = behind_space l i (blanks class s i.1)

  abbrev pub attributes_reads : Limits → ℕ → (List (List ℕ) × ℕ) → Reading ℕ
  attributes_reads l fuel i = attributes_at class s l fuel i.0 i.1

  pub attributes_turn : (l : Limits) (fuel : ℕ) (i : List (List ℕ) × ℕ) → attributes_reads l (suc fuel) i ≡ attributes_step l i (attributes_reads l fuel)
  unfolding attributes_at
  attributes_turn l fuel i = refl

  pub attributes_ended : (l : Limits) (i : List (List ℕ) × ℕ) → length s ≤ i.1 → attributes_reads l 0 i ≡ attributes_step l i (attributes_reads l 0)
  unfolding attributes_at fresh_at
  attributes_ended l i end =
      rw (ends_out (is_space class) s i.1 end) (
      stopped _ (sym (stopped _ (one_no (is_space class) s i.1 (has_out (is_space class) s i.1 end)))) ∙ cond_false _ (has_out ends_tag s i.1 end))

  abbrev pub attributes : Limits → Fuelled (List (List ℕ) × ℕ) ℕ
  attributes l = record {
    n = length s;
    place = λ i. i.1;
    stop = λ i. i;
    step = attributes_step l;
    reads = attributes_reads l;
    on = λ i. omega arith;
    turn = attributes_turn l;
    ended = attributes_ended l;
  }

  module _ (l : Limits) (seen : List (List ℕ)) (i : ℕ) {p : ℕ} (p-is : p ≡ blanks class s i) {answer : Reading ℕ} (left : Left (attributes l) answer (seen, i)) where
    at_p : (next : (List (List ℕ) × ℕ) → Reading ℕ) → behind_space l (seen, i) p next ≡ attributes_step l (seen, i) next
    at_p next = ap (λ (q : ℕ). behind_space l (seen, i) q next) p-is

    pub attributes_done : has ends_tag s p ≡ true → whole p ≡ answer
    attributes_done t = left_done (attributes l) (λ next. cond_true _ t ∙ at_p next) left

    module _ (more : has ends_tag s p ≡ false) where
      pub attributes_unnamed : {n k : ℕ} → fresh_at class s l seen i p ≡ refused n k → refused n k ≡ answer
      attributes_unnamed q = left_done (attributes l) (λ next. stopped _ q ∙ cond_false _ more ∙ at_p next) left

      module _ {e : ℕ} (named : fresh_at class s l seen i p ≡ whole e) where
        pub attributes_no_value : {n k : ℕ} → quoted_at class s e ≡ refused n k → refused n k ≡ answer
        attributes_no_value q = left_done (attributes l) (λ next. stopped _ q ∙ went _ named ∙ cond_false _ more ∙ at_p next) left

        pub attributes_on : {v : Quoted} → quoted_at class s e ≡ whole v → Left (attributes l) answer (part s p e ∷ seen, v.to + 1)
        attributes_on {v} q =
            left_on (attributes l) (part s p e ∷ seen, v.to + 1) refl (omega (arith, ends_after (is_space class) s i p-is, fresh_on class s l seen i named, quoted_on class s q)) (λ next.
            went _ q ∙ went _ named ∙ cond_false _ more ∙ at_p next) left

  -- the name that was read is held as one more
  pub left_held : (l : Limits) (held : List Span) (name : Span) (k : ℕ) {answer : Reading ℕ}
      → Left (attributes l) answer (part s name.from name.to ∷ names_of s held, k) → Left (attributes l) answer (names_of s (held ++ name ∷ []), k)
  left_held l held name k left = rw (names_more s held name) left

  -- a tag that ends behind its name has none
  pub attributes_none : (l : Limits) (at : ℕ) {p : ℕ} → p ≡ blanks class s at → has ends_tag s p ≡ true → whole p ≡ attributes_at class s l (length s) [] at
  attributes_none l at p-is t = attributes_done l [] at p-is (left_first (attributes l) ([], at) refl) t

  -- ---- the loop that looks for one that is called w

  -- what is read at p, behind the white space
  abbrev pub called_behind : Limits → List ℕ → ℕ → (ℕ → Reading Quoted) → Reading Quoted
  called_behind l w p next =
      name_at class l.part s p >>= (λ name. quoted_at class s name.end >>= (λ value.
      cond (same_bytes (part s p name.end) w) (whole value) (next (value.to + 1))))

  abbrev pub called_step : Limits → List ℕ → ℕ → (ℕ → Reading Quoted) → Reading Quoted
  called_step l w at = called_behind l w (blanks class s at)

  pub called_turn : (l : Limits) (w : List ℕ) (fuel at : ℕ) → attribute_called class l s (suc fuel) w at ≡ called_step l w at (attribute_called class l s fuel w)
  unfolding attribute_called
  called_turn l w fuel at = refl

  pub called_ended : (l : Limits) (w : List ℕ) (at : ℕ) → length s ≤ at → attribute_called class l s 0 w at ≡ called_step l w at (attribute_called class l s 0 w)
  unfolding attribute_called name_at part_at
  called_ended l w at end =
      rw (ends_out (is_space class) s at end) (
      stopped _ (sym (stopped _ (sym (stopped _ (one_no (is_start class) s at (has_out (is_start class) s at end)))))))

  abbrev pub lookup : Limits → List ℕ → Fuelled ℕ Quoted
  lookup l w = record {
    n = length s;
    place = λ i. i;
    stop = λ i. i;
    step = called_step l w;
    reads = λ fuel. attribute_called class l s fuel w;
    on = λ i. omega arith;
    turn = called_turn l w;
    ended = called_ended l w;
  }

  module _ (l : Limits) (w : List ℕ) (i : ℕ) {p : ℕ} (p-is : p ≡ blanks class s i) {answer : Reading Quoted} (left : Left (lookup l w) answer i) where
    called_at_p : (next : ℕ → Reading Quoted) → called_behind l w p next ≡ called_step l w i next
    called_at_p next = ap (λ (q : ℕ). called_behind l w q next) p-is

    pub called_unnamed : {n k : ℕ} → name_at class l.part s p ≡ refused n k → refused n k ≡ answer
    called_unnamed q = left_done (lookup l w) (λ next. stopped _ q ∙ called_at_p next) left

    module _ {name : Named} (named : name_at class l.part s p ≡ whole name) where
      pub called_no_value : {n k : ℕ} → quoted_at class s name.end ≡ refused n k → refused n k ≡ answer
      called_no_value q = left_done (lookup l w) (λ next. stopped _ q ∙ went _ named ∙ called_at_p next) left

      module _ {v : Quoted} (valued : quoted_at class s name.end ≡ whole v) where
        pub called_found : same_bytes (part s p name.end) w ≡ true → whole v ≡ answer
        called_found t = left_done (lookup l w) (λ next. cond_true _ t ∙ went _ valued ∙ went _ named ∙ called_at_p next) left

        pub called_further : i < v.to + 1
        called_further = omega (arith, ends_after (is_space class) s i p-is, name_on class s l.part named, quoted_on class s valued)

        pub called_on : same_bytes (part s p name.end) w ≡ false → Left (lookup l w) answer (v.to + 1)
        called_on t =
            left_on (lookup l w) (v.to + 1) refl called_further (λ next. cond_false _ t ∙ went _ valued ∙ went _ named ∙ called_at_p next) left
