-- The loop over the content of an element: what it holds on to of the elements so far, and that the fuel of its reader is enough. Assumes nothing.
use Prim.Native.Nat.{ℕ, zero, suc, ◌+◌, ◌-◌, ◌<◌, ◌≤◌}
use mathlib.Core.Path.{◌≡◌, refl, sym, ◌∙◌, ap}
use mathlib.Core.Bool.{Bool, true, false, cond}
use mathlib.Core.List.{List}
use native.Mathlib.Numerals.{sub-one}
use native.Mathlib.Omega.{arith}
use lib.ListN.{length}
use lib.Dec.{eqb}
use borrow.Author.Tests.{ne_eqb, eqb-true}
use Rattle.std.specs.Prelude.{Result}
use Rattle.message.specs.declared.Refusal.{Refusal}
use Rattle.message.specs.Reading.{Reading, ◌>>=◌, is, has}
use Rattle.message.specs.Reading.Reading.{whole, refused}
use Rattle.message.proofs.Laws.{went, stopped, cond_true, cond_false}
use Rattle.message.proofs.Loops.{Fuelled, Left, left_first, left_on, left_done}
use Rattle.message.specs.Limits.{link_limits}
use Rattle.message.specs.Elements.{Elements, Element, Start, Content, closed, nested, filled, free_at, end_tag_at, start_at, content_at, rest_at, too_deep_at, element_at}
use Rattle.message.specs.Elements.Elements.{none, more}
use Rattle.elements.specs.Seen.{count, nothing_inside, mark_of, typed_in, inside_of, seen_of, seen, noted}
use Rattle.elements.specs.Held.{named, started, started_said, type_mark, empty_seen, closing}
use Rattle.message.proofs.Trees.{whole_same, free_out, element_on}
use Rattle.message.proofs.Facts.{then_whole, then_same, refused_then}
use Rattle.elements.specs.declared.content.Start as starts
use Rattle.elements.specs.declared.Inside.{Inside}
use Rattle.elements.specs.declared.Seen.{Seen}

-- ---- readings one after another

pub then_then : {A B C : Type 0} (a : Reading A) (f : A → Reading B) (g : B → Reading C) → ((a >>= f) >>= g) ≡ (a >>= (λ x. f x >>= g))
then_then (whole x) f g = refl
then_then (refused n p) f g = refl

-- ---- what is held on to

pub inside_same : {i j : Inside} → i.children ≡ j.children → i.first ≡ j.first → i.typed ≡ j.typed → i.nested ≡ j.nested → i ≡ j
inside_same a b c d = rw (a, b, c, d)

module _ (s : List ℕ) where
  -- elements behind those that are inside, one after the other as the code comes to them
  abbrev pub add : Inside → Elements → Inside
  add i none = i
  add i (more t inner others) = add (noted i (seen_of s (record { tag = t; inside = inner }))) others

  typed_none : (n : ℕ) → cond (eqb n 0) 0 n ≡ n
  typed_none n = go (eqb n 0) refl
    where
      go : (t : Bool) → eqb n 0 ≡ t → cond t 0 n ≡ n
      go true h = sym (eqb-true n 0 h)
      go false h = refl

  typed_more : (n mark others : ℕ) → cond (eqb (cond (eqb n 0) mark n) 0) others (cond (eqb n 0) mark n) ≡ cond (eqb n 0) (cond (eqb mark 0) others mark) n
  typed_more n mark others = go (eqb n 0) refl
    where
      go : (t : Bool) → eqb n 0 ≡ t → cond (eqb (cond t mark n) 0) others (cond t mark n) ≡ cond t (cond (eqb mark 0) others mark) n
      go true h = refl
      go false h = rw h

  -- behind a first element, only how many they are and the first AdvisoryType may change
  add_behind : (i : Inside) (es : Elements) → (i.children ≡ 0 → ⊥)
      → add i es ≡ record { children = i.children + count es; first = i.first; typed = cond (eqb i.typed 0) (typed_in s es) i.typed; nested = i.nested }
  add_behind i none h = inside_same (omega arith) refl (sym (typed_none i.typed)) refl
  add_behind i (more t inner others) h =
      let child = seen_of s (record { tag = t; inside = inner }) in
      let no : eqb i.children 0 ≡ false = ne_eqb i.children 0 h in
      add_behind (noted i child) others (omega arith)
      ∙ inside_same (omega arith) (rw no) (typed_more i.typed (mark_of s t) (typed_in s others)) (rw no)

  typed_inside : (es : Elements) → (inside_of s es).typed ≡ typed_in s es
  typed_inside none = refl
  typed_inside (more t inner others) = refl

  pub add_all : (es : Elements) → add nothing_inside es ≡ inside_of s es
  add_all none = refl
  add_all (more t inner others) =
      add_behind (noted nothing_inside (seen_of s (record { tag = t; inside = inner }))) others (λ e. omega (arith, e))
      ∙ inside_same (omega arith) refl refl (typed_inside inner)

-- ---- the loop

module _ (class : ℕ → ℕ) (s : List ℕ) (child : ℕ → Reading Element) (start : starts.Start) where
  abbrev opened : Start
  opened = started start

  -- an element whose content has been read, behind elements that were held on to
  abbrev held : Inside → Content → Seen
  held i c = record { begin = start.begin; from = start.from; to = c.to; end = c.end; mark = type_mark s start.begin start.name; inside = add s i c.inside }

  -- the loop stands at a place, with what it holds on to
  pub record Standing : Type 0 where
    pub at : ℕ
    pub inside : Inside

  abbrev pub reads_content : ℕ → Standing → Reading Seen
  reads_content fuel p = content_at class s link_limits fuel child opened p.at >>= (λ c. whole (held p.inside c))

  abbrev pub content_step : Standing → (Standing → Reading Seen) → Reading Seen
  content_step p next =
      free_at class s (length s) p.at >>= (λ stop.
      cond (has (is 47) s (stop + 1)) (closing class s start stop p.inside)
      (child stop >>= (λ e. next (record { at = e.tag.end; inside = noted p.inside (seen_of s e) }))))

  pub content_turn : (fuel : ℕ) (p : Standing) → reads_content (suc fuel) p ≡ content_step p (reads_content fuel)
  unfolding content_at closing
  content_turn fuel p = then_then (free_at class s (length s) p.at) _ _ ∙ then_same _ _ (free_at class s (length s) p.at) (λ stop q. go stop (has (is 47) s (stop + 1)))
    where
      whole_content : Content → Reading Seen
      whole_content c = whole (held p.inside c)

      go : (stop : ℕ) (t : Bool)
          → (cond t (end_tag_at class s link_limits start.begin (named start.name) (stop + 2) >>= (λ e. whole (closed stop e)))
          (child stop >>= (λ e. content_at class s link_limits fuel child opened e.tag.end >>= (λ c. whole (nested e c))))
          >>= whole_content)
          ≡ cond t (closing class s start stop p.inside) (child stop >>= (λ e. reads_content fuel (record { at = e.tag.end; inside = noted p.inside (seen_of s e) })))
      go stop true = then_then (end_tag_at class s link_limits start.begin (named start.name) (stop + 2)) _ _
      go stop false = then_then (child stop) _ _ ∙ then_same _ _ (child stop) (λ e q. then_then (content_at class s link_limits fuel child opened e.tag.end) _ _)

  pub content_ended : (p : Standing) → length s ≤ p.at → reads_content 0 p ≡ content_step p (reads_content 0)
  unfolding content_at
  content_ended p h = stopped _ (free_out class s (length s) p.at h)

  abbrev pub contents : Fuelled Standing Seen
  contents = record {
    n = length s;
    place = λ p. p.at;
    stop = λ p. p;
    step = content_step;
    reads = reads_content;
    on = λ p. omega arith;
    turn = content_turn;
    ended = content_ended;
  }

  -- what the loop is asked for at its start is the element behind its start tag
  pub content_asked : start.empty ≡ false → reads_content (length s) (record { at = start.from; inside = nothing_inside }) ≡ seen s (rest_at class s link_limits child opened)
  unfolding rest_at
  content_asked h =
      then_same _ _ (content_at class s link_limits (length s) child opened start.from) (λ c q. ap (λ (i : Inside). whole (record { begin = start.begin; from = start.from; to = c.to; end = c.end; mark = type_mark s start.begin start.name; inside = i })) (add_all s c.inside))
      ∙ sym (then_then (content_at class s link_limits (length s) child opened start.from) (λ c. whole (filled opened c)) (λ e. whole (seen_of s e)))
      ∙ ap (seen s) (cond_false _ h)

  -- an empty-element tag is an element by itself
  pub emptied_is : start.empty ≡ true → whole (empty_seen s start) ≡ seen s (rest_at class s link_limits child opened)
  unfolding rest_at
  emptied_is h = rw h

-- ---- what is seen of a reading

module _ (s : List ℕ) (a : Reading Element) where
  pub seen_whole : {x : Seen} → seen s a ≡ whole x → (e : Element) × (a ≡ whole e) × (x ≡ seen_of s e)
  seen_whole {x} q = let y = then_whole (λ e. whole (seen_of s e)) a x q in (y.0, y.1, sym (whole_same y.2))

  pub seen_refused : {n p : ℕ} → seen s a ≡ refused n p → a ≡ refused n p
  seen_refused q = refused_then a (seen_of s) q

-- ---- the turns of the loop

module _ (class : ℕ → ℕ) (s : List ℕ) (child : ℕ → Reading Element) (start : starts.Start) where
  abbrev pub ContentLeft : Reading Seen → ℕ → Inside → Type 0
  ContentLeft answer at held = Left (contents class s child start) answer (record { at = at; inside = held })

  pub content_first : {held : Inside} → held ≡ nothing_inside → ContentLeft (reads_content class s child start (length s) (record { at = start.from; inside = nothing_inside })) start.from held
  content_first h = rw h (left_first (contents class s child start) (record { at = start.from; inside = nothing_inside }) refl)

  module _ {answer : Reading Seen} (i : ℕ) (inside : Inside) where
    pub content_refused : {n p : ℕ} → free_at class s (length s) i ≡ refused n p → ContentLeft answer i inside → refused n p ≡ answer
    content_refused q = left_done (contents class s child start) (λ next. stopped _ q)

    module _ {stop : ℕ} (free : free_at class s (length s) i ≡ whole stop) where
      pub content_closed : {x : Reading Seen} → has (is 47) s (stop + 1) ≡ true → x ≡ closing class s start stop inside → ContentLeft answer i inside → x ≡ answer
      content_closed h e = left_done (contents class s child start) (λ next. e ∙ cond_true _ h ∙ went _ free)

      pub content_child_refused : {n p : ℕ} → has (is 47) s (stop + 1) ≡ false → seen s (child stop) ≡ refused n p → ContentLeft answer i inside → refused n p ≡ answer
      content_child_refused h q = left_done (contents class s child start) (λ next. stopped _ (seen_refused s (child stop) q) ∙ cond_false _ h ∙ went _ free)

      pub content_child : (ch : Seen) (inside' : Inside) → has (is 47) s (stop + 1) ≡ false → seen s (child stop) ≡ whole ch → inside' ≡ noted inside ch → i < ch.end → ContentLeft answer i inside → ContentLeft answer ch.end inside'
      content_child ch inside' h q noted-is further left =
          let e = (seen_whole s (child stop) q).0 in
          let ch-is = (seen_whole s (child stop) q).2 in
          left_on (contents class s child start) (record { at = e.tag.end; inside = noted inside (seen_of s e) })
          (standing_same (ap (λ (x : Seen). x.end) ch-is) (noted-is ∙ ap (noted inside) ch-is))
          (omega (arith, further, ap (λ (x : Seen). x.end) ch-is))
          (λ next. went (λ (x : Element). next (record { at = x.tag.end; inside = noted inside (seen_of s x) })) (seen_whole s (child stop) q).1 ∙ cond_false _ h ∙ went _ free) left
        where
          standing_same : {a b : ℕ} {x y : Inside} → a ≡ b → x ≡ y → ◌≡◌ {A = Standing class s child start} (record { at = a; inside = x }) (record { at = b; inside = y })
          standing_same p r = rw (p, r)

-- an element seen by its parent ends past its `<`
pub seen_on : (class : ℕ → ℕ) (s : List ℕ) (depth at : ℕ) (ch : Seen) → seen s (element_at class s link_limits depth at) ≡ whole ch → (at < ch.end) × (ch.end ≤ length s)
seen_on class s depth at ch q =
    let e = seen_whole s (element_at class s link_limits depth at) q in
    omega (arith, element_on class s link_limits depth at e.0 e.1, ap (λ (x : Seen). x.end) e.2)

-- ---- an element, by what is left of its levels

module _ (class : ℕ → ℕ) (s : List ℕ) (depth at : ℕ) where
  pub element_none : depth ≡ 0 → too_deep_at class s at ≡ element_at class s link_limits depth at
  unfolding element_at
  element_none h = rw h

  pub element_some : (depth ≡ 0 → ⊥) → (start_at class s link_limits at >>= rest_at class s link_limits (element_at class s link_limits (depth - 1))) ≡ element_at class s link_limits depth at
  unfolding element_at
  element_some h = go depth h
    where
      go : (d : ℕ) → (d ≡ 0 → ⊥) → (start_at class s link_limits at >>= rest_at class s link_limits (element_at class s link_limits (d - 1))) ≡ element_at class s link_limits d at
      go zero h = absurd (h refl)
      go (suc d) h = rw sub-one

  -- what the loop over the content of an element is asked for is the element
  pub element_asked : (start : starts.Start) → (depth ≡ 0 → ⊥) → start_at class s link_limits at ≡ whole (started start) → start.empty ≡ false
      → reads_content class s (element_at class s link_limits (depth - 1)) start (length s) (record { at = start.from; inside = nothing_inside }) ≡ seen s (element_at class s link_limits depth at)
  element_asked start some starts-so not-empty =
      content_asked class s (element_at class s link_limits (depth - 1)) start not-empty ∙ ap (seen s) (went _ starts-so ∙ element_some some)

-- what a start tag was, from what the code says of it and the case that this is
pub started_is : {a : Reading Start} {r r' : Result starts.Start Refusal} → started_said r ≡ a → r ≡ r' → a ≡ started_said r'
started_is says r-is = sym says ∙ ap started_said r-is
