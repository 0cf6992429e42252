-- What is known of a start tag, and of an element, that was read whole: its name is what is read again where it begins, and each element
-- inside is what is read again at its place. Assumes nothing.
use Prim.Native.Nat.{ℕ, zero, suc, ◌+◌, ◌-◌}
use mathlib.Core.Path.{◌≡◌, refl, sym, ◌∙◌, ap, subst}
use mathlib.Core.Logic.{◌⊎◌, inl, inr}
use mathlib.Core.Bool.{Bool, true, false, cond}
use mathlib.Core.List.{List, []}
use native.Mathlib.Omega.{arith}
use lib.ListN.{length}
use lib.Dec.{ltb, eqb}
use Rattle.message.specs.Markup.{around_at}
use Rattle.message.specs.Class.{is_start}
use Rattle.message.specs.Reading.{Reading, ◌>>=◌, is_whole, is, has, one}
use Rattle.message.specs.Reading.Reading.{whole, refused}
use Rattle.message.specs.Names.{Named, name_at}
use Rattle.message.proofs.Laws.{one_has}
use Rattle.message.specs.Limits.{Limits}
use Rattle.message.specs.Elements.{Elements, Element, Start, Content, closed, nested, unfilled, filled, start_end_at, attributes_at, with_name_at, start_at, free_at, end_tag_at, content_at, rest_at, too_deep_at, element_at, end_at, declared_of, root_at, document_at}
use Rattle.message.specs.Elements.Elements.{none, more}
use Rattle.message.proofs.Trees.{whole_same, unread}

-- two readings that came out whole together each did
pub then_whole : {A B : Type 0} (next : A → Reading B) (a : Reading A) (y : B) → (a >>= next) ≡ whole y
    → (x : A) × (a ≡ whole x) × (next x ≡ whole y)
then_whole next (whole x) y q = (x, refl, q)
then_whole next (refused n p) y q = unread q

pub whole_is : {A : Type 0} (r : Reading A) → is_whole r ≡ true → (x : A) × (r ≡ whole x)
whole_is (whole x) e = (x, refl)
whole_is (refused n p) e = cc

-- two readings that go on alike after what was read
pub then_same : {A B : Type 0} (next next' : A → Reading B) (a : Reading A) → ((x : A) → a ≡ whole x → next x ≡ next' x)
    → (a >>= next) ≡ (a >>= next')
then_same next next' (whole x) g = g x refl
then_same next next' (refused n p) g = refl

-- a refusal of two readings is that of the first or of the second
pub then_refused : {A B : Type 0} (next : A → Reading B) (a : Reading A) {n p : ℕ} → (a >>= next) ≡ refused n p
    → (a ≡ refused n p) ⊎ ((x : A) × (a ≡ whole x) × (next x ≡ refused n p))
then_refused next (whole x) q = inr (x, refl, q)
then_refused next (refused n' p') {n} {p} q = let y : n' ≡ n = cc in let z : p' ≡ p = cc in inl (rw (y, z))

-- a refusal goes through what is made of a reading
pub refused_then : {A B : Type 0} (a : Reading A) (f : A → B) {n p : ℕ} → (a >>= (λ x. whole (f x))) ≡ refused n p → a ≡ refused n p
refused_then (whole x) f q = unread (sym q)
refused_then (refused n' p') f {n} {p} q = let y : n' ≡ n = cc in let z : p' ≡ p = cc in rw (y, z)

-- ---- start tags

-- one ends with `/>` or with `>`
module _ (s : List ℕ) (b : ℕ) (n : Named) (at : ℕ) (P : Start → Type 0) where
  abbrev ended : ℕ → Bool → Start
  ended i t = record { begin = b; name = n; from = i; empty = t }

  pub end_cases : (has (is 47) s at ≡ true → has (is 62) s (at + 1) ≡ true → P (ended (at + 1 + 1) true))
      → (has (is 62) s at ≡ true → P (ended (at + 1) false))
      → (st : Start) → start_end_at s b n at ≡ whole st → P st
  unfolding start_end_at
  end_cases emptied opened st q = go (has (is 47) s at) refl q
    where
      closed : (i : ℕ) (t : Bool) → (has (is 62) s i ≡ true → P (ended (i + 1) t))
          → (one (is 62) s i >>= (λ e. whole (ended e t))) ≡ whole st → P st
      closed i t f h =
          let x = then_whole (λ e. whole (ended e t)) (one (is 62) s i) st h in
          let o = one_has (is 62) s i x.0 x.1 in
          subst P (whole_same (ap (λ (e : ℕ). whole (ended e t)) (sym o.1) ∙ x.2)) (f o.0)

      go : (t : Bool) → has (is 47) s at ≡ t
          → cond t (one (is 62) s (at + 1) >>= (λ i. whole (ended i true))) (one (is 62) s at >>= (λ i. whole (ended i false))) ≡ whole st
          → P st
      go true e h = closed (at + 1) true (emptied e) h
      go false e h = closed at false opened h

module _ (class : ℕ → ℕ) (s : List ℕ) (l : Limits) where
  -- attributes were read behind the name
  abbrev pub Attributed : Named → Type 0
  Attributed n = (stop : ℕ) × (attributes_at class s l (length s) [] n.end ≡ whole stop)

  pub record Starts (at : ℕ) (st : Start) : Type 0 where
    pub begins : st.begin ≡ at + 1
    pub named : name_at class l.part s st.begin ≡ whole st.name
    pub attributed : Attributed st.name
    pub ends : start_end_at s st.begin st.name attributed.0 ≡ whole st

  pub start_starts : (at : ℕ) (st : Start) → start_at class s l at ≡ whole st → Starts at st
  unfolding start_at with_name_at
  start_starts at st q =
      let x = then_whole _ (one (is 60) s at) st q in
      let y = then_whole _ (name_at class l.part s x.0) st x.2 in
      let z = then_whole (start_end_at s x.0 y.0) (attributes_at class s l (length s) [] y.0.end) st y.2 in
      let w = end_cases s x.0 y.0 z.0 (λ st. (st.begin ≡ x.0) × (st.name ≡ y.0)) (λ t u. (refl, refl))
      (λ t. (refl, refl)) st z.2 in
      record {
        begins = w.0 ∙ (one_has (is 60) s at x.0 x.1).1;
        named = ap (name_at class l.part s) w.0 ∙ (y.1 ∙ ap whole (sym w.1));
        attributed = (z.0, ap (λ (n : Named). attributes_at class s l (length s) [] n.end) w.1 ∙ z.1);
        ends = ap (λ (b : ℕ). start_end_at s b st.name z.0) w.0 ∙ (ap (λ (n : Named). start_end_at s x.0 n z.0) w.1 ∙ z.2);
      }

  -- ---- an element behind its start tag

  module _ (child : ℕ → Reading Element) (st : Start) where
    -- content that was read has what its end has, and each element before it keeps
    pub content_every : (P : ℕ → Content → Type 0)
        → ((at stop e : ℕ) → free_at class s (length s) at ≡ whole stop → has (is 47) s (stop + 1) ≡ true
        → end_tag_at class s l st.begin st.name (stop + 2) ≡ whole e → P at (closed stop e))
        → ((at stop : ℕ) (e : Element) (c : Content) → free_at class s (length s) at ≡ whole stop → child stop ≡ whole e → P e.tag.end c → P at (nested e c))
        → (fuel at : ℕ) (c : Content) → content_at class s l fuel child st at ≡ whole c → P at c
    unfolding content_at
    content_every P end keeps zero at c q = unread q
    content_every P end keeps (suc fuel) at c q =
        let x = then_whole _ (free_at class s (length s) at) c q in
        go (content_every P end keeps fuel) x.0 x.1 (has (is 47) s (x.0 + 1)) refl x.2
      where
        go : ((from : ℕ) (rest : Content) → content_at class s l fuel child st from ≡ whole rest → P from rest)
            → (stop : ℕ) → free_at class s (length s) at ≡ whole stop → (t : Bool) → has (is 47) s (stop + 1) ≡ t
            → cond t (end_tag_at class s l st.begin st.name (stop + 2) >>= (λ e. whole (closed stop e)))
            (child stop >>= (λ e. content_at class s l fuel child st e.tag.end >>= (λ rest. whole (nested e rest)))) ≡ whole c
            → P at c
        go further stop f true t h =
            let x = then_whole (λ e. whole (closed stop e)) (end_tag_at class s l st.begin st.name (stop + 2)) c h in
            subst (P at) (whole_same x.2) (end at stop x.0 f t x.1)
        go further stop f false t h =
            let x = then_whole (λ e. content_at class s l fuel child st e.tag.end >>= (λ rest. whole (nested e rest)))
            (child stop) c h in
            let y = then_whole (λ rest. whole (nested x.0 rest)) (content_at class s l fuel child st x.0.tag.end) c x.2 in
            subst (P at) (whole_same y.2) (keeps at stop x.0 y.0 f x.1 (further x.0.tag.end y.0 y.1))

    -- it has content, or none at all
    pub rest_cases : (P : Element → Type 0) → (st.empty ≡ true → P (unfilled st))
        → (st.empty ≡ false → (c : Content) → content_at class s l (length s) child st st.from ≡ whole c → P (filled st c))
        → (e : Element) → rest_at class s l child st ≡ whole e → P e
    unfolding rest_at
    rest_cases P f g e q = go st.empty refl q
      where
        go : (t : Bool) → st.empty ≡ t
            → cond t (whole (unfilled st)) (content_at class s l (length s) child st st.from >>= (λ c. whole (filled st c))) ≡ whole e → P e
        go true t h = subst P (whole_same h) (f t)
        go false t h =
            let x = then_whole (λ c. whole (filled st c)) (content_at class s l (length s) child st st.from) e h in
            subst P (whole_same x.2) (g t x.0 x.1)

  -- ---- an element

  -- each of the elements is what `child` reads again at its place
  abbrev pub Reads : (ℕ → Reading Element) → Elements → Type 0
  Reads child none = Unit {0}
  Reads child (more t inner others) = (child (t.begin - 1) ≡ whole (record { tag = t; inside = inner })) × Reads child others

  -- an element begins behind its `<`
  abbrev pub BeginsAt : (ℕ → Reading Element) → Type 0
  BeginsAt child = (at : ℕ) (e : Element) → child at ≡ whole e → e.tag.begin ≡ at + 1

  -- it stands at the place with the name that is read there, and so do the elements inside, one level down
  pub record Stands (child : ℕ → Reading Element) (at : ℕ) (e : Element) : Type 0 where
    pub begins : e.tag.begin ≡ at + 1
    pub named : name_at class l.part s e.tag.begin ≡ whole e.tag.name
    pub attributed : Attributed e.tag.name
    pub inner : Reads child e.inside

  rest_stands : (child : ℕ → Reading Element) → BeginsAt child → (at : ℕ) (st : Start) → Starts at st → (e : Element)
      → rest_at class s l child st ≡ whole e → Stands child at e
  rest_stands child begins at st so =
      rest_cases child st (Stands child at)
      (λ t. record { begins = so.begins; named = so.named; attributed = so.attributed; inner = tt })
      (λ t c q. record { begins = so.begins; named = so.named; attributed = so.attributed; inner = all c q })
    where
      again : (from stop : ℕ) (e : Element) (c : Content) → free_at class s (length s) from ≡ whole stop → child stop ≡ whole e
          → Reads child c.inside
          → (child (e.tag.begin - 1) ≡ whole e) × Reads child c.inside
      again from stop e c f h others = (ap child (omega (arith, begins stop e h)) ∙ h, others)

      all : (c : Content) → content_at class s l (length s) child st st.from ≡ whole c → Reads child c.inside
      all = content_every child st (λ from c. Reads child c.inside) (λ from stop e f t h. tt) again (length s) st.from

  -- below the last level nothing is read
  pub none_deep : (at : ℕ) (e : Element) → element_at class s l 0 at ≡ whole e → ⊥
  unfolding element_at too_deep_at
  none_deep at e q =
      let x = then_whole _ (one (is 60) s at) e q in
      let y = then_whole _ (one (is_start class) s x.0) e x.2 in
      unread y.2

  element_begins : (depth : ℕ) → BeginsAt (element_at class s l depth)
  unfolding element_at
  element_begins zero at e q = absurd (none_deep at e q)
  element_begins (suc depth) at e q =
      let x = then_whole _ (start_at class s l at) e q in
      (rest_stands (element_at class s l depth) (element_begins depth) at x.0 (start_starts at x.0 x.1) e x.2).begins

  pub element_stands : (depth at : ℕ) (e : Element) → element_at class s l (suc depth) at ≡ whole e → Stands (element_at class s l depth) at e
  unfolding element_at
  element_stands depth at e q =
      let x = then_whole _ (start_at class s l at) e q in
      rest_stands (element_at class s l depth) (element_begins depth) at x.0 (start_starts at x.0 x.1) e x.2

  -- ---- a message

  -- the root of a message that was read is read at some place with all levels
  pub document_element : (at : ℕ) (e : Element) → document_at class s l at ≡ whole e
      → (begin : ℕ) × (element_at class s l l.levels begin ≡ whole e)
  unfolding document_at root_at
  document_element at e q = go (ltb l.bytes (length s)) q
    where
      root : (from : ℕ) → root_at class s l from ≡ whole e → (begin : ℕ) × (element_at class s l l.levels begin ≡ whole e)
      root from h =
          let x = then_whole _ (around_at class (suc (length s)) s from) e h in
          let y = then_whole _ (element_at class s l l.levels x.0) e x.2 in
          let z = then_whole _ (around_at class (suc (length s)) s y.0.tag.end) e y.2 in
          let w = then_whole _ (end_at s z.0) e z.2 in
          (x.0, y.1 ∙ w.2)

      go : (t : Bool) → cond t (refused 8 0) (cond (eqb at 0) (declared_of class s) (whole at) >>= root_at class s l) ≡ whole e
          → (begin : ℕ) × (element_at class s l l.levels begin ≡ whole e)
      go true h = unread h
      go false h = let x = then_whole (root_at class s l) (cond (eqb at 0) (declared_of class s) (whole at)) e h in root x.0 x.2

  -- and is what is read again there
  pub document_root : (levels at : ℕ) (e : Element) → l.levels ≡ suc levels → document_at class s l at ≡ whole e
      → element_at class s l (suc levels) (e.tag.begin - 1) ≡ whole e
  document_root levels at e is-levels q =
      let x = document_element at e q in
      let reads : element_at class s l (suc levels) x.0 ≡ whole e = ap (λ (d : ℕ). element_at class s l d x.0) (sym is-levels) ∙ x.1 in
      ap (element_at class s l (suc levels)) (omega (arith, (element_stands levels x.0 e reads).begins)) ∙ reads
