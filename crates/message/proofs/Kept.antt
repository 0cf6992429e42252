-- What a reader says with raised limits: the same, unless its refusal was one of those that were raised. Assumes nothing.
use Prim.Native.Nat.{ℕ, zero, suc, ◌+◌, ◌-◌, ◌<◌, ◌≤◌}
use mathlib.Core.Path.{◌≡◌, refl, sym, ◌∙◌}
use mathlib.Core.Logic.{◌⊎◌, inl, inr}
use mathlib.Core.Bool.{Bool, true, false, cond}
use mathlib.Core.List.{List, [], ◌∷◌}
use native.Mathlib.Omega.{arith}
use lib.ListN.{length, get_or}
use lib.Dec.{ltb, eqb}
use borrow.Author.Tests.{ltb-true, ltb-false}
use Rattle.std.proofs.lemmas.Bool.Decides.{nat_tests}
use Rattle.message.specs.Class.{is_start, is_name, is_space}
use Rattle.message.specs.Reading.{Reading, ◌>>=◌, is, has, one, ends, blanks}
use Rattle.message.specs.Reading.Reading.{whole, refused}
use Rattle.message.specs.Names.{Named, short_at, part_at, name_at}
use Rattle.message.specs.Limits.{Limits}
use Rattle.message.specs.Markup.{around_at}
use Rattle.message.specs.Elements.{part, Element, Start, ends_tag, quoted_at, free_at, too_deep_at, fresh_at, attributes_at, with_name_at, start_at, end_part_at, end_name_at, end_tag_at, content_at, rest_at, element_at, declared_of, root_at, document_at}
use Rattle.message.specs.Raised.{AtMost, Raised}
use Rattle.message.specs.Raised.Raised.{bytes as more_bytes, levels as more-levels, attributes as more-attributes, part as longer-part}
use Rattle.message.proofs.Laws.{stopped, one_yes, one_no}
use Rattle.message.proofs.Trees.{unread}

module _ (l l' : Limits) where
  -- a reading with the limits of l, and one with those of l'
  abbrev pub Kept : {A : Type 0} → Reading A → Reading A → Type 0
  Kept r r' = (r ≡ r') ⊎ ((n : ℕ) × (p : ℕ) × Raised l l' n × (r ≡ refused n p))

  -- the second reading is asked only where the first is whole
  pub kept_then : {A B : Type 0} (next next' : A → Reading B) {a a' : Reading A} → Kept a a'
      → ((x : A) → a ≡ whole x → Kept (next x) (next' x))
      → Kept (a >>= next) (a' >>= next')
  kept_then next next' {a = whole x} (inl e) g = rw (← e) (g x refl)
  kept_then next next' {a = refused n p} (inl e) g = rw (← e) (inl refl)
  kept_then next next' (inr w) g = inr (w.0, w.1, w.2, sym (stopped next w.3))

  -- after a reading that takes no limits
  pub kept_on : {A B : Type 0} (next next' : A → Reading B) (a : Reading A) → ((x : A) → Kept (next x) (next' x))
      → Kept (a >>= next) (a >>= next')
  kept_on next next' a g = kept_then next next' {a = a} (inl refl) (λ x q. g x)

  -- what was read whole is read with raised limits too
  pub kept_whole : {A : Type 0} (r r' : Reading A) (x : A) → Kept r r' → r ≡ whole x → r' ≡ whole x
  kept_whole r r' x (inl e) q = sym e ∙ q
  kept_whole r r' x (inr w) q = unread (sym w.3 ∙ q)

  kept_cond : {A : Type 0} {x x' y y' : Reading A} (t : Bool) → Kept x x' → Kept y y' → Kept (cond t x y) (cond t x' y')
  kept_cond true p q = p
  kept_cond false p q = q

  -- k is too much for l: then for l' too, or it is within the limit that was raised
  kept_over : {A : Type 0} (n p k most most' : ℕ) → most ≤ most' → (most < most' → Raised l l' n) → (r r' : Reading A) → Kept r r'
      → Kept (cond (ltb most k) (refused n p) r) (cond (ltb most' k) (refused n p) r')
  kept_over n p k most most' h own r r' same = grind (arith, nat_tests)

  module _ (class : ℕ → ℕ) (s : List ℕ) (up : AtMost l l') where
    -- ---- names

    kept_short : (at : ℕ) → Kept (short_at class l.part s at) (short_at class l'.part s at)
    unfolding short_at
    kept_short at = kept_over 14 at (ends (is_name class) s at - at) l.part l'.part up.part longer-part _ _ (inl refl)

    kept_part : (at : ℕ) → Kept (part_at class l.part s at) (part_at class l'.part s at)
    unfolding part_at
    kept_part at = kept_on _ _ (one (is_start class) s at) (λ next. kept_short at)

    kept_name : (at : ℕ) → Kept (name_at class l.part s at) (name_at class l'.part s at)
    unfolding name_at
    kept_name at =
        kept_then _ _ (kept_part at) (λ first q.
        kept_cond (has (is 58) s first) (kept_then _ _ (kept_part (first + 1)) (λ last q'. inl refl)) (inl refl))

    -- ---- start tags

    kept_fresh : (seen : List (List ℕ)) (at p : ℕ) → Kept (fresh_at class s l seen at p) (fresh_at class s l' seen at p)
    unfolding fresh_at
    kept_fresh seen at p =
        kept_on _ _ (one (is_space class) s at) (λ space.
        kept_on _ _ (one (is_start class) s p) (λ begin.
        kept_then _ _ room (λ r q. kept_then _ _ (kept_name p) (λ n q'. inl refl))))
      where
        room_in : Bool → Reading ℕ
        room_in t = cond t (whole p) (refused 11 p)

        go : (t : Bool) → ltb (length seen) l.attributes ≡ t → (t' : Bool) → ltb (length seen) l'.attributes ≡ t'
            → Kept (room_in t) (room_in t')
        go true e true e' = inl refl
        go true e false e' =
            absurd (omega (arith, up.attributes, ltb-true (length seen) l.attributes e, ltb-false (length seen) l'.attributes e'))
        go false e true e' =
            inr (11, p, more-attributes (omega (arith, ltb-false (length seen) l.attributes e, ltb-true (length seen) l'.attributes e')), refl)
        go false e false e' = inl refl

        room : Kept (room_in (ltb (length seen) l.attributes)) (room_in (ltb (length seen) l'.attributes))
        room = go (ltb (length seen) l.attributes) refl (ltb (length seen) l'.attributes) refl

    pub kept_attributes : (fuel : ℕ) (seen : List (List ℕ)) (at : ℕ)
        → Kept (attributes_at class s l fuel seen at) (attributes_at class s l' fuel seen at)
    unfolding attributes_at
    kept_attributes zero seen at = inl refl
    kept_attributes (suc fuel) seen at =
        let p = blanks class s at in
        kept_cond (has ends_tag s p) (inl refl)
        (kept_then _ _ (kept_fresh seen at p) (λ e q.
        kept_on _ _ (quoted_at class s e) (λ v. kept_attributes fuel (part s p e ∷ seen) (v.to + 1))))

    kept_with_name : (b : ℕ) (n : Named) → Kept (with_name_at class s l b n) (with_name_at class s l' b n)
    unfolding with_name_at
    kept_with_name b n = kept_then _ _ (kept_attributes (length s) [] n.end) (λ stop q. inl refl)

    kept_start : (at : ℕ) → Kept (start_at class s l at) (start_at class s l' at)
    unfolding start_at
    kept_start at = kept_on _ _ (one (is 60) s at) (λ b. kept_then _ _ (kept_name b) (λ n q. kept_with_name b n))

    -- ---- end tags

    kept_end_part : (w : List ℕ) (at : ℕ) → Kept (end_part_at class s l w at) (end_part_at class s l' w at)
    unfolding end_part_at
    kept_end_part w at = kept_on _ _ (one (is (get_or w 0 0)) s at) (λ first. kept_then _ _ (kept_short at) (λ short q. inl refl))

    kept_end_name : (b : ℕ) (n : Named) (at : ℕ) → Kept (end_name_at class s l b n at) (end_name_at class s l' b n at)
    unfolding end_name_at
    kept_end_name b n at =
        let w = part s b (n.local - 1) in
        kept_cond (eqb n.local b) (kept_end_part (part s b n.end) at)
        (kept_then _ _ (kept_end_part w at) (λ i q.
        kept_on _ _ (one (is 58) s i) (λ j. kept_end_part (part s n.local n.end) j)))

    kept_end_tag : (b : ℕ) (n : Named) (at : ℕ) → Kept (end_tag_at class s l b n at) (end_tag_at class s l' b n at)
    unfolding end_tag_at
    kept_end_tag b n at = kept_then _ _ (kept_end_name b n at) (λ i q. inl refl)

    -- ---- elements

    module _ (child child' : ℕ → Reading Element) (kept : (at : ℕ) → Kept (child at) (child' at)) (st : Start) where
      kept_content : (fuel at : ℕ) → Kept (content_at class s l fuel child st at) (content_at class s l' fuel child' st at)
      unfolding content_at
      kept_content zero at = inl refl
      kept_content (suc fuel) at =
          kept_on _ _ (free_at class s (length s) at) (λ stop.
          kept_cond (has (is 47) s (stop + 1))
          (kept_then _ _ (kept_end_tag st.begin st.name (stop + 2)) (λ e q. inl refl))
          (kept_then _ _ (kept stop) (λ e q. kept_then _ _ (kept_content fuel e.tag.end) (λ c q'. inl refl))))

      kept_rest : Kept (rest_at class s l child st) (rest_at class s l' child' st)
      unfolding rest_at
      kept_rest = kept_cond st.empty (inl refl) (kept_then _ _ (kept_content (length s) st.from) (λ c q. inl refl))

    -- below the last level of l, where l' has one more
    kept_deep : (depth at : ℕ) → l.levels < l'.levels → Kept (too_deep_at class s at) (element_at class s l' (suc depth) at)
    unfolding too_deep_at element_at start_at name_at part_at
    kept_deep depth at h = go (has (is 60) s at) refl (has (is_start class) s (at + 1)) refl
      where
        go : (t : Bool) → has (is 60) s at ≡ t → (t' : Bool) → has (is_start class) s (at + 1) ≡ t'
            → Kept (too_deep_at class s at) (element_at class s l' (suc depth) at)
        go false e t' e' = rw (one_no (is 60) s at e) (inl refl)
        go true e true e' = inr (10, at, more-levels h, rw (one_yes (is 60) s at e, one_yes (is_start class) s (at + 1) e'))
        go true e false e' = rw (one_yes (is 60) s at e, one_no (is_start class) s (at + 1) e') (inl refl)

    kept_element : (depth depth' at : ℕ) → depth ≤ depth' → (depth < depth' → l.levels < l'.levels)
        → Kept (element_at class s l depth at) (element_at class s l' depth' at)
    unfolding element_at
    kept_element zero zero at h own = inl refl
    kept_element zero (suc depth') at h own = kept_deep depth' at (own (omega arith))
    kept_element (suc depth) zero at h own = absurd (omega arith)
    kept_element (suc depth) (suc depth') at h own =
        kept_then _ _ (kept_start at) (λ st q.
        kept_rest (element_at class s l depth) (element_at class s l' depth')
        (λ from. kept_element depth depth' from (omega arith) (λ g. own (omega arith))) st)

    -- ---- messages

    kept_root : (at : ℕ) → Kept (root_at class s l at) (root_at class s l' at)
    unfolding root_at
    kept_root at =
        kept_on _ _ (around_at class (suc (length s)) s at) (λ begin.
        kept_then _ _ (kept_element l.levels l'.levels begin up.levels (λ h. h)) (λ root q. inl refl))

    pub kept_document : (at : ℕ) → Kept (document_at class s l at) (document_at class s l' at)
    unfolding document_at
    kept_document at =
        kept_over 8 0 (length s) l.bytes l'.bytes up.bytes more_bytes _ _
        (kept_on _ _ (cond (eqb at 0) (declared_of class s) (whole at)) kept_root)
