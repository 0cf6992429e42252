-- The machine reads elements in elements, and whole messages, as `element_at` and `document_at` do. Assumes nothing.
use Prim.Native.Nat.{ℕ, zero, suc, ◌+◌, ◌<◌, ◌≤◌}
use mathlib.Core.Path.{◌≡◌, refl, sym, ◌∙◌, subst}
use mathlib.Core.Bool.{Bool, true, false, cond, ◌&&◌, true≢false, and-false}
use mathlib.Core.List.{List, []}
use native.Mathlib.Omega.{arith}
use lib.ListN.{length}
use lib.Dec.{ltb, leb}
use borrow.Author.Tests.{lt-leb, le-ltb, ltb-true, ltb-false}
use Rattle.std.proofs.lemmas.Bool.{cond_both}
use Rattle.message.specs.Class.{class_of, is_start, is_space}
use Rattle.message.specs.Reading.{Reading, ◌>>=◌, is, byte_at, has}
use Rattle.message.specs.Reading.Reading.{whole, refused}
use Rattle.message.specs.Text.{text_at}
use Rattle.message.specs.Markup.{bang_at, around_at, declares, declaration_at}
use Rattle.message.specs.Limits.{Limits}
use Rattle.message.specs.Elements.{part, Element, Start, Content, unfilled, filled, free_at, start_at, end_tag_at, content_at, rest_at, element_at, end_at, declared_of, root_at, document_at}
use Rattle.message.specs.Readable.{of_end}
use Rattle.message.proofs.Laws.{has_lt, has_byte, fails_byte}
use Rattle.message.proofs.Runs.{has_known}
use Rattle.message.proofs.Bytes.{slash_no_start}
use Rattle.message.proofs.Progress.{past_whole}
use Rattle.message.proofs.MarkupLoop.{past_bang}
use Rattle.message.proofs.Trees.{text_whole, free_whole, element_on}
use Rattle.message.proofs.Facts.{Starts, start_starts}
use Rattle.message.proofs.Shapes.{Shape, name_shape}
use Rattle.message.proofs.Automaton.{Ground, first, before, behind, inside, ground, opened, dead, goes, step, after, closing, between_tags}
use Rattle.message.proofs.Dues.{is_behind, is_first, depth, due, At, state_at}
use Rattle.message.proofs.Going.{opens, dies, Outcome, outcome_then, outcome_as, at_has, stuck_here}
use Rattle.message.proofs.GoingText.{Safe, going_text}
use Rattle.message.proofs.GoingMarkup.{going_bang, Outer, Around, going_around}
use Rattle.message.proofs.GoingDeclaration.{going_declaration}
use Rattle.message.proofs.GoingStarts.{names, slashed, Place, Started, going_deep, going_start}
use Rattle.message.proofs.GoingEndTags.{going_end_tag}
use Rattle.message.proofs.Ways.{at_within}

module _ (l : Limits) (s : List ℕ) where
  -- ---- text and comments up to the next tag

  -- at a `<` that begins no comment and no opening of 12
  record AtTag (v : List ℕ) (o : List (List ℕ)) (i : ℕ) : Type 0 where
    bracketed : ℕ
    here : At l s (ground (inside bracketed v o)) i
    tagged : has (is 60) s i ≡ true
    no_bang : has (is 33) s (i + 1) ≡ false
    no_question : has (is 63) s (i + 1) ≡ false

  going_free : (v : List ℕ) (o : List (List ℕ)) (fuel b i : ℕ) → length s ≤ fuel + i → Safe l s b i → At l s (ground (inside b v o)) i
      → Outcome l s (AtTag v o) (free_at class_of s fuel i)
  unfolding free_at
  going_free v o zero b i enough safe here = stuck_here l s here refl (λ within. absurd (omega arith))
  going_free v o (suc fuel) b i enough safe here =
      outcome_then l s _ (AtTag v o) _ (text_at class_of (length s) s i) (going_text l s v o (length s) b i (omega arith) safe here)
      (λ stop q at_stop.
      let on : i ≤ stop = (text_whole class_of s i stop q).0 in
      cond_both (has (is 33) s (stop + 1)) _ _ (Outcome l s (AtTag v o))
      (λ h.
      outcome_then l s _ (AtTag v o) _ (bang_at class_of s stop)
      (going_bang l s (inside at_stop.0 v o) stop at_stop.1 at_stop.2 h) (λ e r at-e.
      let past : stop < e = (past_whole (λ x. x) (length s) stop r (past_bang class_of s stop stop (omega arith))).0 in
      going_free v o fuel 0 e (omega arith) tt at-e))
      (λ no_bang.
      cond_both (has (is 63) s (stop + 1)) _ _ (Outcome l s (AtTag v o))
      (λ h. (ground (inside at_stop.0 v o), at_stop.1, opens (inside at_stop.0 v o) refl at_stop.2 (rw (no_bang, h))))
      (λ no_question. record { bracketed = at_stop.0; here = at_stop.1; tagged = at_stop.2; no_bang = no_bang; no_question = no_question })))

  -- ---- content, where the elements one level down are read rightly

  abbrev Child : (ℕ → Reading Element) → ℕ → Type 0
  Child child d =
      (g : Ground) (i : ℕ) → d + depth g ≡ l.levels → Place l s g i → Outcome l s (λ e. At l s (after (names g)) e.tag.end) (child i)

  module _ (d : ℕ) (child : Child (element_at class_of s l d) d) (start : Start) (o : List (List ℕ)) (deep-enough : d + suc (length o) ≡ l.levels) (shape : Shape class_of s start.begin start.name) where
    abbrev v : List ℕ
    v = part s start.begin start.name.end

    going_closed : (i : ℕ) → AtTag v o i → has (is 47) s (i + 1) ≡ true
        → Outcome l s (λ e. At l s (after o) e) (end_tag_at class_of s l start.begin start.name (i + 2))
    going_closed i at_tag h =
        let g : Ground = inside at_tag.bracketed v o in
        let no_start : has (is_start class_of) s (i + 1) ≡ false = has_known 47 s (i + 1) h (is_start class_of) ∙ slash_no_start in
        let free : due l s (ground g) i ≡ false =
        rw (at_tag.tagged, at_tag.no_bang, at_tag.no_question, no_start) (and-false (leb l.levels (suc (length o)) && true)) in
        let at_opened : At l s (opened g) (i + 1) =
        at_has l s (is 60) i at_tag.here at_tag.tagged free (rw (has_byte (is 60) s i at_tag.tagged)) in
        let closes : step (opened g) (byte_at s (i + 1)) ≡ goes (closing v true o) =
        rw (fails_byte (is 33) s (i + 1) (has_lt (is 47) s (i + 1) h) at_tag.no_bang, has_byte (is 47) s (i + 1) h) in
        let at_close : At l s (closing v true o) (i + 1 + 1) = at_has l s (is 47) (i + 1) at_opened h (rw no_start) closes in
        let two : i + 1 + 1 ≡ i + 2 = omega arith in
        going_end_tag l s o start.begin start.name i (i + 2) (g, at_tag.here) (of_end at_tag.tagged h refl)
        (subst (At l s (closing v true o)) two at_close) shape

    child_place : (i : ℕ) (at_tag : AtTag v o i) → has (is 47) s (i + 1) ≡ false → Place l s (inside at_tag.bracketed v o) i
    child_place i at_tag h = record {
      here = at_tag.here;
      front = refl;
      lost = λ within t. absurd (true≢false (sym at_tag.tagged ∙ t));
      no_bang = λ t. at_tag.no_bang;
      no_question = λ t. at_tag.no_question;
      no_slash = λ t. h;
    }

    going_content : (fuel b i : ℕ) → length s ≤ fuel + i → Safe l s b i → At l s (ground (inside b v o)) i
        → Outcome l s (λ c. At l s (after o) c.end) (content_at class_of s l fuel (element_at class_of s l d) start i)
    unfolding content_at
    going_content zero b i enough safe here = stuck_here l s here refl (λ within. absurd (omega arith))
    going_content (suc fuel) b i enough safe here =
        outcome_then l s _ _ _ (free_at class_of s (length s) i) (going_free v o (length s) b i (omega arith) safe here) (λ stop q at_tag.
        cond_both (has (is 47) s (stop + 1)) _ _ (Outcome l s (λ c. At l s (after o) c.end))
        (λ h. outcome_then l s _ _ _ (end_tag_at class_of s l start.begin start.name (stop + 2)) (going_closed stop at_tag h)
        (λ e r at-e. at-e))
        (λ h.
        outcome_then l s _ _ _ (element_at class_of s l d stop)
        (child (inside at_tag.bracketed v o) stop deep-enough (child_place stop at_tag h)) (λ e r at-e.
        outcome_then l s _ _ _ (content_at class_of s l fuel (element_at class_of s l d) start e.tag.end)
        (going_content fuel 0 e.tag.end (omega (arith, (free_whole class_of s i stop q).0, (element_on class_of s l d stop e r).0)) tt at-e)
        (λ c t at_c. at_c))))

  -- ---- elements

  depth_names : (g : Ground) → depth g ≡ length (names g)
  depth_names first = refl
  depth_names before = refl
  depth_names behind = refl
  depth_names (inside b v o) = refl

  going_rest : (d : ℕ) → Child (element_at class_of s l d) d → (g : Ground) (i : ℕ) → suc d + depth g ≡ l.levels → (st : Start)
      → start_at class_of s l i ≡ whole st → Started l s g i st
      → Outcome l s (λ e. At l s (after (names g)) e.tag.end) (rest_at class_of s l (element_at class_of s l d) st)
  unfolding rest_at
  going_rest d child g i deep-enough st q started = go st.empty refl
    where
      content : Reading Content
      content = content_at class_of s l (length s) (element_at class_of s l d) st st.from

      starts : Starts class_of s l i st
      starts = start_starts class_of s l i st q

      within : st.empty ≡ false → At l s (ground (inside 0 (part s st.begin st.name.end) (names g))) st.from
      within h =
          subst (λ (b : ℕ). At l s (ground (inside 0 (part s b st.name.end) (names g))) st.from) (sym starts.begins)
          (started.filled h)

      go : (t : Bool) → st.empty ≡ t
          → Outcome l s (λ e. At l s (after (names g)) e.tag.end) (cond t (whole (unfilled st)) (content >>= (λ c. whole (filled st c))))
      go true h = started.emptied h
      go false h =
          outcome_then l s _ _ _ content
          (going_content d child st (names g) (omega (arith, depth_names g))
          (name_shape class_of s st.begin l.part st.name starts.named) (length s) 0 st.from (omega arith) tt (within h))
          (λ c r at_c. at_c)

  going_element : (d : ℕ) → Child (element_at class_of s l d) d
  unfolding element_at
  going_element zero g i deep-enough place = going_deep l s g i place (λ e. At l s (after (names g)) e.tag.end) (omega arith)
  going_element (suc d) g i deep-enough place =
      outcome_then l s _ _ _ (start_at class_of s l i) (going_start l s g i place (lt-leb l.levels (depth g) (omega arith)))
      (λ st q started.
      going_rest d (going_element d) g i deep-enough st q started)

  -- ---- the root, and what stands around it

  root_place : (g : Ground) (i : ℕ) → Around l s g i → is_behind g ≡ false
      → (now : Ground) × (depth now ≡ 0) × (names now ≡ []) × Place l s now i
  root_place g i around front = go around.now around.along.outer (around.along.side ∙ front) around.here
    where
      place : (now : Ground) → At l s (ground now) i → is_behind now ≡ false → slashed l s now (i + 1) ≡ false
          → (i < length s → has (is 60) s i ≡ false → between_tags now (byte_at s i) ≡ dead) → Place l s now i
      place now here side slash dying = record {
        here = here;
        front = side;
        lost = dying;
        no_bang = λ t. rw t at around.no_bang;
        no_question = λ t. rw t at around.no_question;
        no_slash = λ t. slash;
      }

      blank : i < length s → is_space class_of (byte_at s i) ≡ false
      blank inner = fails_byte (is_space class_of) s i inner around.solid

      go : (now : Ground) → Outer l s now → is_behind now ≡ false → At l s (ground now) i
          → (now : Ground) × (depth now ≡ 0) × (names now ≡ []) × Place l s now i
      go first outer side here = (first, refl, refl, place first here side refl (λ inner t. rw (blank inner)))
      go before outer side here = (before, refl, refl, place before here side refl (λ inner t. rw (blank inner)))
      go behind outer side here = cc
      go (inside b v o) outer side here = absurd outer

  -- nothing more stands behind the root
  going_end : (i : ℕ) → Around l s behind i → Outcome l s (λ e. At l s (ground behind) (length s)) (end_at s i)
  unfolding end_at
  going_end i around = tag (has (is 60) s i) refl
    where
      here : At l s (ground behind) i
      here = go around.now around.along.outer around.along.side around.here
        where
          go : (now : Ground) → Outer l s now → is_behind now ≡ true → At l s (ground now) i → At l s (ground behind) i
          go first outer side at-now = cc
          go before outer side at-now = cc
          go behind outer side at-now = at-now
          go (inside b v o) outer side at-now = absurd outer

      no_bang : has (is 60) s i ≡ true → has (is 33) s (i + 1) ≡ false
      no_bang t = rw t at around.no_bang

      at_opened : has (is 60) s i ≡ true → At l s (opened behind) (i + 1)
      at_opened h =
          at_has l s (is 60) i here h
          (rw (h, no_bang h, rw h at around.no_question, and-false (leb l.levels 0)))
          (rw (has_byte (is 60) s i h))

      last : has (is 60) s i ≡ false → (t : Bool) → ltb i (length s) ≡ t
          → Outcome l s (λ e. At l s (ground behind) (length s)) (cond t (refused 9 i) (whole i))
      last h true e = (
        ground behind,
        here,
        dies (ltb-true i (length s) e)
            (rw (fails_byte (is 60) s i (ltb-true i (length s) e) h, fails_byte (is_space class_of) s i (ltb-true i (length s) e) around.solid)),
      )
      last h false e =
          let same : i ≡ length s = omega (arith, ltb-false i (length s) e, at_within l s i (ground behind) here) in
          subst (At l s (ground behind)) same here

      tag : (t : Bool) → has (is 60) s i ≡ t
          → Outcome l s (λ e. At l s (ground behind) (length s)) (cond t (refused 9 (i + 1)) (cond (ltb i (length s)) (refused 9 i) (whole i)))
      tag true h = stuck_here l s (at_opened h) refl (λ inner. rw (fails_byte (is 33) s (i + 1) inner (no_bang h)))
      tag false h = last h (ltb i (length s)) refl

  going_root : (g : Ground) → Outer l s g → is_behind g ≡ false → (is_first g ≡ true → declares class_of s ≡ false) → (i : ℕ)
      → At l s (ground g) i → Outcome l s (λ root. At l s (ground behind) (length s)) (root_at class_of s l i)
  unfolding root_at
  going_root g outer front plain i here =
      outcome_then l s _ _ _ (around_at class_of (suc (length s)) s i) (going_around l s (suc (length s)) g outer plain i (omega arith) here)
      (λ begin q around.
      let there = root_place g begin around front in
      outcome_then l s _ _ _ (element_at class_of s l l.levels begin)
      (going_element l.levels there.0 begin (omega (arith, there.1)) there.3) (λ root r at_end.
      let out : At l s (ground behind) root.tag.end =
      subst (λ (o : List (List ℕ)). At l s (after o) root.tag.end) there.2 at_end in
      outcome_then l s _ _ _ (around_at class_of (suc (length s)) s root.tag.end)
      (going_around l s (suc (length s)) behind tt (λ e. cc) root.tag.end (omega arith) out) (λ last t around'.
      outcome_then l s _ _ _ (end_at s last) (going_end last around') (λ e u at_last. at_last))))

  -- the machine stands where the root may begin
  abbrev Begins : ℕ → Type 0
  Begins i = (g : Ground) × Outer l s g × (is_behind g ≡ false) × (is_first g ≡ true → declares class_of s ≡ false) × At l s (ground g) i

  -- A message of no more bytes than the limit allows: the machine goes to its end, or stops where it is refused.
  pub going_document : length s ≤ l.bytes → Outcome l s (λ root. At l s (ground behind) (length s)) (document_at class_of s l 0)
  unfolding document_at declared_of state_at
  going_document fits =
      rw (le-ltb l.bytes (length s) fits)
      (outcome_then l s Begins _ _ (declared_of class_of s) declaring (λ i q at_i.
      going_root at_i.0 at_i.1 at_i.2 at_i.3 i at_i.4))
    where
      declaring : Outcome l s Begins (declared_of class_of s)
      declaring =
          cond_both (declares class_of s) _ _ (Outcome l s Begins)
          (λ h. outcome_as l s _ _ (declaration_at class_of s 5) (going_declaration l s refl h)
          (λ e q at-e. (before, tt, refl, (λ f. cc), at-e)))
          (λ h. (first, tt, refl, (λ f. h), refl))
