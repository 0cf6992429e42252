-- The machine reads end tags as `end_tag_at` does: the start tag's name again, part by part, and the `>`. Assumes nothing.
use Prim.Native.Nat.{ℕ, ◌+◌, ◌-◌, ◌<◌, ◌≤◌}
use mathlib.Core.Path.{◌≡◌, refl, sym, ◌∙◌, ap, subst}
use mathlib.Core.Bool.{Bool, true, false, cond}
use mathlib.Core.List.{List, [], ◌∷◌, ◌++◌, append-nil}
use native.Mathlib.Omega.{arith}
use lib.ListN.{length}
use borrow.Author.Tests.{eq-eqb, ne_eqb}
use Rattle.message.specs.Class.{class_of, is_start, is_name, is_space}
use Rattle.message.specs.Reading.{◌>>=◌, is, byte_at, has, one, ends, word_at}
use Rattle.message.specs.Reading.Reading.{whole, refused}
use Rattle.message.specs.Names.{Named, short_at}
use Rattle.message.specs.Limits.{Limits}
use Rattle.message.specs.Elements.{part, end_part_at, end_name_at, end_tag_at}
use Rattle.message.specs.Readable.{FirstPart, first, second}
use Rattle.message.proofs.Laws.{has_lt, has_byte, one_yes, one_no, one_has, ends_more, ends_stop, ends_from, ends_le, fails_byte}
use Rattle.message.proofs.Trees.{whole_same}
use Rattle.message.proofs.Parts.{part_some, part_none, part_parted, part_more}
use Rattle.message.proofs.Bytes.{other_than, colon_no_name}
use Rattle.message.proofs.Runs.{byte_is, has_known, ends_fails, start_in_name, run_keeps}
use Rattle.message.proofs.Words.{word_first}
use Rattle.message.proofs.Shapes.{Shape, single, double}
use Rattle.message.proofs.Automaton.{close, after, closing}
use Rattle.message.proofs.Dues.{long, At}
use Rattle.message.proofs.Going.{MarkedAt, Part, longs, Outcome, outcome_then, outcome_as, outcome_one, at_has, at_ends, stuck_here}

-- all bytes of a part are bytes of names
abbrev AllName : List ℕ → Type 0
AllName [] = Unit {0}
AllName (x ∷ w) = (is_name class_of x ≡ true) × AllName w

all_more : (w : List ℕ) (x : ℕ) → AllName w → is_name class_of x ≡ true → AllName (w ++ (x ∷ []))
all_more [] x all h = (h, tt)
all_more (y ∷ w) x all h = (all.0, all_more w x all.1 h)

-- a run of them
all_named : (s : List ℕ) (b : ℕ) → AllName (part s b (ends (is_name class_of) s b))
all_named s b =
    (run_keeps (is_name class_of) s (λ (i : ℕ). (b ≤ i) × AllName (part s b i)) more b
    (omega arith, subst AllName (sym (part_none s b b (omega arith))) tt)).1
  where
    more : (i : ℕ) → has (is_name class_of) s i ≡ true → (b ≤ i) × AllName (part s b i) → (b ≤ i + 1) × AllName (part s b (i + 1))
    more i h p = (
      omega (arith, p.0),
      subst AllName (sym (part_more s b i p.0 (has_lt (is_name class_of) s i h)))
          (all_more (part s b i) (byte_at s i) p.1 (has_byte (is_name class_of) s i h)),
    )

-- ---- the machine in an end tag

module _ (l : Limits) (s : List ℕ) (o : List (List ℕ)) where
  -- bytes of a part that has begun
  going_rest : (w w' : List ℕ) → AllName w → (i : ℕ) → At l s (closing (w ++ w') false o) i
      → Outcome l s (λ e. At l s (closing w' false o) e) (word_at w s i)
  unfolding word_at
  going_rest [] w' all i here = here
  going_rest (y ∷ w) w' all i here =
      outcome_then l s (λ e. At l s (closing (w ++ w') (is 58 y) o) e × (e ≡ i + 1)) _ (word_at w s) (one (is y) s i)
      (outcome_one l s (closing (w ++ w') (is 58 y) o) (is y) i here refl (λ h. refl) (λ h. rw (has_byte (is y) s i h))
      (λ within h. rw (fails_byte (is y) s i within h)))
      (λ e q h. going_rest w w' all.1 e
      (subst (λ (t : Bool). At l s (closing (w ++ w') t o) e) (other_than (is_name class_of) 58 colon_no_name y all.0) h.0))

  -- a part from its first byte on
  module _ (y : ℕ) (w w' : List ℕ) (all : AllName (y ∷ w)) (i : ℕ) (here : At l s (close y (w ++ w') true o) i) where
    going_begun : has (is y) s i ≡ true → long l s i ≡ false → Outcome l s (λ e. At l s (closing w' false o) e) (word_at (y ∷ w) s i)
    unfolding word_at
    going_begun h short =
        rw (one_yes (is y) s i h)
        (going_rest w w' all.1 (i + 1)
        (subst (λ (t : Bool). At l s (closing (w ++ w') t o) (i + 1)) (other_than (is_name class_of) 58 colon_no_name y all.0)
        (at_has l s (is y) i here h (rw (h, short)) (rw (has_byte (is y) s i h)))))

    -- the machine is behind the part, which stands there
    abbrev Matched : ℕ → Type 0
    Matched e = At l s (closing w' false o) e × (word_at (y ∷ w) s i ≡ whole e)

    going_end_part : Part l s i → Outcome l s Matched (end_part_at class_of s l (y ∷ w) i)
    unfolding end_part_at short_at
    going_end_part stands = go (has (is y) s i) refl
      where
        short : has (is y) s i ≡ true → (t : Bool) → long l s i ≡ t
            → Outcome l s Matched (cond t (refused 14 i) (whole (ends (is_name class_of) s i)) >>= (λ e. word_at (y ∷ w) s i))
        short h true e = (
          close y (w ++ w') true o,
          here,
          longs (rw (h, e)) e (closing (w ++ w') (is 58 y) o) (rw (has_byte (is y) s i h))
              (λ spaced m seen o' q. cc) stands,
        )
        short h false e =
            outcome_as l s (λ e. At l s (closing w' false o) e) Matched (word_at (y ∷ w) s i) (going_begun h e) (λ e q here'. (here', q))

        go : (t : Bool) → has (is y) s i ≡ t
            → Outcome l s Matched (one (is y) s i >>= (λ first. short_at class_of l.part s i >>= (λ e. word_at (y ∷ w) s i)))
        go true h = rw (one_yes (is y) s i h) (short h (long l s i) refl)
        go false h = rw (one_no (is y) s i h) (stuck_here l s here refl (λ within. rw (fails_byte (is y) s i within h)))

-- where the bytes of a word are bytes of names, a run of those goes on behind them
word_run : (s w : List ℕ) (i e : ℕ) → AllName w → word_at w s i ≡ whole e → ends (is_name class_of) s i ≡ ends (is_name class_of) s e
unfolding word_at
word_run s [] i e all q = ap (ends (is_name class_of) s) (whole_same q)
word_run s (y ∷ w) i e all q =
    let x = word_first s y w i e q in
    ends_more (is_name class_of) s i (has_known y s i x.0 (is_name class_of) ∙ all.0) ∙ word_run s w (i + 1) e all.1 x.1

module _ (l : Limits) (s : List ℕ) (o : List (List ℕ)) where
  -- the part of the start tag's name that begins at q
  going_part_again : (q : ℕ) → has (is_start class_of) s q ≡ true → (w' : List ℕ) (i : ℕ)
      → At l s (closing (part s q (ends (is_name class_of) s q) ++ w') true o) i → Part l s i
      → Outcome l s (λ e. At l s (closing w' false o) e × (word_at (part s q (ends (is_name class_of) s q)) s i ≡ whole e)) (end_part_at class_of s l (part s q (ends (is_name class_of) s q)) i)
  going_part_again q h w' i =
      go (part s q (ends (is_name class_of) s q))
      (part_some s q (ends (is_name class_of) s q) (start_in_name class_of s q h)
      (ends_le (is_name class_of) s q (omega (arith, has_lt (is_start class_of) s q h)))) (all_named s q)
    where
      go : (v : List ℕ) → v ≡ byte_at s q ∷ part s (q + 1) (ends (is_name class_of) s q) → AllName v → At l s (closing (v ++ w') true o) i
          → Part l s i
          → Outcome l s (λ e. At l s (closing w' false o) e × (word_at v s i ≡ whole e)) (end_part_at class_of s l v i)
      go [] e all here stands = cc
      go (y ∷ w) e all here stands = going_end_part l s o y w w' all i here stands

  module _ (b : ℕ) (name : Named) (tag i : ℕ) (marked : MarkedAt l s tag) (begins : FirstPart s tag i) (here : At l s (closing (part s b name.end) true o) i) where
    stands_first : Part l s i
    stands_first = record { at = tag; marked = marked; stands = first begins }

    going_end_name : Shape class_of s b name → Outcome l s (λ e. At l s (closing [] false o) e) (end_name_at class_of s l b name i)
    unfolding end_name_at
    going_end_name (single starts none local run) =
        rw (eq-eqb name.local b local, run)
        (outcome_as l s _ _ (end_part_at class_of s l (part s b (ends (is_name class_of) s b)) i)
        (going_part_again b starts [] i
        (subst (λ (w : List ℕ). At l s (closing w true o) i) (ap (part s b) run ∙ sym (append-nil (part s b (ends (is_name class_of) s b))))
        here) stands_first)
        (λ e q h. h.0))
    going_end_name (double starts colon local starts' run) =
        rw (ne_eqb name.local b (λ e. omega (arith, ends_from (is_name class_of) s b)), before_colon)
        (outcome_then l s _ _ _ (end_part_at class_of s l (part s b (ends (is_name class_of) s b)) i)
        (going_part_again b starts (58 ∷ part s name.local name.end) i
        (subst (λ (w : List ℕ). At l s (closing w true o) i) parted here) stands_first) (λ e q behind.
        outcome_then l s (λ j. At l s (closing (part s name.local name.end) true o) j × (j ≡ e + 1)) _ _ (one (is 58) s e)
        (outcome_one l s (closing (part s name.local name.end) true o) (is 58) e behind.0 refl (λ h. refl)
        (λ h. rw (has_byte (is 58) s e h)) (λ within h. rw (fails_byte (is 58) s e within h))) (λ j r at_j.
        rw run
        (outcome_as l s _ _ (end_part_at class_of s l (part s name.local (ends (is_name class_of) s name.local)) j)
        (going_part_again name.local starts' [] j
        (subst (λ (w : List ℕ). At l s (closing w true o) j)
        (ap (part s name.local) run ∙ sym (append-nil (part s name.local (ends (is_name class_of) s name.local)))) at_j.0)
        (stands_second e j behind.1 (one_has (is 58) s e j r).0 at_j.1))
        (λ e' q' h. h.0)))))
      where
        before_colon : name.local - 1 ≡ ends (is_name class_of) s b
        before_colon = omega (arith, local)

        stands_second : (e j : ℕ) → word_at (part s b (ends (is_name class_of) s b)) s i ≡ whole e → has (is 58) s e ≡ true → j ≡ e + 1
            → Part l s j
        stands_second e j q h j-is =
            let stops : ends (is_name class_of) s e ≡ e =
            ends_stop (is_name class_of) s e (has_known 58 s e h (is_name class_of) ∙ colon_no_name) in
            let same : ends (is_name class_of) s i ≡ e = word_run s (part s b (ends (is_name class_of) s b)) i e (all_named s b) q ∙ stops in
            record { at = tag; marked = marked; stands = second i begins (ap (has (is 58) s) same ∙ h) (j-is ∙ ap (λ (k : ℕ). k + 1) (sym same)) }

        parted : part s b name.end ≡ part s b (ends (is_name class_of) s b) ++ (58 ∷ part s name.local name.end)
        parted =
            let m : ℕ = ends (is_name class_of) s b in
            let far : name.local ≤ name.end = omega (arith, run, ends_from (is_name class_of) s name.local) in
            let inner : name.end ≤ length s = omega (
              arith,
              run,
              ends_le (is_name class_of) s name.local (omega (arith, has_lt (is_start class_of) s name.local starts')),
            ) in
            part_parted s b m name.end (ends_from (is_name class_of) s b) (omega arith) inner
            ∙ ap (λ (x : ℕ). part s b m ++ (x ∷ part s (m + 1) name.end)) (byte_is 58 s m colon)
            ∙ ap (λ (k : ℕ). part s b m ++ (58 ∷ part s k name.end)) (sym local)

    pub going_end_tag : Shape class_of s b name → Outcome l s (λ e. At l s (after o) e) (end_tag_at class_of s l b name i)
    unfolding end_tag_at
    going_end_tag shape =
        outcome_then l s _ _ _ (end_name_at class_of s l b name i) (going_end_name shape) (λ e q behind.
        let p : ℕ = ends (is_space class_of) s e in
        let at_p : At l s (closing [] false o) p = at_ends l s (is_space class_of) (λ j h. refl) (λ x h. rw h) e behind in
        let solid : (p < length s → is_space class_of (byte_at s p) ≡ false) =
        (λ within. fails_byte (is_space class_of) s p within (ends_fails (is_space class_of) s e)) in
        outcome_as l s (λ j. At l s (after o) j × (j ≡ p + 1)) _ (one (is 62) s p)
        (outcome_one l s (after o) (is 62) p at_p refl (λ h. refl) (λ h. rw (solid (has_lt (is 62) s p h), has_byte (is 62) s p h))
        (λ within h. rw (solid within, fails_byte (is 62) s p within h)))
        (λ j r h. h.0))
