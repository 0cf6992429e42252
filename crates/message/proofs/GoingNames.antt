-- The machine reads names as `name_at` does, in a start tag and in an attribute alike. Assumes nothing.
use Prim.Native.Nat.{ℕ, ◌+◌, ◌<◌, ◌≤◌}
use mathlib.Core.Path.{◌≡◌, refl, sym, ◌∙◌, ap, subst}
use mathlib.Core.Bool.{Bool, true, false, cond, not, ◌&&◌, and-false}
use mathlib.Core.List.{List, [], ◌∷◌, ◌++◌}
use native.Mathlib.Omega.{arith}
use lib.ListN.{length}
use Rattle.std.proofs.lemmas.Bool.{cond_both}
use Rattle.message.specs.Class.{class_of, is_start, is_name}
use Rattle.message.specs.Reading.{◌>>=◌, is, byte_at, has, one, ends}
use Rattle.message.specs.Reading.Reading.{whole, refused}
use Rattle.message.specs.Names.{Named, short_at, part_at, name_at}
use Rattle.message.specs.Limits.{Limits}
use Rattle.message.specs.Elements.{part}
use Rattle.message.specs.Readable.{FirstPart, second}
use Rattle.message.proofs.Laws.{has_lt, has_byte, one_yes, one_no, ends_more, fails_byte}
use Rattle.message.proofs.Parts.{part_more}
use Rattle.message.proofs.Runs.{ends_fails, byte_is, start_name, start_in_name, run_keeps}
use Rattle.message.proofs.Automaton.{State, dead, goes, only, step}
use Rattle.message.proofs.Dues.{may_end, long, long_part, due, At}
use Rattle.message.proofs.Going.{MarkedAt, Part, Roomy, longs, Outcome, outcome_then, at_has, stuck_here}

module _ (l : Limits) (s : List ℕ) where
  -- the states in which a name is read: in its first part or its second, with what was read of it, and behind the colon
  pub record Naming : Type 0 where
    pub in_part : Bool → List ℕ → State
    pub behind_colon : List ℕ → State
    pub grows : (t : Bool) (n : List ℕ) (x : ℕ) → is_name class_of x ≡ true → step (in_part t n) x ≡ goes (in_part t (n ++ (x ∷ [])))
    pub splits : (n : List ℕ) → step (in_part false n) 58 ≡ goes (behind_colon (n ++ (58 ∷ [])))
    pub begins : (n : List ℕ) (x : ℕ) → step (behind_colon n) x ≡ only (is_start class_of x) (in_part true (n ++ (x ∷ [])))
    pub free : (t : Bool) (n : List ℕ) (i : ℕ) → due l s (in_part t n) i ≡ false
    pub looks : (n : List ℕ) (i : ℕ) → due l s (behind_colon n) i ≡ long_part l s i
    pub colon_more : (n : List ℕ) → may_end (behind_colon n) ≡ false
    pub colon_roomy : (n : List ℕ) → Roomy l s (behind_colon n)

  module _ (N : Naming) (t : Bool) (b : ℕ) where
    abbrev In : ℕ → Type 0
    In i = At l s (N.in_part t (part s b i)) i

    run_on : (i : ℕ) → b ≤ i → In i → In (ends (is_name class_of) s i)
    run_on i from here = (run_keeps (is_name class_of) s (λ (j : ℕ). (b ≤ j) × In j) grown i (from, here)).1
      where
        grown : (j : ℕ) → has (is_name class_of) s j ≡ true → (b ≤ j) × In j → (b ≤ j + 1) × In (j + 1)
        grown j h p =
            let next = at_has l s (is_name class_of) j p.1 h (N.free t (part s b j) j)
            (N.grows t (part s b j) (byte_at s j) (has_byte (is_name class_of) s j h)) in (
              omega (arith, p.0),
              subst (λ (w : List ℕ). At l s (N.in_part t w) (j + 1)) (sym (part_more s b j p.0 (has_lt (is_name class_of) s j h))) next,
            )

    -- before the first byte of a part, which begins at q, in a name that begins at b
    pub record Before (q : ℕ) : Type 0 where
      pub state : State
      pub here : At l s state q
      pub more : may_end state ≡ false
      pub from : b ≤ q
      pub starts : has (is_start class_of) s q ≡ true → step state (byte_at s q) ≡ goes (N.in_part t (part s b (q + 1)))
      pub fails : q < length s → has (is_start class_of) s q ≡ false → step state (byte_at s q) ≡ dead
      pub looks : has (is_start class_of) s q ≡ true → due l s state q ≡ long l s q
      pub roomy : Roomy l s state
      pub stands : Part l s q

    -- behind the last
    record Behind (q e : ℕ) : Type 0 where
      here : At l s (N.in_part t (part s b e)) e
      run : e ≡ ends (is_name class_of) s q
      on : q < e

    going_part : (q : ℕ) → Before q → Outcome l s (Behind q) (part_at class_of l.part s q)
    unfolding part_at short_at
    going_part q at-q = go (has (is_start class_of) s q) refl
      where
        run : has (is_start class_of) s q ≡ true → long l s q ≡ false → Behind q (ends (is_name class_of) s q)
        run h short =
            let named : has (is_name class_of) s q ≡ true = start_name class_of s q h in
            record {
              here = rw (ends_more (is_name class_of) s q named)
                  (run_on (q + 1) (omega (arith, at-q.from))
                  (at_has l s (is_start class_of) q at-q.here h (at-q.looks h ∙ short) (at-q.starts h)));
              run = refl;
              on = start_in_name class_of s q h;
            }

        short : has (is_start class_of) s q ≡ true → (u : Bool) → long l s q ≡ u
            → Outcome l s (Behind q) (cond u (refused 14 q) (whole (ends (is_name class_of) s q)))
        short h true e = (at-q.state, at-q.here, longs (at-q.looks h ∙ e) e _ (at-q.starts h) at-q.roomy at-q.stands)
        short h false e = run h e

        go : (u : Bool) → has (is_start class_of) s q ≡ u
            → Outcome l s (Behind q) (one (is_start class_of) s q >>= (λ next. short_at class_of l.part s q))
        go true h = rw (one_yes (is_start class_of) s q h) (short h (long l s q) refl)
        go false h = rw (one_no (is_start class_of) s q h) (stuck_here l s at-q.here at-q.more (λ inside. at-q.fails inside h))

  -- ---- a whole name

  module _ (N : Naming) where
    -- Behind a name: in a state of its first part or its second, at a byte that does not go on with it.
    pub record NameRead (b : ℕ) (n : Named) : Type 0 where
      pub in_second : Bool
      pub here : At l s (N.in_part in_second (part s b n.end)) n.end
      pub ended : has (is_name class_of) s n.end ≡ false
      pub undivided : (has (is 58) s n.end && not in_second) ≡ false

    -- before a name that begins at b, in markup
    pub record NameBefore (b : ℕ) : Type 0 where
      pub before : Before N false b b
      pub at : ℕ
      pub marked : MarkedAt l s at
      pub begins : FirstPart s at b

    pub going_name : (b : ℕ) → NameBefore b → Outcome l s (NameRead b) (name_at class_of l.part s b)
    unfolding name_at
    going_name b at_b =
        outcome_then l s (Behind N false b b) (NameRead b) _ (part_at class_of l.part s b) (going_part N false b b at_b.before)
        (λ e q behind. cond_both (has (is 58) s e) _ _ (Outcome l s (NameRead b)) (λ h. divided e behind h) (λ h. undivided e behind h))
      where
        stopped : {q : ℕ} {t : Bool} (e : ℕ) → Behind N t b q e → has (is_name class_of) s e ≡ false
        stopped {q = q} e behind = ap (has (is_name class_of) s) behind.run ∙ ends_fails (is_name class_of) s q

        undivided : (e : ℕ) → Behind N false b b e → has (is 58) s e ≡ false → NameRead b (record { local = b; end = e })
        undivided e behind h = record { in_second = false; here = behind.here; ended = stopped e behind; undivided = rw h }

        colon_part : (e : ℕ) → b ≤ e → has (is 58) s e ≡ true → part s b e ++ (58 ∷ []) ≡ part s b (e + 1)
        colon_part e from h =
            ap (λ (x : ℕ). part s b e ++ (x ∷ [])) (sym (byte_is 58 s e h)) ∙ sym (part_more s b e from (has_lt (is 58) s e h))

        before_second : (e : ℕ) → Behind N false b b e → has (is 58) s e ≡ true → Before N true b (e + 1)
        before_second e behind h =
            let from : b ≤ e = omega (arith, behind.on) in
            let colon : byte_at s e ≡ 58 = byte_is 58 s e h in
            record {
              state = N.behind_colon (part s b (e + 1));
              here = subst (λ (w : List ℕ). At l s (N.behind_colon w) (e + 1)) (colon_part e from h)
                  (at_has l s (is 58) e behind.here h (N.free false (part s b e) e)
                  (ap (step (N.in_part false (part s b e))) colon ∙ N.splits (part s b e)));
              more = N.colon_more (part s b (e + 1));
              from = omega arith;
              starts = λ st. N.begins (part s b (e + 1)) (byte_at s (e + 1))
                  ∙ rw (has_byte (is_start class_of) s (e + 1) st, part_more s b (e + 1) (omega arith) (has_lt (is_start class_of) s (e + 1) st));
              fails = λ inside no_start. N.begins (part s b (e + 1)) (byte_at s (e + 1))
                  ∙ rw (fails_byte (is_start class_of) s (e + 1) inside no_start);
              looks = λ st. N.looks (part s b (e + 1)) (e + 1) ∙ rw st;
              roomy = N.colon_roomy (part s b (e + 1));
              stands = record {
                at = at_b.at;
                marked = at_b.marked;
                stands = second b at_b.begins (ap (has (is 58) s) (sym behind.run) ∙ h) (ap (λ (i : ℕ). i + 1) behind.run);
              };
            }

        divided : (e : ℕ) → Behind N false b b e → has (is 58) s e ≡ true
            → Outcome l s (NameRead b) (part_at class_of l.part s (e + 1) >>= (λ last. whole (record { local = e + 1; end = last })))
        divided e behind h =
            outcome_then l s (Behind N true b (e + 1)) (NameRead b) _ (part_at class_of l.part s (e + 1))
            (going_part N true b (e + 1) (before_second e behind h))
            (λ last q behind'. record { in_second = true; here = behind'.here; ended = stopped last behind'; undivided = and-false (has (is 58) s last) })
