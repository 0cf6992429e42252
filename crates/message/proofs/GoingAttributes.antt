-- The machine reads the attributes of a start tag as `attributes_at` does, up to the `/` or `>` behind them. Assumes nothing.
use Prim.Native.Nat.{ℕ, zero, suc, ◌+◌, ◌-◌, ◌<◌, ◌≤◌}
use mathlib.Core.Path.{◌≡◌, refl, sym, ◌∙◌, ap, subst}
use mathlib.Core.Bool.{Bool, true, false, cond, not, ◌&&◌}
use mathlib.Core.List.{List, [], ◌∷◌}
use native.Mathlib.Omega.{arith}
use lib.ListN.{length}
use lib.Dec.{ltb, leb}
use borrow.Author.Tests.{lt-leb, ltb-true, ltb-false}
use Rattle.std.proofs.lemmas.Bool.{cond_both, or_parts}
use Rattle.message.specs.Class.{class_of, is_start, is_name, is_space}
use Rattle.message.specs.Reading.{Reading, ◌>>=◌, is, byte_at, has, one, ends, opened_at}
use Rattle.message.specs.Reading.Reading.{whole, refused}
use Rattle.message.specs.Names.{Named, name_at}
use Rattle.message.specs.Text.{value_at}
use Rattle.message.specs.Limits.{Limits}
use Rattle.message.specs.Elements.{part, is_known, ends_tag, Quoted, quoted_at, fresh_at, attributes_at}
use Rattle.message.specs.Readable.{TagStands, of_attribute, first}
use Rattle.message.proofs.Laws.{has_lt, has_byte, one_yes, one_no, ends_more, ends_stop, ends_from, has_in, fails_byte}
use Rattle.message.proofs.Parts.{part_one}
use Rattle.message.proofs.Bytes.{has_fails, solid_equals, space_no_start, end_no_start, colon_no_name}
use Rattle.message.proofs.Runs.{ends_fails, byte_is}
use Rattle.message.proofs.Progress.{past_whole}
use Rattle.message.proofs.Trees.{past_quoted, past_fresh}
use Rattle.message.proofs.Automaton.{ground, inside, in_tag, slash, attribute, attribute_colon, quote, value, exact, Next, dead, goes, step, step_blanks, step_in_tag}
use Rattle.message.proofs.Dues.{At}
use Rattle.message.proofs.Going.{MarkedAt, Crowd, crowded, Outcome, outcome_then, at_has, at_ends, stuck_here}
use Rattle.message.proofs.Acting.{Acts, acts_has, acts_stuck, acts_as, acts_at}
use Rattle.message.proofs.GoingQuotes.{Quoting, going_opened}
use Rattle.message.proofs.GoingText.{going_value}
use Rattle.message.proofs.GoingNames.{Naming, NameRead, NameBefore, going_name}

in_tag_seen : {b b' : Bool} {m m' : List ℕ} {seen seen' o o' : List (List ℕ)} → in_tag b m seen o ≡ in_tag b' m' seen' o' → seen ≡ seen'
in_tag_seen e = cc

pub attribute_colon_no_tag : {a n : List ℕ} {seen o : List (List ℕ)} {b : Bool} {m : List ℕ} {seen' o' : List (List ℕ)}
    → attribute_colon a n seen o ≡ in_tag b m seen' o' → ⊥
attribute_colon_no_tag e = cc

module _ (l : Limits) (s : List ℕ) where
  module _ (n : List ℕ) (o : List (List ℕ)) where
    -- ---- `=` and a value, after the name a

    abbrev quoting : List (List ℕ) → Quoting l s
    quoting seen = record { state = quote n seen o; next = λ q. value q n seen o; does = λ x. refl; more = refl; free = λ i. refl }

    -- what the machine does there
    abbrev awaits : List (List ℕ) → ℕ → Next
    awaits seen = step_blanks (exact 61) solid_equals [] (quote n seen o)

    pub going_quoted : (seen : List (List ℕ)) (i : ℕ) → Acts l s (awaits seen) i
        → Outcome l s (λ v. At l s (in_tag false n seen o) (v.to + 1)) (quoted_at class_of s i)
    unfolding quoted_at
    going_quoted seen i acts =
        outcome_then l s _ (λ v. At l s (in_tag false n seen o) (v.to + 1)) _ (opened_at class_of s i)
        (going_opened l s (quoting seen) i acts) (λ b q at_b.
        outcome_then l s _ (λ v. At l s (in_tag false n seen o) (v.to + 1)) _ (value_at class_of (length s) (byte_at s (b - 1)) s b)
        (going_value l s (byte_at s (b - 1)) at_b.mark n seen o (length s) b (omega arith) at_b.here)
        (λ e r at-e. at_has l s (is (byte_at s (b - 1))) e at-e.0 at-e.1 refl (rw (has_byte (is (byte_at s (b - 1))) s e at-e.1))))

    -- ---- the name of one more

    abbrev pub naming : List (List ℕ) → Naming l s
    naming seen = record {
      in_part = λ t a. attribute t a n seen o;
      behind_colon = λ a. attribute_colon a n seen o;
      grows = λ t a x h. rw h;
      splits = λ a. rw colon_no_name;
      begins = λ a x. refl;
      free = λ t a i. refl;
      looks = λ a i. refl;
      colon_more = λ a. refl;
      colon_roomy = λ a spaced m seen' o' e. absurd (attribute_colon_no_tag e);
    }

    -- behind the tag's name and the attributes whose names were seen
    pub record Tagged (seen : List (List ℕ)) (at : ℕ) : Type 0 where
      pub acts : Acts l s (step_in_tag false n seen o) at
      pub tag : ℕ
      pub marked : MarkedAt l s tag
      pub stands : TagStands s tag (length seen) at
      pub few : length seen ≤ l.attributes

    module _ (seen : List (List ℕ)) (at : ℕ) (tagged : Tagged seen at) where
      abbrev p : ℕ
      p = ends (is_space class_of) s at

      solid : p < length s → is_space class_of (byte_at s p) ≡ false
      solid within = fails_byte (is_space class_of) s p within (ends_fails (is_space class_of) s at)

      pub spaced : has (is_space class_of) s at ≡ true → At l s (in_tag true n seen o) p
      spaced h =
          rw (ends_more (is_space class_of) s at h)
          (at_ends l s (is_space class_of) (λ i t. rw (has_fails (is_space class_of) (is_start class_of) space_no_start s i t)) (λ x t. rw t)
          (at + 1) (acts_has l s tagged.acts (is_space class_of) h (rw (has_byte (is_space class_of) s at h))))

      -- Neither white space nor the tag's end stands there: only a name may begin, and only behind white space.
      module _ (Going-on : has ends_tag s p ≡ false) where
        no_end : p < length s → (is 47 (byte_at s p) ≡ false) × (is 62 (byte_at s p) ≡ false)
        no_end within = or_parts (is 47 (byte_at s p)) (is 62 (byte_at s p)) (fails_byte ends_tag s p within Going-on)

        dies_at : (b : Bool) → p < length s → (b && is_start class_of (byte_at s p)) ≡ false → step_in_tag b n seen o (byte_at s p) ≡ dead
        dies_at b within h = rw (solid within, (no_end within).0, (no_end within).1, h)

        enters : has (is_start class_of) s p ≡ true
            → step (in_tag true n seen o) (byte_at s p) ≡ goes (attribute false (part s p (p + 1)) n seen o)
        enters h =
            let within : p < length s = has_lt (is_start class_of) s p h in
            rw (solid within, (no_end within).0, (no_end within).1, has_byte (is_start class_of) s p h, part_one s p within)

        crowd : has (is_space class_of) s at ≡ true → Crowd l s (length seen) p
        crowd h = record { at = tagged.tag; marked = tagged.marked; to = at; stands = tagged.stands; space = h; begins = refl }

        pub before : has (is_space class_of) s at ≡ true → leb l.attributes (length seen) ≡ false → NameBefore l s (naming seen) p
        before h room = record {
          before = record {
            state = in_tag true n seen o;
            here = spaced h;
            more = refl;
            from = omega arith;
            starts = enters;
            fails = λ within t. dies_at true within (fails_byte (is_start class_of) s p within t);
            looks = λ t. rw (t, room);
            roomy = λ b m seen' o' e. ap (λ (k : ℕ). leb l.attributes k) (sym (same_seen e)) ∙ room;
            stands = record { at = tagged.tag; marked = tagged.marked; stands = first (of_attribute (length seen) at tagged.stands h refl) };
          };
          at = tagged.tag;
          marked = tagged.marked;
          begins = of_attribute (length seen) at tagged.stands h refl;
        }
          where
            same_seen : {b : Bool} {m : List ℕ} {seen' o' : List (List ℕ)} → in_tag true n seen o ≡ in_tag b m seen' o'
                → length seen ≡ length seen'
            same_seen e = ap length (in_tag_seen e)

        -- behind the name, which is no second one of its kind
        pub record Fresh (e : ℕ) : Type 0 where
          pub space : has (is_space class_of) s at ≡ true
          pub name : Named
          pub named : name_at class_of l.part s p ≡ whole name
          pub ends_there : name.end ≡ e
          pub acts : Acts l s (awaits (part s p e ∷ seen)) e
          pub room : length seen < l.attributes

        behind_does : (name : Named) (read : NameRead l s (naming seen) p name) → name.end < length s
            → step (attribute read.in_second (part s p name.end) n seen o) (byte_at s name.end) ≡ cond (is_known (part s p name.end) seen) dead (awaits (part s p name.end ∷ seen) (byte_at s name.end))
        behind_does name read within =
            rw (
              fails_byte (is_name class_of) s name.end within read.ended,
              ap (λ (t : Bool). t && not read.in_second) (sym (has_in (is 58) s name.end within)) ∙ read.undivided,
            )

        pub going_fresh_name : has (is_space class_of) s at ≡ true → length seen < l.attributes → (name : Named)
            → name_at class_of l.part s p ≡ whole name → NameRead l s (naming seen) p name
            → Outcome l s Fresh (cond (is_known (part s p name.end) seen) (refused 9 name.end) (whole name.end))
        going_fresh_name h free name q read =
            cond_both (is_known (part s p name.end) seen) _ _ (Outcome l s Fresh)
            (λ t. stuck_here l s read.here refl (λ within. behind_does name read within ∙ rw t))
            (λ t. record {
              space = h;
              name = name;
              named = q;
              ends_there = refl;
              acts = acts_as l s (acts_at l s _ name.end read.here refl refl) (awaits (part s p name.end ∷ seen))
                  (λ within. behind_does name read within ∙ rw t);
              room = free;
            })

        going_fresh : Outcome l s Fresh (fresh_at class_of s l seen at p)
        unfolding fresh_at
        going_fresh = space (has (is_space class_of) s at) refl
          where
            named : ℕ → Reading ℕ
            named room =
                name_at class_of l.part s p
                >>= (λ name. cond (is_known (part s p name.end) seen) (refused 9 name.end) (whole name.end))

            started : ℕ → Reading ℕ
            started begin = cond (ltb (length seen) l.attributes) (whole p) (refused 11 p) >>= named

            room : has (is_space class_of) s at ≡ true → has (is_start class_of) s p ≡ true → (t : Bool) → ltb (length seen) l.attributes ≡ t
                → Outcome l s Fresh (cond t (whole p) (refused 11 p) >>= named)
            room h st true e =
                outcome_then l s (NameRead l s (naming seen) p) Fresh _ (name_at class_of l.part s p)
                (going_name l s (naming seen) p
                (before h (lt-leb l.attributes (length seen) (ltb-true (length seen) l.attributes e))))
                (λ name q read. going_fresh_name h (ltb-true (length seen) l.attributes e) name q read)
            room h st false e = (
              in_tag true n seen o,
              spaced h,
              crowded n seen o refl st (omega (arith, tagged.few, ltb-false (length seen) l.attributes e)) (crowd h),
            )

            start : has (is_space class_of) s at ≡ true → (t : Bool) → has (is_start class_of) s p ≡ t
                → Outcome l s Fresh (one (is_start class_of) s p >>= started)
            start h true e = rw (one_yes (is_start class_of) s p e) (room h e (ltb (length seen) l.attributes) refl)
            start h false e =
                rw (one_no (is_start class_of) s p e)
                (stuck_here l s (spaced h) refl (λ within. dies_at true within (fails_byte (is_start class_of) s p within e)))

            space : (t : Bool) → has (is_space class_of) s at ≡ t
                → Outcome l s Fresh (one (is_space class_of) s at >>= (λ _. one (is_start class_of) s p >>= started))
            space true e = rw (one_yes (is_space class_of) s at e) (start e (has (is_start class_of) s p) refl)
            space false e =
                let same : p ≡ at = ends_stop (is_space class_of) s at e in
                rw (one_no (is_space class_of) s at e)
                (acts_stuck l s tagged.acts
                (λ within. ap (λ (i : ℕ). step_in_tag false n seen o (byte_at s i)) (sym same) ∙ dies_at false (omega arith) refl))

    -- ---- all of them

    -- at the `/` or `>` behind them
    pub record EndsAt (p : ℕ) : Type 0 where
      pub ends_tag_lem : has ends_tag s p ≡ true
      pub empties : has (is 47) s p ≡ true → At l s (slash o) (p + 1)
      pub fills : has (is 62) s p ≡ true → At l s (ground (inside 0 n o)) (p + 1)

    ends_there : (b : Bool) (seen : List (List ℕ)) (p : ℕ) → Acts l s (step_in_tag b n seen o) p → has (is_space class_of) s p ≡ false
        → has ends_tag s p ≡ true → EndsAt p
    ends_there b seen p acts solid h = record {
      ends_tag_lem = h;
      empties = λ t. acts_has l s acts (is 47) t
          (rw (fails_byte (is_space class_of) s p (has_lt (is 47) s p t) solid, has_byte (is 47) s p t));
      fills = λ t. acts_has l s acts (is 62) t
          (rw (fails_byte (is_space class_of) s p (has_lt (is 62) s p t) solid, ap (is 47) (byte_is 62 s p t), has_byte (is 62) s p t));
    }

    module _ (seen : List (List ℕ)) (at : ℕ) (tagged : Tagged seen at) where
      going_end : has ends_tag s (ends (is_space class_of) s at) ≡ true → EndsAt (ends (is_space class_of) s at)
      going_end h = go (has (is_space class_of) s at) refl
        where
          p : ℕ
          p = ends (is_space class_of) s at

          go : (t : Bool) → has (is_space class_of) s at ≡ t → EndsAt p
          go true e =
              ends_there true seen p (acts_at l s (in_tag true n seen o) p (spaced seen at tagged e) refl
              (rw (has_fails ends_tag (is_start class_of) end_no_start s p h))) (ends_fails (is_space class_of) s at) h
          go false e =
              ends_there false seen p (subst (Acts l s (step_in_tag false n seen o)) (sym (ends_stop (is_space class_of) s at e))
              tagged.acts) (ends_fails (is_space class_of) s at) h

      -- behind one more
      pub next_tagged : (e : ℕ) (v : Quoted) (Going-on : has ends_tag s (ends (is_space class_of) s at) ≡ false)
          → Fresh seen at tagged Going-on e → quoted_at class_of s e ≡ whole v
          → At l s (in_tag false n (part s (ends (is_space class_of) s at) e ∷ seen) o) (v.to + 1)
          → Tagged (part s (ends (is_space class_of) s at) e ∷ seen) (v.to + 1)
      next_tagged e v Going-on fresh q here = record {
        acts = acts_at l s _ (v.to + 1) here refl refl;
        tag = tagged.tag;
        marked = tagged.marked;
        stands = record {
          opens = tagged.stands.opens;
          name = tagged.stands.name;
          named = tagged.stands.named;
          attributes = (
            at,
            tagged.stands.attributes,
            record {
              space = fresh.space;
              name = fresh.name;
              named = (l.part, fresh.named);
              value = v;
              valued = ap (quoted_at class_of s) fresh.ends_there ∙ q;
              ends = refl;
            },
          );
        };
        few = omega (arith, fresh.room);
      }

      further_on : (e : ℕ) (v : Quoted) → has (is_space class_of) s at ≡ true
          → fresh_at class_of s l seen at (ends (is_space class_of) s at) ≡ whole e → quoted_at class_of s e ≡ whole v → at < v.to
      further_on e v h q r =
          let on : at < ends (is_space class_of) s at =
          omega (arith, ends_more (is_space class_of) s at h, ends_from (is_space class_of) s (at + 1)) in
          let named : at < e =
          (past_whole (λ x. x) (length s) at q (past_fresh class_of s at l seen at (ends (is_space class_of) s at) on)).0 in
          (past_whole (λ x. x.to) (length s) at r (past_quoted class_of s at e named)).0

    pub going_attributes : (fuel : ℕ) (seen : List (List ℕ)) (at : ℕ) → length s ≤ fuel + at → Tagged seen at
        → Outcome l s EndsAt (attributes_at class_of s l fuel seen at)
    unfolding attributes_at
    going_attributes zero seen at enough tagged = acts_stuck l s tagged.acts (λ within. absurd (omega arith))
    going_attributes (suc fuel) seen at enough tagged =
        cond_both (has ends_tag s (ends (is_space class_of) s at)) _ _ (Outcome l s EndsAt) (λ h. going_end seen at tagged h) (λ h.
        outcome_then l s (Fresh seen at tagged h) EndsAt _ (fresh_at class_of s l seen at (ends (is_space class_of) s at))
        (going_fresh seen at tagged h) (λ e q fresh.
        outcome_then l s (λ v. At l s (in_tag false n (part s (ends (is_space class_of) s at) e ∷ seen) o) (v.to + 1)) EndsAt _
        (quoted_at class_of s e)
        (going_quoted (part s (ends (is_space class_of) s at) e ∷ seen) e fresh.acts) (λ v r here.
        going_attributes fuel (part s (ends (is_space class_of) s at) e ∷ seen) (v.to + 1)
        (omega (arith, further_on seen at tagged e v fresh.space q r)) (next_tagged seen at tagged e v h fresh r here))))
