-- The machine reads start tags as `start_at` does, where an element may begin. Assumes nothing.
use Prim.Native.Nat.{ℕ, ◌+◌, ◌<◌}
use mathlib.Core.Path.{◌≡◌, refl, sym, ◌∙◌, ap}
use mathlib.Core.Bool.{Bool, true, false, not, ◌&&◌, and-false}
use mathlib.Core.List.{List, [], ◌∷◌}
use native.Mathlib.Omega.{arith}
use lib.ListN.{length}
use lib.Dec.{leb}
use borrow.Author.Tests.{le-leb}
use Rattle.std.proofs.lemmas.Bool.{cond_both}
use Rattle.message.specs.Class.{class_of, is_start, is_name}
use Rattle.message.specs.Reading.{◌>>=◌, is, byte_at, has, one}
use Rattle.message.specs.Reading.Reading.{whole, refused}
use Rattle.message.specs.Names.{Named, name_at}
use Rattle.message.specs.Limits.{Limits}
use Rattle.message.specs.Elements.{part, Element, Start, start_end_at, too_deep_at, attributes_at, with_name_at, start_at}
use Rattle.message.specs.Readable.{of_start}
use Rattle.message.specs.Readable as readable
use Rattle.message.proofs.Laws.{has_second, has_in, has_lt, has_byte, one_yes, one_no, fails_byte}
use Rattle.message.proofs.Parts.{part_one}
use Rattle.message.proofs.Bytes.{colon_no_name}
use Rattle.message.proofs.Automaton.{Ground, first, before, behind, inside, ground, opened, name, colon, in_tag, dead, step, after, named, tag, between_tags, step_in_tag}
use Rattle.message.proofs.Dues.{is_behind, depth, opening, At}
use Rattle.message.proofs.Going.{deep, Stuck, Outcome, outcome_then, outcome_one, at_has, stuck_here}
use Rattle.message.proofs.Acting.{acts_at, acts_as}
use Rattle.message.proofs.GoingNames.{Naming, NameRead, NameBefore, going_name}
use Rattle.message.proofs.GoingAttributes.{Tagged, EndsAt, going_attributes}

-- the names of the elements that are open
abbrev pub names : Ground → List (List ℕ)
names first = []
names before = []
names behind = []
names (inside b v o) = v ∷ o

-- behind the colon of a name the machine is not behind the name
pub colon_no_tag : {n : List ℕ} {o : List (List ℕ)} {b : Bool} {m : List ℕ} {seen o' : List (List ℕ)} → colon n o ≡ in_tag b m seen o' → ⊥
colon_no_tag e = cc

module _ (l : Limits) (s : List ℕ) where
  -- a `/` behind the `<` ends the element around it
  abbrev pub slashed : Ground → ℕ → Bool
  slashed first i = false
  slashed before i = false
  slashed behind i = false
  slashed (inside b v o) i = has (is 47) s i

  -- where an element has to begin: nothing else does
  pub record Place (g : Ground) (i : ℕ) : Type 0 where
    pub here : At l s (ground g) i
    pub front : is_behind g ≡ false
    pub lost : i < length s → has (is 60) s i ≡ false → between_tags g (byte_at s i) ≡ dead
    pub no_bang : has (is 60) s i ≡ true → has (is 33) s (i + 1) ≡ false
    pub no_question : has (is 60) s i ≡ true → has (is 63) s (i + 1) ≡ false
    pub no_slash : has (is 60) s i ≡ true → slashed g (i + 1) ≡ false

  -- behind a start tag: behind its element, where it is empty, or inside it
  pub record Started (g : Ground) (i : ℕ) (st : Start) : Type 0 where
    pub emptied : st.empty ≡ true → At l s (after (names g)) st.from
    pub filled : st.empty ≡ false → At l s (ground (inside 0 (part s (i + 1) st.name.end) (names g))) st.from

  module _ (g : Ground) (i : ℕ) (place : Place g i) where
    -- no `<` stands there
    stuck_lost : has (is 60) s i ≡ false → Stuck l s 9 i
    stuck_lost h = stuck_here l s place.here place.front (λ within. rw (fails_byte (is 60) s i within h) (place.lost within h))

    module _ (tagged : has (is 60) s i ≡ true) where
      no_opening : opening l s g i ≡ false
      no_opening = rw (place.no_bang tagged, place.no_question tagged)

      -- behind the `<`, where there is room for the element or no name begins
      at_opened : ((leb l.levels (depth g) && not (is_behind g)) && has (is_start class_of) s (i + 1)) ≡ false → At l s (opened g) (i + 1)
      at_opened room = at_has l s (is 60) i place.here tagged (rw (tagged, no_opening, room)) (rw (has_byte (is 60) s i tagged))

      opens_name : i + 1 < length s → step (opened g) (byte_at s (i + 1)) ≡ named (names g) (byte_at s (i + 1))
      opens_name within =
          rw (fails_byte (is 33) s (i + 1) within (place.no_bang tagged))
          (go g place.front (fails_byte (is 63) s (i + 1) within (place.no_question tagged))
          (λ t. fails_byte (is 47) s (i + 1) within t) (place.no_slash tagged))
        where
          go : (g : Ground) → is_behind g ≡ false → is 63 (byte_at s (i + 1)) ≡ false
              → (has (is 47) s (i + 1) ≡ false → is 47 (byte_at s (i + 1)) ≡ false) → slashed g (i + 1) ≡ false
              → tag g (byte_at s (i + 1)) ≡ named (names g) (byte_at s (i + 1))
          go first front other ends_it t = rw other
          go before front other ends_it t = refl
          go behind front other ends_it t = cc
          go (inside b v o) front other ends_it t = rw (ends_it t)

    -- ---- at the last level

    pub going_deep : (P : Element → Type 0) → depth g ≡ l.levels → Outcome l s P (too_deep_at class_of s i)
    unfolding too_deep_at
    going_deep P full = go (has (is 60) s i) refl
      where
        start : has (is 60) s i ≡ true → (t : Bool) → has (is_start class_of) s (i + 1) ≡ t
            → Outcome l s P (one (is_start class_of) s (i + 1) >>= (λ _. refused 10 i))
        start tagged true h =
            rw (one_yes (is_start class_of) s (i + 1) h)
            (ground g, place.here, deep g refl tagged (rw (le-leb l.levels (depth g) (omega arith), place.front, h)) full)
        start tagged false h =
            rw (one_no (is_start class_of) s (i + 1) h)
            (stuck_here l s (at_opened tagged (rw h (and-false (leb l.levels (depth g) && not (is_behind g))))) refl
            (λ within. opens_name tagged within ∙ rw (fails_byte (is_start class_of) s (i + 1) within h)))

        go : (t : Bool) → has (is 60) s i ≡ t → Outcome l s P (one (is 60) s i >>= (λ b. one (is_start class_of) s b >>= (λ _. refused 10 i)))
        go true h = rw (one_yes (is 60) s i h) (start h (has (is_start class_of) s (i + 1)) refl)
        go false h = rw (one_no (is 60) s i h) (stuck_lost h)

    -- ---- with room for it

    module _ (tagged : has (is 60) s i ≡ true) (room : leb l.levels (depth g) ≡ false) where
      abbrev pub naming : Naming l s
      naming = record {
        in_part = λ t n. name t n (names g);
        behind_colon = λ n. colon n (names g);
        grows = λ t n x h. rw h;
        splits = λ n. rw colon_no_name;
        begins = λ n x. refl;
        free = λ t n j. refl;
        looks = λ n j. refl;
        colon_more = λ n. refl;
        colon_roomy = λ n spaced m seen o e. absurd (colon_no_tag e);
      }

      pub name_before : NameBefore l s naming (i + 1)
      name_before = record {
        before = record {
          state = opened g;
          here = at_opened tagged (rw room);
          more = refl;
          from = omega arith;
          starts = λ h. opens_name tagged (has_lt (is_start class_of) s (i + 1) h)
              ∙ rw (has_byte (is_start class_of) s (i + 1) h, part_one s (i + 1) (has_lt (is_start class_of) s (i + 1) h));
          fails = λ within h. opens_name tagged within ∙ rw (fails_byte (is_start class_of) s (i + 1) within h);
          looks = λ h. rw (place.front, h);
          roomy = λ spaced m seen o e. cc;
          stands = record { at = i; marked = (g, place.here); stands = readable.first (of_start tagged refl) };
        };
        at = i;
        marked = (g, place.here);
        begins = of_start tagged refl;
      }

      -- behind the name
      pub tagged_there : (n : Named) → name_at class_of l.part s (i + 1) ≡ whole n → NameRead l s naming (i + 1) n
          → Tagged l s (part s (i + 1) n.end) (names g) [] n.end
      tagged_there n q read = record {
        acts =
            acts_as l s (acts_at l s _ n.end read.here refl refl) (step_in_tag false (part s (i + 1) n.end) [] (names g)) (λ within.
            rw (
              fails_byte (is_name class_of) s n.end within read.ended,
              ap (λ (t : Bool). t && not read.in_second) (sym (has_in (is 58) s n.end within)) ∙ read.undivided,
            ));
        tag = i;
        marked = (g, place.here);
        stands = record { opens = tagged; name = n; named = (l.part, q); attributes = refl };
        few = omega arith;
      }

      going_start_end : (n : Named) (p : ℕ) → EndsAt l s (part s (i + 1) n.end) (names g) p
          → Outcome l s (Started g i) (start_end_at s (i + 1) n p)
      unfolding start_end_at
      going_start_end n p ends =
          cond_both (has (is 47) s p) _ _ (Outcome l s (Started g i))
          (λ h. outcome_then l s _ _ _ (one (is 62) s (p + 1))
          (outcome_one l s (after (names g)) (is 62) (p + 1) (ends.empties h) refl (λ t. refl) (λ t. rw (has_byte (is 62) s (p + 1) t))
          (λ within t. rw (fails_byte (is 62) s (p + 1) within t)))
          (λ e q at-e. record { emptied = λ t. at-e.0; filled = λ t. cc }))
          (λ h.
          let greater : has (is 62) s p ≡ true = sym (has_second (is 47) (is 62) s p h) ∙ ends.ends_tag_lem in
          rw (one_yes (is 62) s p greater) (record { emptied = λ t. cc; filled = λ t. ends.fills greater }))

      going_with_name : Outcome l s (Started g i) (name_at class_of l.part s (i + 1) >>= (λ n. with_name_at class_of s l (i + 1) n))
      unfolding with_name_at
      going_with_name =
          outcome_then l s _ _ _ (name_at class_of l.part s (i + 1)) (going_name l s naming (i + 1) name_before) (λ n q read.
          outcome_then l s _ _ _ (attributes_at class_of s l (length s) [] n.end)
          (going_attributes l s (part s (i + 1) n.end) (names g) (length s) [] n.end (omega arith) (tagged_there n q read))
          (λ p r ends.
          going_start_end n p ends))

    pub going_start : leb l.levels (depth g) ≡ false → Outcome l s (Started g i) (start_at class_of s l i)
    unfolding start_at
    going_start room = go (has (is 60) s i) refl
      where
        go : (t : Bool) → has (is 60) s i ≡ t → Outcome l s (Started g i) (start_at class_of s l i)
        go true h = rw (one_yes (is 60) s i h) (going_with_name h room)
        go false h = rw (one_no (is 60) s i h) (stuck_lost h)
