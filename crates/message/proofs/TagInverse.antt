-- Where a start tag with its attributes stands, as specs/Readable says by readers, the machine has read it: behind the white space after it
-- the machine stands before the next attribute. Assumes nothing.
use Prim.Native.Nat.{ℕ, zero, suc, ◌+◌, ◌-◌, ◌<◌, ◌≤◌}
use mathlib.Core.Path.{◌≡◌, refl, sym, ◌∙◌, ap, subst}
use mathlib.Core.Bool.{Bool, true, false, cond, true≢false}
use mathlib.Core.List.{List, [], ◌∷◌}
use native.Mathlib.Omega.{arith}
use lib.ListN.{length, take}
use lib.Dec.{leb}
use borrow.Author.Tests.{leb-false}
use Rattle.std.proofs.lemmas.Bool.{or_parts}
use Rattle.message.specs.Class.{class_of, is_start, is_space}
use Rattle.message.specs.Reading.{Reading, is, byte_at, has, blanks}
use Rattle.message.specs.Reading.Reading.{whole, refused}
use Rattle.message.specs.Names.{Named, name_at}
use Rattle.message.specs.Limits.{Limits}
use Rattle.message.specs.Elements.{part, is_known, ends_tag}
use Rattle.message.specs.Readable.{MarkupMayBegin, NameStands, AttributeStands, AttributesStand, TagStands}
use Rattle.message.proofs.Laws.{and_true, has_lt, has_byte, ends_more, ends_from, fails_byte}
use Rattle.message.proofs.Bytes.{has_other, has_fails, end_no_start}
use Rattle.message.proofs.Progress.{past_whole}
use Rattle.message.proofs.Trees.{past_name, past_quoted}
use Rattle.message.proofs.Automaton.{Ground, first, before, behind, inside, State, ground, opened, in_tag, dead, goes, step}
use Rattle.message.proofs.Dues.{is_behind, depth, opening, too_deep, long, due, At}
use Rattle.message.proofs.Going.{Outcome, at_has}
use Rattle.message.proofs.GoingNames.{Naming, NameRead, NameBefore, going_name}
use Rattle.message.proofs.GoingAttributes.{Tagged, Fresh, spaced, going_fresh_name, going_quoted, next_tagged}
use Rattle.message.proofs.GoingAttributes as attributes
use Rattle.message.proofs.GoingStarts.{names, slashed, Place, naming, name_before, tagged_there}
use Rattle.message.proofs.Shapes.{name_is, name_same, name_refused}
use Rattle.message.proofs.Alive.{state_one, alive_before, not_stuck_before}
use Rattle.message.proofs.Accepted.{may_ground}

-- the places of an attribute
attribute_on : (s : List ℕ) (last to : ℕ) (stands : AttributeStands s last to)
    → (last < blanks class_of s last) × (blanks class_of s last ≤ stands.name.end) × (stands.name.end < to)
attribute_on s last to stands =
    let q : ℕ = blanks class_of s last in
    let e : ℕ = stands.name.end in
    let b : last < q = omega (arith, ends_more (is_space class_of) s last stands.space, ends_from (is_space class_of) s (last + 1)) in
    let c : q - 1 < e =
    (past_whole (λ m. m.end) (length s) (q - 1) stands.named.1 (past_name class_of s (q - 1) stands.named.0 q (omega arith))).0 in
    let d : e - 1 < stands.value.to =
    (past_whole (λ v. v.to) (length s) (e - 1) stands.valued (past_quoted class_of s (e - 1) e (omega arith))).0 in
    (b, omega arith, omega (arith, stands.ends))

-- ---- the machine stands at the place p

module _ (l : Limits) (s : List ℕ) (p : ℕ) (st : State) (here : At l s st p) where
  -- a name that stands before p was read
  module _ (N : Naming l s) (b : ℕ) (at_b : NameBefore l s N b) (name : Named) (most : ℕ) (named : name_at class_of most s b ≡ whole name) (less : name.end < p) where
    abbrev Was : Type 0
    Was = (name_at class_of l.part s b ≡ whole name) × NameRead l s N b name

    name_was : Was
    name_was = go (name_at class_of l.part s b) refl (going_name l s N b at_b)
      where
        go : (r : Reading Named) → name_at class_of l.part s b ≡ r → Outcome l s (NameRead l s N b) r → Was
        go (whole n) q read =
            let same : n ≡ name = name_same class_of s b l.part most n name q named in
            (q ∙ ap whole same, subst (NameRead l s N b) same read)
        go (refused n i) q stuck =
            absurd (not_stuck_before l s n i p st stuck here (omega (arith, name_refused class_of s b most l.part n i name named q)))

  -- behind a `<` where markup may begin
  pub record OpenedAt (at : ℕ) : Type 0 where
    pub from : Ground
    pub marked : At l s (ground from) at
    pub free : due l s (ground from) at ≡ false
    pub behind : At l s (opened from) (at + 1)

  pub opened_at_lem : (at : ℕ) → MarkupMayBegin (take at s) → has (is 60) s at ≡ true → at < p → OpenedAt at
  opened_at_lem at may tag less =
      let a = (alive_before l s p at st here less).1 in
      let g = may_ground l s at a.from a.here may in
      let marked : At l s (ground g.0) at = subst (λ (x : State). At l s x at) g.1 a.here in
      let free : due l s (ground g.0) at ≡ false = subst (λ (x : State). due l s x at ≡ false) g.1 a.free in
      record { from = g.0; marked = marked; free = free; behind = at_has l s (is 60) at marked tag free (rw (has_byte (is 60) s at tag)) }

  -- the machine goes on there
  pub goes_at : (i : ℕ) (x : State) → At l s x i → i < p
      → (due l s x i ≡ false) × ((next : State) × (step x (byte_at s i) ≡ goes next) × At l s next (i + 1))
  goes_at i x at_i less =
      let a = alive_before l s p i st here less in
      let same : a.1.from ≡ x = state_one l s i a.1.from x a.1.here at_i in (
        subst (λ (y : State). due l s y i ≡ false) same a.1.free,
        (a.0, subst (λ (y : State). step y (byte_at s i) ≡ goes a.0) same a.1.by, a.2),
      )

  module _ (at : ℕ) (o : OpenedAt at) (tag : has (is 60) s at ≡ true) (starts : has (is_start class_of) s (at + 1) ≡ true) (less : at + 1 < p) where
    none : (b : ℕ) → is_start class_of b ≡ false → has (is b) s (at + 1) ≡ false
    none b fails = has_other (is_start class_of) b fails s (at + 1) starts

    front : is_behind o.from ≡ false
    unfolding class_of
    front = go o.from o.behind
      where
        go : (g : Ground) → At l s (opened g) (at + 1) → is_behind g ≡ false
        go first h = refl
        go before h = refl
        go behind h =
            let x = (goes_at (at + 1) (opened behind) h less).1 in
            let y : dead ≡ goes x.0 =
            sym (rw (fails_byte (is 33) s (at + 1) (has_lt (is_start class_of) s (at + 1) starts) (none 33 refl))) ∙ x.1 in
            cc
        go (inside b v os) h = refl

    place : Place l s o.from at
    unfolding class_of
    place = record {
      here = o.marked;
      front = front;
      lost = λ within h. cc;
      no_bang = λ h. none 33 refl;
      no_question = λ h. none 63 refl;
      no_slash = λ h. slashes o.from;
    }
      where
        slashes : (g : Ground) → slashed l s g (at + 1) ≡ false
        slashes first = refl
        slashes before = refl
        slashes behind = refl
        slashes (inside b v os) = none 47 refl

    room : leb l.levels (depth o.from) ≡ false
    room = go (leb l.levels (depth o.from)) refl
      where
        go : (t : Bool) → leb l.levels (depth o.from) ≡ t → t ≡ false
        go true e =
            let deep : too_deep l s o.from at ≡ false =
            (or_parts (opening l s o.from at) (too_deep l s o.from at) (and_true _ tag ∙ o.free)).1 in
            absurd (true≢false (sym (rw (e, front, starts)) ∙ deep))
        go false e = refl

    -- behind the name
    tag_named : (name : Named) → NameStands s (at + 1) name → name.end < p
        → Tagged l s (part s (at + 1) name.end) (names o.from) [] name.end
    tag_named name stands far =
        let w = name_was (naming l s o.from at place tag room) (at + 1) (name_before l s o.from at place tag room) name stands.0
        stands.1 far in
        tagged_there l s o.from at place tag room name w.0 w.1

  -- ---- attributes

  module _ (n : List ℕ) (o : List (List ℕ)) where
    module _ (seen : List (List ℕ)) (last to : ℕ) (tagged : Tagged l s n o seen last) (stands : AttributeStands s last to) (less : to < p) where
      abbrev q : ℕ
      q = blanks class_of s last

      abbrev e : ℕ
      e = stands.name.end

      begins : has (is_start class_of) s q ≡ true
      begins = (name_is class_of s q stands.named.0 stands.name stands.named.1).0

      on : (last < q) × (q ≤ e) × (e < to)
      on = attribute_on s last to stands

      no_end : has ends_tag s q ≡ false
      no_end = go (has ends_tag s q) refl
        where
          go : (t : Bool) → has ends_tag s q ≡ t → has ends_tag s q ≡ false
          go true h = absurd (true≢false (sym begins ∙ has_fails ends_tag (is_start class_of) end_no_start s q h))
          go false h = h

      -- the limit leaves room, since the machine goes on
      room_there : leb l.attributes (length seen) ≡ false
      room_there =
          let free = (goes_at q (in_tag true n seen o) (spaced l s n o seen last tagged stands.space) (omega (arith, on.1, on.2))).0 in
          (or_parts (leb l.attributes (length seen)) (long l s q) (and_true _ begins ∙ free)).0

      fresh_there : Fresh l s n o seen last tagged no_end e
      fresh_there =
          let w = name_was (attributes.naming l s n o seen) q (attributes.before l s n o seen last tagged no_end stands.space room_there)
          stands.name stands.named.0 stands.named.1 (omega (arith, on.2)) in
          go (is_known (part s q e) seen)
          (going_fresh_name l s n o seen last tagged no_end stands.space (leb-false l.attributes (length seen) room_there)
          stands.name w.0 w.1)
        where
          go : (t : Bool) → Outcome l s (Fresh l s n o seen last tagged no_end) (cond t (refused 9 e) (whole e))
              → Fresh l s n o seen last tagged no_end e
          go true stuck = absurd (not_stuck_before l s 9 e p st stuck here (omega (arith, on.2)))
          go false fresh = fresh

      one_more : Tagged l s n o (part s q e ∷ seen) to
      one_more =
          let there : At l s (in_tag false n (part s q e ∷ seen) o) (stands.value.to + 1) = subst (Outcome l s
          (λ v. At l s (in_tag false n (part s q e ∷ seen) o) (v.to + 1))) stands.valued
          (going_quoted l s n o (part s q e ∷ seen) e fresh_there.acts) in
          subst (Tagged l s n o (part s q e ∷ seen)) stands.ends
          (next_tagged l s n o seen last tagged e stands.value no_end fresh_there stands.valued there)

    all_tagged : (k from to : ℕ) → AttributesStand s k from to → to < p → Tagged l s n o [] from
        → (seen : List (List ℕ)) × Tagged l s n o seen to × (length seen ≡ k)
    all_tagged zero from to stand less begin = ([], subst (Tagged l s n o []) stand begin, refl)
    all_tagged (suc k) from to stand less begin =
        let further : stand.0 < to = omega (arith, attribute_on s stand.0 to stand.2) in
        let x = all_tagged k from stand.0 stand.1 (omega arith) begin in
        (part s (blanks class_of s stand.0) stand.2.name.end ∷ x.0, one_more x.0 stand.0 to x.1 stand.2 less, ap suc x.2)

  -- ---- a start tag with its attributes

  attributes_on : (k from to : ℕ) → AttributesStand s k from to → from ≤ to
  attributes_on zero from to stand = omega arith
  attributes_on (suc k) from to stand = omega (arith, attributes_on k from stand.0 stand.1, attribute_on s stand.0 to stand.2)

  tagged_at : (at k to : ℕ) → MarkupMayBegin (take at s) → TagStands s at k to → to < p
      → (n : List ℕ) × (o : List (List ℕ)) × (seen : List (List ℕ)) × Tagged l s n o seen to × (length seen ≡ k)
  tagged_at at k to may stands less =
      let name : Named = stands.name in
      let starts : has (is_start class_of) s (at + 1) ≡ true = (name_is class_of s (at + 1) stands.named.0 name stands.named.1).0 in
      let far : name.end < p = omega (arith, attributes_on k name.end to stands.attributes) in
      let wide : at < name.end =
      (past_whole (λ m. m.end) (length s) at stands.named.1 (past_name class_of s at stands.named.0 (at + 1) (omega arith))).0 in
      let o : OpenedAt at = opened_at_lem at may stands.opens (omega arith) in
      let n : List ℕ = part s (at + 1) name.end in
      let x = all_tagged n (names o.from) k name.end to stands.attributes less
      (tag_named at o stands.opens starts (omega arith) name stands.named far) in
      (n, names o.from, x.0, x.1, x.2)

pub tag_inverse : (l : Limits) (s : List ℕ) (p : ℕ) (st : State) → At l s st p → (at k to : ℕ) → MarkupMayBegin (take at s)
    → TagStands s at k to
    → has (is_space class_of) s to ≡ true → p ≡ blanks class_of s to
    → (n : List ℕ) × (seen : List (List ℕ)) × (o : List (List ℕ)) × (st ≡ in_tag true n seen o) × (length seen ≡ k)
tag_inverse l s p st here at k to may stands space p-is =
    let less : to < p = omega (arith, p-is, ends_more (is_space class_of) s to space, ends_from (is_space class_of) s (to + 1)) in
    let x = tagged_at l s p st here at k to may stands less in
    let there : At l s (in_tag true x.0 x.2 x.1) p =
    subst (At l s (in_tag true x.0 x.2 x.1)) (sym p-is) (spaced l s x.0 x.1 x.2 to x.3 space) in
    (x.0, x.2, x.1, state_one l s p st (in_tag true x.0 x.2 x.1) here there, x.4)
