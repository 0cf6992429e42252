-- Where a part of a name begins, as specs/Readable says by readers, the machine stands before a part: if a long run of name bytes stands
-- there it is due, or the byte is dead. Assumes nothing.
use Prim.Native.Nat.{ℕ, ◌+◌, ◌<◌}
use mathlib.Core.Path.{◌≡◌, refl, sym, ◌∙◌, ap, subst}
use mathlib.Core.Logic.{◌⊎◌, inl, inr}
use mathlib.Core.Bool.{Bool, true, false, not, ◌&&◌, true≢false, or-true as or_yes}
use mathlib.Core.List.{List, [], ◌∷◌, ◌++◌}
use native.Mathlib.Omega.{arith}
use lib.ListN.{length, take}
use lib.Dec.{leb}
use borrow.Author.Tests.{eqb-true}
use Rattle.std.proofs.lemmas.Bool.{and_parts}
use Rattle.std.proofs.lemmas.Bool.Decides.{nat_tests}
use Rattle.message.specs.Class.{class_of, is_start, is_name, is_space}
use Rattle.message.specs.Reading.{is, byte_at, has, ends}
use Rattle.message.specs.Limits.{Limits}
use Rattle.message.specs.Readable.{MarkupMayBegin, FirstPart, of_start, of_end, of_attribute, PartStands}
use Rattle.message.specs.Readable as readable
use Rattle.message.proofs.Laws.{has_lt, has_byte, ends_more, ends_from, fails_byte}
use Rattle.message.proofs.Runs.{byte_is, run_keeps}
use Rattle.message.proofs.Ways.{goes_dead, goes_same}
use Rattle.message.proofs.Bytes.{Letter, name_letter, colon_letter, letter_not, letter_solid, colon_no_start, colon_no_name}
use Rattle.message.proofs.Automaton.{Ground, first, before, behind, inside, State, ground, opened, name, colon, in_tag, attribute, attribute_colon, dead, goes, only, closing, step}
use Rattle.message.proofs.Dues.{is_behind, long, due, At}
use Rattle.message.proofs.GoingStarts.{names}
use Rattle.message.proofs.Alive.{state_one, alive_before}
use Rattle.message.proofs.TagInverse.{OpenedAt, opened_at_lem, goes_at, tag_inverse}

-- ---- what the states before a name do on a byte of a name or a colon

-- it is no `!`, `?`, `/`, `>` and no white space
record Plain (x : ℕ) : Type 0 where
  bang : is 33 x ≡ false
  question : is 63 x ≡ false
  slash : is 47 x ≡ false
  greater : is 62 x ≡ false
  solid : is_space class_of x ≡ false

letter_plain : (x : ℕ) → Letter x → Plain x
unfolding class_of
letter_plain x h = record {
  bang = letter_not 33 refl x h;
  question = letter_not 63 refl x h;
  slash = letter_not 47 refl x h;
  greater = letter_not 62 refl x h;
  solid = letter_solid x h;
}

opened_step : (g : Ground) (x : ℕ) → Letter x
    → step (opened g) x ≡ only (not (is_behind g) && is_start class_of x) (name false (x ∷ []) (names g))
opened_step g x h = go g (letter_plain x h)
  where
    go : (g : Ground) → Plain x → step (opened g) x ≡ only (not (is_behind g) && is_start class_of x) (name false (x ∷ []) (names g))
    go first plain = rw (plain.bang, plain.question)
    go before plain = rw plain.bang
    go behind plain = rw plain.bang
    go (inside b v o) plain = rw (plain.bang, plain.slash)

tag_step : (n : List ℕ) (seen o : List (List ℕ)) (x : ℕ) → Letter x
    → step (in_tag true n seen o) x ≡ only (is_start class_of x) (attribute false (x ∷ []) n seen o)
tag_step n seen o x h = let plain : Plain x = letter_plain x h in rw (plain.solid, plain.slash, plain.greater)

closed_step : (f : Bool) (o : List (List ℕ)) (x : ℕ) → Letter x → step (closing [] f o) x ≡ dead
closed_step f o x h = let plain : Plain x = letter_plain x h in rw (plain.solid, plain.greater)

-- ---- a run of name bytes that is too long

module _ (l : Limits) (s : List ℕ) (p : ℕ) where
  -- it is due, or its first byte is dead
  abbrev Ends : State → Type 0
  Ends st = ((g : Ground) → st ≡ ground g → ⊥) × ((due l s st p ≡ true) ⊎ ((p < length s) × (step st (byte_at s p) ≡ dead)))

  module _ (named : has (is_name class_of) s p ≡ true) (far : long l s p ≡ true) where
    within : p < length s
    within = has_lt (is_name class_of) s p named

    letter : Letter (byte_at s p)
    letter = name_letter (byte_at s p) (has_byte (is_name class_of) s p named)

    ends_opened : (g : Ground) → Ends (opened g)
    ends_opened g = ((λ g' e. cc), go (is_behind g) refl (has (is_start class_of) s p) refl)
      where
        go : (b : Bool) → is_behind g ≡ b → (t : Bool) → has (is_start class_of) s p ≡ t
            → (due l s (opened g) p ≡ true) ⊎ ((p < length s) × (step (opened g) (byte_at s p) ≡ dead))
        go true e t h = inr (within, opened_step g (byte_at s p) letter ∙ rw e)
        go false e true h = inl (rw (e, h, far))
        go false e false h = inr (within, opened_step g (byte_at s p) letter ∙ rw (e, fails_byte (is_start class_of) s p within h))

    ends_tag_lem : (n : List ℕ) (seen o : List (List ℕ)) → Ends (in_tag true n seen o)
    ends_tag_lem n seen o = ((λ g e. cc), go (has (is_start class_of) s p) refl)
      where
        go : (t : Bool) → has (is_start class_of) s p ≡ t
            → (due l s (in_tag true n seen o) p ≡ true) ⊎ ((p < length s) × (step (in_tag true n seen o) (byte_at s p) ≡ dead))
        go true h = inl (rw (h, far) (or_yes (leb l.attributes (length seen))))
        go false h = inr (within, tag_step n seen o (byte_at s p) letter ∙ rw (fails_byte (is_start class_of) s p within h))

    -- behind a colon
    ends_colon : (n : List ℕ) (o : List (List ℕ)) → Ends (colon n o)
    ends_colon n o = ((λ g e. cc), go (has (is_start class_of) s p) refl)
      where
        go : (t : Bool) → has (is_start class_of) s p ≡ t
            → (due l s (colon n o) p ≡ true) ⊎ ((p < length s) × (step (colon n o) (byte_at s p) ≡ dead))
        go true h = inl (rw (h, far))
        go false h = inr (within, rw (fails_byte (is_start class_of) s p within h))

    ends_attribute_colon : (a n : List ℕ) (seen o : List (List ℕ)) → Ends (attribute_colon a n seen o)
    ends_attribute_colon a n seen o = ((λ g e. cc), go (has (is_start class_of) s p) refl)
      where
        go : (t : Bool) → has (is_start class_of) s p ≡ t
            → (due l s (attribute_colon a n seen o) p ≡ true) ⊎ ((p < length s) × (step (attribute_colon a n seen o) (byte_at s p) ≡ dead))
        go true h = inl (rw (h, far))
        go false h = inr (within, rw (fails_byte (is_start class_of) s p within h))

    ends_closing : (v : List ℕ) (o : List (List ℕ)) → Ends (closing v true o)
    ends_closing [] o = ((λ g e. cc), inr (within, closed_step true o (byte_at s p) letter))
    ends_closing (y ∷ w) o = ((λ g e. cc), go (has (is y) s p) refl)
      where
        go : (t : Bool) → has (is y) s p ≡ t
            → (due l s (closing (y ∷ w) true o) p ≡ true) ⊎ ((p < length s) × (step (closing (y ∷ w) true o) (byte_at s p) ≡ dead))
        go true h = inl (rw (h, far))
        go false h = inr (within, rw (fails_byte (is y) s p within h))

-- ---- before the first part

-- the state before a name
data Begun (st : State) : Type 0 where
  opens : (g : Ground) → st ≡ opened g → Begun st
  tags : (n : List ℕ) (seen o : List (List ℕ)) → st ≡ in_tag true n seen o → Begun st
  closes : (v : List ℕ) (o : List (List ℕ)) → st ≡ closing v true o → Begun st

-- a `/` behind a `<` begins an end tag, or is dead
slash_closes : (g : Ground) (x : ℕ) (next : State) → is 47 x ≡ true → step (opened g) x ≡ goes next
    → (v : List ℕ) × (o : List (List ℕ)) × (next ≡ closing v true o)
unfolding class_of
slash_closes g x next h q = grind (arith, nat_tests)

first_begun : (l : Limits) (s : List ℕ) (q : ℕ) (st : State) → At l s st q → (at : ℕ) → MarkupMayBegin (take at s) → FirstPart s at q
    → Begun st
first_begun l s q st here at may (of_start tag q-is) =
    let o : OpenedAt l s q st here at = opened_at_lem l s q st here at may tag (omega arith) in
    opens o.from (state_one l s q st (opened o.from) here (subst (At l s (opened o.from)) (sym q-is) o.behind))
first_begun l s q st here at may (of_end tag slash q-is) =
    let o : OpenedAt l s q st here at = opened_at_lem l s q st here at may tag (omega arith) in
    let x = (goes_at l s q st here (at + 1) (opened o.from) o.behind (omega arith)).1 in
    let two : at + 1 + 1 ≡ q = omega arith in
    closed x.0 (state_one l s q st x.0 here (subst (At l s x.0) two x.2))
    (slash_closes o.from (byte_at s (at + 1)) x.0 (has_byte (is 47) s (at + 1) slash) x.1)
  where
    closed : (next : State) → st ≡ next → (v : List ℕ) × (o : List (List ℕ)) × (next ≡ closing v true o) → Begun st
    closed next same c = closes c.0 c.1 (same ∙ c.2)
first_begun l s q st here at may (of_attribute k to stands space q-is) =
    let x = tag_inverse l s q st here at k to may stands space q-is in
    tags x.0 x.1 x.2 x.3

-- ---- over the first part to the second

-- before a name or in its first part
data InPart (st : State) : Type 0 where
  begun : Begun st → InPart st
  named : (n : List ℕ) (o : List (List ℕ)) → st ≡ name false n o → InPart st
  attributed : (a n : List ℕ) (seen o : List (List ℕ)) → st ≡ attribute false a n seen o → InPart st
  closings : (v : List ℕ) (f : Bool) (o : List (List ℕ)) → st ≡ closing v f o → InPart st

-- behind its colon
data Divided (st : State) : Type 0 where
  colons : (n : List ℕ) (o : List (List ℕ)) → st ≡ colon n o → Divided st
  attribute_colons : (a n : List ℕ) (seen o : List (List ℕ)) → st ≡ attribute_colon a n seen o → Divided st
  closes_second : (v : List ℕ) (o : List (List ℕ)) → st ≡ closing v true o → Divided st

only_goes : (t : Bool) (k next : State) → only t k ≡ goes next → (t ≡ true) × (next ≡ k)
only_goes true k next e = (refl, sym (goes_same e))
only_goes false k next e = absurd (goes_dead (sym e))

closing_goes : (v : List ℕ) (f : Bool) (o : List (List ℕ)) (x : ℕ) (next : State) → Letter x → step (closing v f o) x ≡ goes next
    → (w : List ℕ) × (next ≡ closing w (is 58 x) o)
closing_goes [] f o x next h q = absurd (goes_dead (sym q ∙ closed_step f o x h))
closing_goes (y ∷ w) f o x next h q =
    let e = only_goes (is y x) (closing w (is 58 y) o) next q in
    (w, e.1 ∙ ap (λ (b : ℕ). closing w (is 58 b) o) (sym (eqb-true x y e.0)))

-- a step from a state that is known
from : (st known : State) (x : ℕ) (next : State) → st ≡ known → step st x ≡ goes next → step known x ≡ goes next
from st known x next e q = subst (λ (k : State). step k x ≡ goes next) e q

name_goes : (st next : State) (x : ℕ) → InPart st → is_name class_of x ≡ true → step st x ≡ goes next → InPart next
name_goes st next x (begun (opens g e)) h q =
    named (x ∷ []) (names g) (only_goes (not (is_behind g) && is_start class_of x) _ next
    (sym (opened_step g x (name_letter x h)) ∙ from st (opened g) x next e q)).1
name_goes st next x (begun (tags n seen o e)) h q =
    attributed (x ∷ []) n seen o
    (only_goes (is_start class_of x) _ next (sym (tag_step n seen o x (name_letter x h)) ∙ from st (in_tag true n seen o) x next e q)).1
name_goes st next x (begun (closes v o e)) h q =
    let c = closing_goes v true o x next (name_letter x h) (from st (closing v true o) x next e q) in closings c.0 (is 58 x) o c.1
name_goes st next x (named n o e) h q =
    named (n ++ (x ∷ [])) o (sym (goes_same (sym (rw h) ∙ from st (name false n o) x next e q)))
name_goes st next x (attributed a n seen o e) h q =
    attributed (a ++ (x ∷ [])) n seen o (sym (goes_same (sym (rw h) ∙ from st (attribute false a n seen o) x next e q)))
name_goes st next x (closings v f o e) h q =
    let c = closing_goes v f o x next (name_letter x h) (from st (closing v f o) x next e q) in closings c.0 (is 58 x) o c.1

-- no name begins with a colon
none_begins : (t : Bool) (k next : State) → only (t && is_start class_of 58) k ≡ goes next → ⊥
none_begins t k next q =
    true≢false (sym (and_parts t (is_start class_of 58) (only_goes (t && is_start class_of 58) k next q).0).1 ∙ colon_no_start)

colon_goes : (st next : State) → InPart st → step st 58 ≡ goes next → Divided next
colon_goes st next (begun (opens g e)) q =
    absurd (none_begins (not (is_behind g)) _ next (sym (opened_step g 58 colon_letter) ∙ from st (opened g) 58 next e q))
colon_goes st next (begun (tags n seen o e)) q =
    absurd (none_begins true _ next (sym (tag_step n seen o 58 colon_letter) ∙ from st (in_tag true n seen o) 58 next e q))
colon_goes st next (begun (closes v o e)) q =
    let c = closing_goes v true o 58 next colon_letter (from st (closing v true o) 58 next e q) in closes_second c.0 o c.1
colon_goes st next (named n o e) q =
    colons (n ++ (58 ∷ [])) o (sym (goes_same (sym (rw colon_no_name) ∙ from st (name false n o) 58 next e q)))
colon_goes st next (attributed a n seen o e) q =
    attribute_colons (a ++ (58 ∷ [])) n seen o (sym (goes_same (sym (rw colon_no_name) ∙ from st (attribute false a n seen o) 58 next e q)))
colon_goes st next (closings v f o e) q =
    let c = closing_goes v f o 58 next colon_letter (from st (closing v f o) 58 next e q) in closes_second c.0 o c.1

module _ (l : Limits) (s : List ℕ) (p : ℕ) (st : State) (here : At l s st p) where
  abbrev PartTo : ℕ → Type 0
  PartTo e = (x : State) × At l s x e × InPart x

  over_run : (i : ℕ) → ends (is_name class_of) s i < p → PartTo i → PartTo (ends (is_name class_of) s i)
  over_run i less in-part =
      (run_keeps (is_name class_of) s (λ (j : ℕ). (ends (is_name class_of) s j < p) × PartTo j) over i (less, in-part)).1
    where
      over : (j : ℕ) → has (is_name class_of) s j ≡ true → (ends (is_name class_of) s j < p) × PartTo j
          → (ends (is_name class_of) s (j + 1) < p) × PartTo (j + 1)
      over j h q =
          let a = (goes_at l s p st here j q.1.0 q.1.1 (omega (arith, q.0, ends_from (is_name class_of) s j))).1 in (
            omega (arith, q.0, ends_more (is_name class_of) s j h),
            (a.0, a.2, name_goes q.1.0 a.0 (byte_at s j) q.1.2 (has_byte (is_name class_of) s j h) a.1),
          )

  -- behind the colon at e
  divided_at : (e : ℕ) → PartTo e → has (is 58) s e ≡ true → p ≡ e + 1 → Divided st
  divided_at e y colon-there p-is = go (goes_at l s p st here e y.0 y.1 (omega arith)).1
    where
      go : (next : State) × (step y.0 (byte_at s e) ≡ goes next) × At l s next (e + 1) → Divided st
      go b =
          subst Divided (sym (state_one l s p st b.0 here (subst (At l s b.0) (sym p-is) b.2)))
          (colon_goes y.0 b.0 y.2 (ap (step y.0) (sym (byte_is 58 s e colon-there)) ∙ b.1))

  second_divided : (at q : ℕ) → MarkupMayBegin (take at s) → FirstPart s at q → has (is 58) s (ends (is_name class_of) s q) ≡ true
      → p ≡ ends (is_name class_of) s q + 1 → Divided st
  second_divided at q may part colon-there p-is =
      let a = (alive_before l s p q st here (omega (arith, ends_from (is_name class_of) s q))).1 in
      divided_at (ends (is_name class_of) s q)
      (over_run q (omega arith) (a.from, a.here, begun (first_begun l s q a.from a.here at may part))) colon-there p-is

pub part_inverse : (l : Limits) (s : List ℕ) (p : ℕ) (st : State) → At l s st p → (at : ℕ) → MarkupMayBegin (take at s) → PartStands s at p
    → has (is_name class_of) s p ≡ true → long l s p ≡ true
    → ((g : Ground) → st ≡ ground g → ⊥) × ((due l s st p ≡ true) ⊎ ((p < length s) × (step st (byte_at s p) ≡ dead)))
part_inverse l s p st here at may (readable.first part) there far = go (first_begun l s p st here at may part)
  where
    go : Begun st → Ends l s p st
    go (opens g e) = subst (Ends l s p) (sym e) (ends_opened l s p there far g)
    go (tags n seen o e) = subst (Ends l s p) (sym e) (ends_tag_lem l s p there far n seen o)
    go (closes v o e) = subst (Ends l s p) (sym e) (ends_closing l s p there far v o)
part_inverse l s p st here at may (readable.second q part colon-there p-is) there far =
    go (second_divided l s p st here at q may part colon-there p-is)
  where
    go : Divided st → Ends l s p st
    go (colons n o e) = subst (Ends l s p) (sym e) (ends_colon l s p there far n o)
    go (attribute_colons a n seen o e) = subst (Ends l s p) (sym e) (ends_attribute_colon l s p there far a n seen o)
    go (closes_second v o e) = subst (Ends l s p) (sym e) (ends_closing l s p there far v o)
