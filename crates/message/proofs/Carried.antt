-- The attributes of a start tag that was read: what is found under a name is what the tag carries (specs/Seven), and the reverse.
-- Assumes nothing.
use Prim.Native.Nat.{ℕ, zero, suc, ◌+◌}
use mathlib.Core.Path.{◌≡◌, refl, sym, ◌∙◌, ap, subst}
use mathlib.Core.Logic.{◌⊎◌, inl, inr, ⊎_elim}
use mathlib.Core.Bool.{Bool, true, false, cond}
use mathlib.Core.List.{List, ◌∷◌}
use Rattle.std.proofs.lemmas.Bool.{both_ways, false_from_ne_true}
use Rattle.laws.specs.Bytes.{same_bytes}
use Rattle.laws.proofs.Tails.{same_refl, same_eq}
use Rattle.message.specs.Class.{class_of, is_start, is_space}
use Rattle.message.specs.Reading.{Reading, ◌>>=◌, has, blanks}
use Rattle.message.specs.Reading.Reading.{whole}
use Rattle.message.specs.Names.{Named, name_at}
use Rattle.message.specs.Limits.{Limits}
use Rattle.message.specs.Elements.{part, Quoted, ends_tag, quoted_at, fresh_at, attributes_at}
use Rattle.message.specs.Messages.{attribute_called}
use Rattle.message.specs.Readable.{AttributeStands}
use Rattle.message.specs.Seven.{Carries}
use Rattle.message.specs.Seven.Carries.{this, later}
use Rattle.message.proofs.Laws.{cond_true, cond_false}
use Rattle.message.proofs.Trees.{whole_same, unread, fresh_whole}
use Rattle.message.proofs.Bytes.{has_fails, end_no_start}
use Rattle.message.proofs.Facts.{then_whole}
use Rattle.message.proofs.Shapes.{name_is, name_same}

-- ---- the attributes one by one

-- no name begins at the end of a tag
no_name : (s : List ℕ) (at : ℕ) → has ends_tag s at ≡ true → has (is_start class_of) s at ≡ true → ⊥
no_name s at end begin = both_ways _ (has_fails ends_tag (is_start class_of) end_no_start s at end) begin

module _ (s : List ℕ) (l : Limits) where
  abbrev place : ℕ → ℕ
  place at = blanks class_of s at

  record Turn (fuel : ℕ) (seen : List (List ℕ)) (at stop : ℕ) : Type 0 where
    space : has (is_space class_of) s at ≡ true
    name : Named
    named : name_at class_of l.part s (place at) ≡ whole name
    value : Quoted
    valued : quoted_at class_of s name.end ≡ whole value
    further : attributes_at class_of s l fuel (part s (place at) name.end ∷ seen) (value.to + 1) ≡ whole stop

  turn : (fuel : ℕ) (seen : List (List ℕ)) (at stop : ℕ) → attributes_at class_of s l (suc fuel) seen at ≡ whole stop
      → (has ends_tag s (place at) ≡ true) ⊎ Turn fuel seen at stop
  unfolding attributes_at
  turn fuel seen at stop q = go (has ends_tag s (place at)) refl q
    where
      onward : ℕ → Quoted → Reading ℕ
      onward e value = attributes_at class_of s l fuel (part s (place at) e ∷ seen) (value.to + 1)

      another : ℕ → Reading ℕ
      another e = quoted_at class_of s e >>= onward e

      go : (t : Bool) → has ends_tag s (place at) ≡ t
          → cond t (whole (place at)) (fresh_at class_of s l seen at (place at) >>= another) ≡ whole stop
          → (has ends_tag s (place at) ≡ true) ⊎ Turn fuel seen at stop
      go true e h = inl e
      go false e h =
          let x = then_whole another (fresh_at class_of s l seen at (place at)) stop h in
          let f = fresh_whole class_of s l seen at (place at) x.0 x.1 in
          let more : another f.name.end ≡ whole stop = ap another (sym f.ends) ∙ x.2 in
          let v = then_whole (onward f.name.end) (quoted_at class_of s f.name.end) stop more in
          inr (record { space = f.space; name = f.name; named = f.named; value = v.0; valued = v.1; further = v.2 })

  -- what is found stands there
  module _ (w : List ℕ) where
    abbrev stands : {fuel : ℕ} {seen : List (List ℕ)} {at stop : ℕ} (t : Turn fuel seen at stop) → AttributeStands s at (t.value.to + 1)
    stands t = record { space = t.space; name = t.name; named = (l.part, t.named); value = t.value; valued = t.valued; ends = refl }

    -- what is found in a turn: the value there if the name is w, else what is found further on
    turn_called : (fuel : ℕ) (seen : List (List ℕ)) (at stop : ℕ) (t : Turn fuel seen at stop)
        → attribute_called class_of l s (suc fuel) w at ≡ cond (same_bytes (part s (place at) t.name.end) w) (whole t.value) (attribute_called class_of l s fuel w (t.value.to + 1))
    unfolding attribute_called
    turn_called fuel seen at stop t = rw (t.named, t.valued)

    called_named : (fuel at : ℕ) (v : Quoted) → attribute_called class_of l s (suc fuel) w at ≡ whole v
        → has (is_start class_of) s (place at) ≡ true
    unfolding attribute_called
    called_named fuel at v q =
        let x = then_whole _ (name_at class_of l.part s (place at)) v q in (name_is class_of s (place at) l.part x.0 x.1).0

    ended : {at to : ℕ} → AttributeStands s at to → has ends_tag s (place at) ≡ true → ⊥
    ended {at = at} a e = no_name s (place at) e (name_is class_of s (place at) a.named.0 a.name a.named.1).0

    pub called_carries : (fuel : ℕ) (seen : List (List ℕ)) (at stop : ℕ) (v : Quoted) → attributes_at class_of s l fuel seen at ≡ whole stop
        → attribute_called class_of l s fuel w at ≡ whole v → Carries s w at v
    unfolding attributes_at
    called_carries zero seen at stop v q h = unread q
    called_carries (suc fuel) seen at stop v q h =
        ⊎_elim past
        (λ t. go t (called_carries fuel (part s (place at) t.name.end ∷ seen) (t.value.to + 1) stop v t.further)
        (same_bytes (part s (place at) t.name.end) w) refl (sym (turn_called fuel seen at stop t) ∙ h))
        (turn fuel seen at stop q)
      where
        past : has ends_tag s (place at) ≡ true → Carries s w at v
        past e = absurd (no_name s (place at) e (called_named fuel at v h))

        go : (t : Turn fuel seen at stop)
            → (attribute_called class_of l s fuel w (t.value.to + 1) ≡ whole v → Carries s w (t.value.to + 1) v) → (b : Bool)
            → same_bytes (part s (place at) t.name.end) w ≡ b
            → cond b (whole t.value) (attribute_called class_of l s fuel w (t.value.to + 1)) ≡ whole v → Carries s w at v
        go t further true same q =
            subst (Carries s w at) (whole_same q) (this (stands t) (same_eq (part s (place at) t.name.end) w same))
        go t further false same q = later (stands t) (λ e. both_ways _ same (ap (λ (u : List ℕ). same_bytes u w) e ∙ same_refl w)) (further q)

    -- and what stands there is found
    turn_same : {fuel : ℕ} {seen : List (List ℕ)} {at to stop : ℕ} (a : AttributeStands s at to) (t : Turn fuel seen at stop)
        → (a.name ≡ t.name) × (a.value ≡ t.value) × (to ≡ t.value.to + 1)
    turn_same {at = at} a t =
        let n : a.name ≡ t.name = name_same class_of s (place at) a.named.0 l.part a.name t.name a.named.1 t.named in
        let v : a.value ≡ t.value = whole_same (sym a.valued ∙ (ap (λ (m : Named). quoted_at class_of s m.end) n ∙ t.valued)) in
        (n, v, sym a.ends ∙ ap (λ (u : Quoted). u.to + 1) v)

    pub carries_called : (fuel : ℕ) (seen : List (List ℕ)) (at stop : ℕ) (v : Quoted) → attributes_at class_of s l fuel seen at ≡ whole stop
        → Carries s w at v → attribute_called class_of l s fuel w at ≡ whole v
    unfolding attributes_at
    carries_called zero seen at stop v q c = unread q
    carries_called (suc fuel) seen at stop _ q (this a same) = ⊎_elim (λ e. absurd (ended a e)) go (turn fuel seen at stop q)
      where
        go : Turn fuel seen at stop → attribute_called class_of l s (suc fuel) w at ≡ whole a.value
        go t =
            let x = turn_same a t in
            let e : part s (place at) t.name.end ≡ w = ap (λ (n : Named). part s (place at) n.end) (sym x.0) ∙ same in
            turn_called fuel seen at stop t
            ∙ (sym (cond_true _ (ap (λ (u : List ℕ). same_bytes u w) e ∙ same_refl w)) ∙ ap whole (sym x.1))
    carries_called (suc fuel) seen at stop v q (later {to = to} a other c) =
        ⊎_elim (λ e. absurd (ended a e))
        (λ t. go t (carries_called fuel (part s (place at) t.name.end ∷ seen) (t.value.to + 1) stop v t.further))
        (turn fuel seen at stop q)
      where
        go : (t : Turn fuel seen at stop)
            → (Carries s w (t.value.to + 1) v → attribute_called class_of l s fuel w (t.value.to + 1) ≡ whole v)
            → attribute_called class_of l s (suc fuel) w at ≡ whole v
        go t further =
            let x = turn_same a t in
            let named : part s (place at) a.name.end ≡ part s (place at) t.name.end =
            ap (λ (n : Named). part s (place at) n.end) x.0 in
            let differs : same_bytes (part s (place at) t.name.end) w ≡ false =
            false_from_ne_true _ (λ e. other (named ∙ same_eq (part s (place at) t.name.end) w e)) in
            turn_called fuel seen at stop t ∙ (sym (cond_false _ differs) ∙ further (subst (λ (i : ℕ). Carries s w i v) x.2 c))
