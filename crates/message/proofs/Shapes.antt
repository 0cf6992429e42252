-- A name that was read whole, by its parts: it is the same under any limit that it is read with, and a limit that refuses it does so no
-- later than it ends. Assumes nothing.
use Prim.Native.Nat.{ℕ, ◌+◌, ◌-◌, ◌≤◌}
use mathlib.Core.Path.{◌≡◌, refl, sym, ◌∙◌, ap, subst}
use mathlib.Core.Logic.{⊎_elim}
use mathlib.Core.Bool.{Bool, true, false, cond}
use mathlib.Core.List.{List}
use native.Mathlib.Omega.{arith}
use lib.Dec.{ltb}
use Rattle.message.specs.Class.{is_start, is_name}
use Rattle.message.specs.Reading.{Reading, ◌>>=◌, is, has, one, ends}
use Rattle.message.specs.Reading.Reading.{whole, refused}
use Rattle.message.specs.Names.{Named, short_at, part_at, name_at}
use Rattle.message.proofs.Laws.{went, cond_true, cond_false, one_yes, one_has, ends_from}
use Rattle.message.proofs.Trees.{whole_same, unread}
use Rattle.message.proofs.Facts.{then_whole, then_refused, refused_then}

-- ---- a part

module _ (class : ℕ → ℕ) (s : List ℕ) (at : ℕ) where
  short_ends : (most e : ℕ) → short_at class most s at ≡ whole e → e ≡ ends (is_name class) s at
  unfolding short_at
  short_ends most e q = go (ltb most (ends (is_name class) s at - at)) q
    where
      go : (t : Bool) → cond t (refused 14 at) (whole (ends (is_name class) s at)) ≡ whole e → e ≡ ends (is_name class) s at
      go true h = unread h
      go false h = sym (whole_same h)

  part_ends : (most e : ℕ) → part_at class most s at ≡ whole e → (has (is_start class) s at ≡ true) × (e ≡ ends (is_name class) s at)
  unfolding part_at
  part_ends most e q =
      let x = then_whole (λ next. short_at class most s at) (one (is_start class) s at) e q in
      ((one_has (is_start class) s at x.0 x.1).0, short_ends most e x.2)

  -- one that begins there is refused there
  part_refused : (most n q : ℕ) → has (is_start class) s at ≡ true → part_at class most s at ≡ refused n q → q ≡ at
  unfolding part_at short_at
  part_refused most n q starts r =
      go (ltb most (ends (is_name class) s at - at)) (went (λ next. short_at class most s at) (one_yes (is_start class) s at starts) ∙ r)
    where
      go : (t : Bool) → cond t (refused 14 at) (whole (ends (is_name class) s at)) ≡ refused n q → q ≡ at
      go true e = cc
      go false e = unread (sym e)

-- ---- a name

module _ (class : ℕ → ℕ) (s : List ℕ) (b : ℕ) where
  abbrev first : ℕ
  first = ends (is_name class) s b

  pub data Shape (name : Named) : Type 0 where
    single : has (is_start class) s b ≡ true → has (is 58) s first ≡ false → name.local ≡ b → name.end ≡ first → Shape name
    double : has (is_start class) s b ≡ true → has (is 58) s first ≡ true → name.local ≡ first + 1
        → has (is_start class) s name.local ≡ true → name.end ≡ ends (is_name class) s name.local → Shape name

  -- behind the first part
  abbrev onward : ℕ → ℕ → Reading Named
  onward most end =
      cond (has (is 58) s end) (part_at class most s (end + 1) >>= (λ last. whole (record { local = end + 1; end = last })))
      (whole (record { local = b; end = end }))

  pub name_shape : (most : ℕ) (name : Named) → name_at class most s b ≡ whole name → Shape name
  unfolding name_at
  name_shape most name h =
      let x = then_whole (onward most) (part_at class most s b) name h in
      let y = part_ends class s b most x.0 x.1 in
      go y.0 (has (is 58) s first) refl (sym (ap (onward most) y.1) ∙ x.2)
    where
      go : has (is_start class) s b ≡ true → (t : Bool) → has (is 58) s first ≡ t
          → cond t (part_at class most s (first + 1) >>= (λ last. whole (record { local = first + 1; end = last }))) (whole (record { local = b; end = first })) ≡ whole name
          → Shape name
      go starts true colon r =
          let x = then_whole _ (part_at class most s (first + 1)) name r in
          let y = part_ends class s (first + 1) most x.0 x.1 in
          subst Shape (whole_same x.2) (double starts colon refl y.0 y.1)
      go starts false none r = subst Shape (whole_same r) (single starts none refl refl)

  -- the name that stands there, if one does
  abbrev name_of : Named
  name_of =
      cond (has (is 58) s first) (record { local = first + 1; end = ends (is_name class) s (first + 1) }) (record { local = b; end = first })

  pub name_is : (most : ℕ) (name : Named) → name_at class most s b ≡ whole name → (has (is_start class) s b ≡ true) × (name ≡ name_of)
  name_is most name h = go (name_shape most name h)
    where
      named : {local local' end end' : ℕ} → local ≡ local' → end ≡ end'
          → ◌≡◌ {A = Named} (record { local = local; end = end }) (record { local = local'; end = end' })
      named p q = rw (p, q)

      go : Shape name → (has (is_start class) s b ≡ true) × (name ≡ name_of)
      go (single starts none local run) = (starts, named local run ∙ cond_false _ none)
      go (double starts colon local starts' run) = (starts, named local (run ∙ ap (ends (is_name class) s) local) ∙ cond_true _ colon)

  pub name_same : (most most' : ℕ) (n n' : Named) → name_at class most s b ≡ whole n → name_at class most' s b ≡ whole n' → n ≡ n'
  name_same most most' n n' q q' = (name_is most n q).1 ∙ sym (name_is most' n' q').1

  pub name_refused : (most most' n q : ℕ) (name : Named) → name_at class most s b ≡ whole name → name_at class most' s b ≡ refused n q
      → q ≤ name.end
  unfolding name_at
  name_refused most most' n q name h r = go (name_shape most name h)
    where
      -- in the first part, or behind it
      parts : has (is_start class) s b ≡ true → b ≤ name.end → (onward most' first ≡ refused n q → q ≤ name.end) → q ≤ name.end
      parts starts far behind =
          ⊎_elim (λ e. omega (arith, part_refused class s b most' n q starts e))
          (λ x. behind (sym (ap (onward most') (part_ends class s b most' x.0 x.1).1) ∙ x.2))
          (then_refused (onward most') (part_at class most' s b) r)

      go : Shape name → q ≤ name.end
      go (single starts none local run) =
          parts starts (omega (arith, run, ends_from (is_name class) s b)) (λ e. unread (sym (cond_false _ none ∙ e)))
      go (double starts colon local starts' run) =
          parts starts (omega (arith, local, run, ends_from (is_name class) s b, ends_from (is_name class) s name.local))
          (λ e.
          let second = refused_then (part_at class most' s (first + 1)) (λ last. record { local = first + 1; end = last })
          (cond_true _ colon ∙ e) in
          omega (
            arith,
            local,
            run,
            ends_from (is_name class) s name.local,
            part_refused class s (first + 1) most' n q (subst (λ (i : ℕ). has (is_start class) s i ≡ true) local starts') second,
          ))
