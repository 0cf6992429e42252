-- A part of a history is a history: up to a place, at it and after it. Assumes nothing.
use mathlib.Core.Path.{◌≡◌, refl, sym, ap₂, subst⁻¹}
use mathlib.Core.List.{List, [], ◌∷◌, ◌++◌}
use Rattle.conduct.specs.Session.{Session}
use Rattle.conduct.specs.Step.{step}
use Rattle.conduct.specs.History.{Entry, entry, history, session_after}
use Rattle.conduct.specs.declared.Call.{Call}

pub front : (cs : List Call) (s : Session) (a b : List Entry) → history s cs ≡ a ++ b → (ds : List Call) × (a ≡ history s ds)
front cs s [] b e = ([], refl)
front [] s (y ∷ a) b e = cc
front (c ∷ cs) s (y ∷ a) b e =
    let here : entry s c ≡ y = cc in
    let later : history (step s c).next cs ≡ a ++ b = cc in
    let r = front cs (step s c).next a b later in
    (c ∷ r.0, ap₂ ◌∷◌ (sym here) r.1)

pub place : (cs : List Call) (s : Session) (a b : List Entry) (x : Entry) → history s cs ≡ a ++ x ∷ b
    → (ds : List Call) × (d : Call) × (es : List Call)
    × (a ≡ history s ds) × (x ≡ entry (session_after s ds) d) × (b ≡ history (step (session_after s ds) d).next es)
place [] s [] b x e = cc
place [] s (y ∷ a) b x e = cc
place (c ∷ cs) s [] b x e =
    let here : entry s c ≡ x = cc in
    let later : history (step s c).next cs ≡ b = cc in
    ([], c, cs, refl, sym here, sym later)
place (c ∷ cs) s (y ∷ a) b x e =
    let here : entry s c ≡ y = cc in
    let later : history (step s c).next cs ≡ a ++ x ∷ b = cc in
    let r = place cs (step s c).next a b x later in
    (c ∷ r.0, r.1, r.2, ap₂ ◌∷◌ (sym here) r.3, r.4, r.5)

-- so what holds of histories holds of these parts
module _ (cs : List Call) (s : Session) where
  pub at_front : (P : List Entry → Type 0) → ((ds : List Call) → P (history s ds)) → (a b : List Entry) → history s cs ≡ a ++ b → P a
  at_front P h a b e =
      let r = front cs s a b e in
      subst⁻¹ P r.1 (h r.0)

  pub at_place : (P : List Entry → Entry → Type 0) → ((ds : List Call) (d : Call) → P (history s ds) (entry (session_after s ds) d))
      → (a b : List Entry) (x : Entry) → history s cs ≡ a ++ x ∷ b → P a x
  at_place P h a b x e =
      let r = place cs s a b x e in
      subst⁻¹ (λ (y : List Entry). P y x) r.3 (subst⁻¹ (P (history s r.0)) r.4 (h r.0 r.1))
