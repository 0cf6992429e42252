-- The names of attributes that are held, each by where it stands. Assumes nothing.
use Prim.Native.Nat.{ℕ}
use mathlib.Core.Path.{◌≡◌, refl, ◌∙◌, ap}
use mathlib.Core.Bool.{Bool, true, false, ◌||◌}
use mathlib.Core.List.{List, [], ◌∷◌, ◌++◌}
use Rattle.std.specs.Prelude.{map, length}
use Rattle.std.proofs.lemmas.List.{reverse-append, length-reverse, length-map, map-append}
use Rattle.laws.specs.Bytes.{same_bytes}
use Rattle.laws.proofs.Tests.{iff_same}
use Rattle.laws.proofs.Tails.{same_refl, same_eq}
use Rattle.message.specs.Elements.{part, is_known}
use Rattle.elements.specs.Held.{names_of, one_is}
use Rattle.elements.specs.declared.attributes.Span.{Span}

-- whether a name is known does not hang on their order
known_last : (name n : List ℕ) (u : List (List ℕ)) → is_known name (u ++ n ∷ []) ≡ (same_bytes name n || is_known name u)
known_last name n [] = refl
known_last name n (m ∷ u) = ap (λ (t : Bool). same_bytes name m || t) (known_last name n u) ∙ swapped (same_bytes name m) (same_bytes name n) (is_known name u)
  where
    swapped : (x y z : Bool) → (x || (y || z)) ≡ (y || (x || z))
    swapped true true z = refl
    swapped true false z = refl
    swapped false true z = refl
    swapped false false z = refl

same_turned : (u v : List ℕ) → same_bytes u v ≡ same_bytes v u
same_turned u v = iff_same _ _ (λ h. turn u v (same_eq u v h)) (λ h. turn v u (same_eq v u h))
  where
    turn : (u v : List ℕ) → u ≡ v → same_bytes v u ≡ true
    turn u v q = rw q (same_refl v)

module _ (s : List ℕ) where
  pub names_more : (held : List Span) (name : Span) → names_of s (held ++ name ∷ []) ≡ part s name.from name.to ∷ names_of s held
  unfolding names_of
  names_more held name = rw (map-append (λ (n : Span). part s n.from n.to) held (name ∷ [])) (reverse-append (map (λ (n : Span). part s n.from n.to) held) (part s name.from name.to ∷ []))

  pub length_names : (held : List Span) → length (names_of s held) ≡ length held
  unfolding names_of
  length_names held = length-reverse (map (λ (n : Span). part s n.from n.to) held) ∙ length-map held (λ (n : Span). part s n.from n.to)

  pub known_held : (name : List ℕ) (held : List Span) → is_known name (names_of s held) ≡ one_is s name held
  unfolding names_of one_is
  known_held name [] = refl
  known_held name (n ∷ held) =
      ap (is_known name) (reverse-append (part s n.from n.to ∷ []) (map (λ (m : Span). part s m.from m.to) held))
      ∙ known_last name (part s n.from n.to) (names_of s held)
      ∙ ap (λ (t : Bool). t || is_known name (names_of s held)) (same_turned name (part s n.from n.to))
      ∙ ap (λ (t : Bool). same_bytes (part s n.from n.to) name || t) (known_held name held)
