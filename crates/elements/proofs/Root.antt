-- The root, by what is held on to of it, and what stands around it. Assumes nothing.
use Prim.Native.Nat.{ℕ, suc}
use mathlib.Core.Path.{◌≡◌, refl, ◌∙◌}
use mathlib.Core.List.{List}
use lib.ListN.{length}
use Rattle.message.specs.Reading.{Reading, ◌>>=◌}
use Rattle.message.specs.Reading.Reading.{whole, refused}
use Rattle.message.specs.Markup.{around_at}
use Rattle.message.specs.Limits.{link_limits}
use Rattle.message.specs.Elements.{Element, end_at, element_at, root_at}
use Rattle.message.proofs.Facts.{then_same}
use Rattle.elements.specs.Seen.{seen_of, seen}
use Rattle.elements.proofs.ContentLoop.{then_then}

module _ (class : ℕ → ℕ) (s : List ℕ) where
  -- behind the root
  abbrev pub behind : {A : Type 0} → ℕ → A → Reading A
  behind place x = around_at class (suc (length s)) s place >>= (λ last. end_at s last >>= (λ end. whole x))

  behind_seen : (e : Element) → seen s (behind e.tag.end e) ≡ behind e.tag.end (seen_of s e)
  behind_seen e =
      then_then (around_at class (suc (length s)) s e.tag.end) _ _
      ∙ then_same _ _ (around_at class (suc (length s)) s e.tag.end) (λ last q. then_then (end_at s last) _ _)

  element_seen : (a : Reading Element) → seen s (a >>= (λ e. behind e.tag.end e)) ≡ (seen s a >>= (λ held. behind held.end held))
  element_seen (whole e) = behind_seen e
  element_seen (refused n p) = refl

  pub root_seen : (at : ℕ) → seen s (root_at class s link_limits at) ≡ (around_at class (suc (length s)) s at >>= (λ begin. seen s (element_at class s link_limits 32 begin) >>= (λ held. behind held.end held)))
  unfolding root_at
  root_seen at =
      then_then (around_at class (suc (length s)) s at) _ _
      ∙ then_same _ _ (around_at class (suc (length s)) s at) (λ begin q. element_seen (element_at class s link_limits 32 begin))
