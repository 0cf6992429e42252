-- A message is readable exactly if the machine goes through it to its end; so bytes have a readable continuation exactly if the machine
-- goes through them. Assumes nothing.
use Prim.Native.Nat.{ℕ, suc, ◌+◌, ◌<◌, ◌≤◌}
use mathlib.Core.Path.{◌≡◌, refl, sym, ◌∙◌, ap, subst}
use mathlib.Core.Logic.{◌⊎◌, ⊎_elim}
use mathlib.Core.Bool.{false, true≢false}
use mathlib.Core.List.{List, [], ◌∷◌, ◌++◌}
use native.Mathlib.Omega.{arith}
use native.Mathlib.Numerals.{add-one}
use lib.ListN.{length, take, drop, take-append-drop, drop_of_length-le}
use lib.Seq.{take-length, take_all, take-suc, drop-cons}
use Rattle.std.proofs.lemmas.Bool.Decides.{nat_tests}
use Rattle.message.specs.Class.{class_of}
use Rattle.message.specs.Reading.{Reading, byte_at}
use Rattle.message.specs.Reading.Reading.{whole, refused}
use Rattle.message.specs.Limits.{Limits}
use Rattle.message.specs.Elements.{Element, document_at}
use Rattle.message.specs.Readable.{Readable, Continues, a_comment, MarkupMayBegin}
use Rattle.message.specs.Nine.{NineAt, dead as dead-there, unfinished}
use Rattle.message.proofs.Automaton.{Ground, first, behind, State, ground, Next, dead, goes, step, rest, steps}
use Rattle.message.proofs.Dues.{may_end, At}
use Rattle.message.proofs.Going.{MarkedAt, Cause, dies, cut, deep, crowded, opens, longs, Outcome}
use Rattle.message.proofs.GoingElements.{going_document}
use Rattle.message.proofs.Raising.{document_rest}
use Rattle.message.proofs.Endings.{finish, finishes}
use Rattle.message.proofs.Ways.{steps_on, steps_dead, then_steps, steps_append, steps_at, at_within, goes_dead, goes_same}
use Rattle.message.proofs.Openings.{opening_ends}
use Rattle.message.proofs.Past.{at_first}
use Rattle.message.proofs.Sound.{sane_at}
use Rattle.message.proofs.Inverse.{comment_ground, ground_comment}

-- ---- what the machine does over bytes that are cut in two

-- from the state behind the first bytes
pub steps_from : (st : State) (u v : List ℕ) (mid : State) → steps st u ≡ goes mid → steps st (u ++ v) ≡ steps mid v
steps_from st u v mid q = steps_append u v st ∙ ap (λ (n : Next). then_steps n v) q

-- it was not dead behind them
alive_first : (st : State) (u v : List ℕ) (end : State) → steps st (u ++ v) ≡ goes end
    → (mid : State) × (steps st u ≡ goes mid) × (steps mid v ≡ goes end)
alive_first st u v end q = go (steps st u) refl
  where
    go : (n : Next) → steps st u ≡ n → (mid : State) × (steps st u ≡ goes mid) × (steps mid v ≡ goes end)
    go dead e = absurd (goes_dead (sym (sym (steps_append u v st ∙ ap (λ (n : Next). then_steps n v) e) ∙ q)))
    go (goes mid) e = (mid, e, sym (steps_from st u v mid e) ∙ q)

-- ---- messages

pub whole_fits : (l : Limits) (s : List ℕ) (root : Element) → document_at class_of s l 0 ≡ whole root → length s ≤ l.bytes
unfolding document_at
whole_fits l s root q = grind (arith, nat_tests)

pub readable_ends : (s : List ℕ) → Readable s → steps (ground first) s ≡ goes (ground behind)
readable_ends s readable =
    let l : Limits = readable.0 in
    let at_end : At l s (ground behind) (length s) = subst (Outcome l s (λ root. At l s (ground behind) (length s))) readable.2
    (going_document l s (whole_fits l s readable.1 readable.2)) in
    ap (steps (ground first)) (sym (take-length s)) ∙ steps_at l s (length s) (ground behind) at_end

-- limits out of the way
abbrev free : List ℕ → Limits
free s = record { bytes = length s; levels = length s; attributes = length s; part = length s }

module _ (s : List ℕ) (ends : steps (ground first) s ≡ goes (ground behind)) where
  -- from a state on the way, over what is left
  over_rest : (p : ℕ) (st : State) → At (free s) s st p → steps st (drop p s) ≡ goes (ground behind)
  over_rest p st here =
      let x = alive_first (ground first) (take p s) (drop p s) (ground behind) (ap (steps (ground first)) (take-append-drop p s) ∙ ends) in
      ap (λ (mid : State). steps mid (drop p s)) (goes_same (sym (steps_at (free s) s p st here) ∙ x.1)) ∙ x.2

  no_cause : (st : State) (p n : ℕ) → At (free s) s st p → Cause (free s) s st p n → (n ≡ 9) ⊎ (n ≡ 12) → ⊥
  unfolding steps
  no_cause st p n here (dies within dying) which =
      goes_dead (sym (over_rest p st here) ∙ ap (steps st) (drop-cons s p 0 within) ∙ steps_dead st (byte_at s p) (drop (suc p) s) dying)
  no_cause st p n here (cut out more) which =
      let last : st ≡ ground behind = goes_same (sym (ap (steps st) (drop_of_length-le s {i = p} out)) ∙ over_rest p st here) in
      true≢false (sym (ap may_end last) ∙ more)
  no_cause st p n here (deep g q tag far levels) which = ⊎_elim (λ e. omega arith) (λ e. omega arith) which
  no_cause st p n here (crowded m seen o q start many crowd) which = ⊎_elim (λ e. omega arith) (λ e. omega arith) which
  no_cause st p n here (opens g q tag opening) which =
      opening_ends (free s) s g p (at_first (free s) s p g (subst (λ (h : State). At (free s) s h p) q here)) tag opening (ground behind)
      (subst (λ (h : State). steps h (drop p s) ≡ goes (ground behind)) q (over_rest p st here)) refl
  no_cause st p n here (longs due long next q roomy part) which = ⊎_elim (λ e. omega arith) (λ e. omega arith) which

  pub ends_readable : Readable s
  ends_readable = go (document_at class_of s (free s) 0) refl (going_document (free s) s (omega arith))
    where
      go : (r : Reading Element) → document_at class_of s (free s) 0 ≡ r
          → Outcome (free s) s (λ root. At (free s) s (ground behind) (length s)) r → Readable s
      go (whole root) q outcome = (free s, root, q)
      go (refused n p) q stuck =
          absurd (no_cause stuck.0 p n stuck.1 stuck.2
          (document_rest s (free s)
          (record { bytes = omega arith; levels = omega arith; attributes = omega arith; part = omega arith }) n p q))

-- ---- bytes that can be continued

state_continues : (w : List ℕ) (st : State) → steps (ground first) w ≡ goes st → Continues w
state_continues w st q = (finish st, ends_readable (w ++ finish st) (steps_from (ground first) w (finish st) st q ∙ finishes st))

continues_state : (w : List ℕ) → Continues w → (st : State) × (steps (ground first) w ≡ goes st)
continues_state w on = let x = alive_first (ground first) w on.0 (ground behind) (readable_ends (w ++ on.0) on.1) in (x.0, x.1)

module _ (l : Limits) (s : List ℕ) (st : State) (p : ℕ) (here : At l s st p) where
  pub at_continues : Continues (take p s)
  at_continues = state_continues (take p s) st (steps_at l s p st here)

  -- the byte there leads on, or does not
  one_more : p < length s → steps (ground first) (take (p + 1) s) ≡ steps st (byte_at s p ∷ [])
  one_more within =
      ap (steps (ground first)) (ap (λ (i : ℕ). take i s) (add-one p) ∙ take-suc s p 0 within)
      ∙ steps_from (ground first) (take p s) (byte_at s p ∷ []) st (steps_at l s p st here)

  pub goes_continues : p < length s → (next : State) → step st (byte_at s p) ≡ goes next → Continues (take (p + 1) s)
  unfolding steps
  goes_continues within next q = state_continues (take (p + 1) s) next (one_more within ∙ steps_on st (byte_at s p) [] q)

  dead_continues : p < length s → step st (byte_at s p) ≡ dead → Continues (take (p + 1) s) → ⊥
  dead_continues within q on =
      let x = continues_state (take (p + 1) s) on in goes_dead (sym x.1 ∙ one_more within ∙ steps_dead st (byte_at s p) [] q)

  cut_readable : length s ≤ p → may_end st ≡ false → Readable s → ⊥
  cut_readable out more readable =
      let last : st ≡ ground behind =
      goes_same (sym (ap (steps (ground first)) (sym (take_all p s out)) ∙ steps_at l s p st here) ∙ readable_ends s readable) in
      true≢false (sym (ap may_end last) ∙ more)

  -- so both are what a 9 means
  pub dead_nine : p < length s → step st (byte_at s p) ≡ dead → NineAt s p
  dead_nine within dying = dead-there within at_continues (dead_continues within dying)

  pub cut_nine : length s ≤ p → may_end st ≡ false → NineAt s p
  cut_nine out more = unfinished (omega (arith, at_within l s p st here)) (subst Continues (take_all p s out) at_continues) (cut_readable out more)

-- ---- where markup may begin

pub marked_may : (l : Limits) (s : List ℕ) (i : ℕ) → MarkedAt l s i → MarkupMayBegin (take i s)
marked_may l s i marked =
    state_continues (take i s ++ a_comment) (ground (rest marked.0))
    (steps_from (ground first) (take i s) a_comment (ground marked.0) (steps_at l s i (ground marked.0) marked.1)
    ∙ ground_comment marked.0)

pub may_ground : (l : Limits) (s : List ℕ) (i : ℕ) (st : State) → At l s st i → MarkupMayBegin (take i s) → (g : Ground) × (st ≡ ground g)
may_ground l s i st here may =
    let x = continues_state (take i s ++ a_comment) may in
    comment_ground st (sane_at l s i st here) x.0
    (sym (steps_from (ground first) (take i s) a_comment st (steps_at l s i st here)) ∙ x.1)
