-- Where the machine has come to a place, it went through every place before it, with nothing due there. So no cause of a refusal stands
-- before. Assumes nothing.
use Prim.Native.Nat.{ℕ, zero, suc, ◌+◌, ◌<◌}
use mathlib.Core.Path.{◌≡◌, sym, ◌∙◌, ap, subst}
use mathlib.Core.Bool.{false, true≢false, or-true as or_yes}
use mathlib.Core.List.{List}
use native.Mathlib.Numerals.{add-one}
use native.Mathlib.Decide.{dec_lt}
use native.Mathlib.Omega.{arith}
use lib.ListN.{length}
use borrow.Author.Tests.{le-leb}
use Rattle.message.specs.Reading.{byte_at}
use Rattle.message.specs.Limits.{Limits}
use Rattle.message.proofs.Laws.{and_true, or_true}
use Rattle.message.proofs.Automaton.{State, goes, step}
use Rattle.message.proofs.Dues.{opening, too_deep, long, due, At}
use Rattle.message.proofs.Ways.{goes_dead, goes_same, Came, came}
use Rattle.message.proofs.Going.{Cause, dies, cut, deep, crowded, opens, longs, Stuck}

module _ (l : Limits) (s : List ℕ) where
  pub state_one : (i : ℕ) (st st' : State) → At l s st i → At l s st' i → st ≡ st'
  state_one i st st' h h' = goes_same (sym h ∙ h')

  pub alive_before : (p i : ℕ) (st : State) → At l s st p → i < p → (next : State) × Came l s i next × At l s next (i + 1)
  alive_before zero i st here less = absurd (omega arith)
  alive_before (suc p) i st here less =
      let c = came l s p st here in
      elim (dec_lt i p) [
        | yes h ↦ alive_before p i c.from c.here h
        | no h ↦
            let same : p ≡ i = omega arith in
            subst (λ (j : ℕ). (next : State) × Came l s j next × At l s next (j + 1)) same (st, c, rw add-one here)
      ]

  -- a cause leaves no way on
  no_cause : (n i : ℕ) (st next : State) → Cause l s st i n → i < length s → due l s st i ≡ false → step st (byte_at s i) ≡ goes next → ⊥
  no_cause n i st next (dies inside e) less free q = goes_dead (sym q ∙ e)
  no_cause n i st next (cut out e) less free q = absurd (omega arith)
  no_cause n i st next (deep g same h d levels) less free q =
      true≢false (sym (rw d (or_yes (opening l s g i))) ∙ and_true _ h ∙ ap (λ (x : State). due l s x i) (sym same) ∙ free)
  no_cause n i st next (crowded m seen o same h full room) less free q =
      true≢false (or_true (long l s i) (le-leb l.attributes (length seen) (omega arith)) ∙ and_true _ h
      ∙ ap (λ (x : State). due l s x i) (sym same) ∙ free)
  no_cause n i st next (opens g same h d) less free q =
      true≢false (or_true (too_deep l s g i) d ∙ and_true _ h ∙ ap (λ (x : State). due l s x i) (sym same) ∙ free)
  no_cause n i st next (longs d long-there onward e room part) less free q = true≢false (sym d ∙ free)

  pub not_stuck_before : (n q p : ℕ) (st : State) → Stuck l s n q → At l s st p → q < p → ⊥
  not_stuck_before n q p st stuck here less =
      let a = alive_before p q st here less in
      let same = state_one q a.1.from stuck.0 a.1.here stuck.1 in
      no_cause n q stuck.0 a.0 stuck.2 a.1.within (subst (λ (x : State). due l s x q ≡ false) same a.1.free)
      (subst (λ (x : State). step x (byte_at s q) ≡ goes a.0) same a.1.by)
