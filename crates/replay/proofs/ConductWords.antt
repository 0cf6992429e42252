-- THEOREM `conduct_by_its_words`: a line says a conduct exactly if it is its two words (specs/Settings). Assumes nothing.
use mathlib.Core.Path.{◌≡◌, refl, sym, ap, ◌∙◌}
use mathlib.Core.Bool.{Bool, true, false}
use mathlib.Core.List.{List, [], ◌∷◌}
use Prim.Native.Nat.{ℕ}
use native.Mathlib.Omega.{arith}
use lib.Dec.{eqb}
use lib.ListN.{length, take}
use lib.Seq.{take_all}
use borrow.Author.Tests.{eqb-true}
use Rattle.std.proofs.lemmas.Bool.{and_parts, both_ways, cond_both}
use Rattle.laws.specs.Bytes.{same_bytes}
use Rattle.laws.proofs.Tails.{same_eq}
use Rattle.message.specs.Words.{codes}
use Rattle.conduct.specs.declared.Conduct.{Conduct}
use Rattle.conduct.specs.declared.Conduct.TheVariants.{New, Old}
use Rattle.conduct.specs.Conducts.{is_old}
use Rattle.replay.specs.declared.script.Line.{Line}
use Rattle.replay.specs.declared.script.Line.TheVariants as lines
use Rattle.replay.specs.declared.script.Setting.TheVariants as settings
use Rattle.replay.specs.Script.{is_word, numbered_of, worded_of, line_of}
use Rattle.replay.proofs.Words.{numbered_each, line_each}
use Rattle.replay.specs.Settings.{words_for, ConductByItsWords}

-- ---- the conduct that a line says

abbrev conducts_in : Line → List Conduct
conducts_in lines.Nothing = []
conducts_in (lines.Set (settings.Interval interval)) = []
conducts_in (lines.Set (settings.Conduct conduct)) = conduct ∷ []
conducts_in (lines.Set (settings.Resends resends)) = []
conducts_in (lines.Ticks count) = []
conducts_in (lines.Other call) = []
conducts_in lines.Message = []
conducts_in (lines.Last last) = []
conducts_in lines.Bad = []

abbrev None : Line → Type 0
None line = conducts_in line ≡ []

numbered_none : (line : List ℕ) → None (numbered_of line)
numbered_none line = numbered_each None line (λ n _. refl) (λ n _. refl) (λ n. refl) (λ c. refl) (λ n. refl) refl

is_the_word : (word line : List ℕ) → is_word word line ≡ true → line ≡ word
is_the_word word line h =
    let long : Bool = eqb (length line) (length word) in
    let as_long = eqb-true (length line) (length word) (and_parts long (same_bytes (take (length word) line) word) h).0 in
    let same = same_eq (take (length word) line) word (and_parts long (same_bytes (take (length word) line) word) h).1 in
    sym (take_all (length word) line (omega (arith, as_long))) ∙ same

-- ---- words that say a conduct

unsaid : {k : Conduct} {ks : List Conduct} → ks ≡ [] → ks ≡ k ∷ [] → ⊥
unsaid none is = omega (arith, ap length (sym none ∙ is))

other_conduct : (j k : Conduct) → (is_old j ≡ is_old k → ⊥) → j ∷ [] ≡ k ∷ [] → ⊥
other_conduct j k differ e = differ (ap first e)
  where
    first : List Conduct → Bool
    first [] = false
    first (c ∷ cs) = is_old c

worded : (k : Conduct) (w : List ℕ) → conducts_in (worded_of w) ≡ k ∷ [] → w ≡ words_for k
unfolding worded_of
worded New w =
    cond_both (is_word (codes "conduct new") w) _ _ Said (λ h _. is_the_word (codes "conduct new") w h)
    (λ _. cond_both (is_word (codes "conduct old") w) _ _ Said (λ _ e. absurd (other_conduct Old New (λ d. both_ways _ d refl) e))
    (λ _ e. absurd (unsaid (numbered_none w) e)))
  where
    Said : Line → Type 0
    Said line = conducts_in line ≡ New ∷ [] → w ≡ words_for New
worded Old w =
    cond_both (is_word (codes "conduct new") w) _ _ Said (λ _ e. absurd (other_conduct New Old (λ d. both_ways _ refl d) e))
    (λ _. cond_both (is_word (codes "conduct old") w) _ _ Said (λ h _. is_the_word (codes "conduct old") w h) (λ _ e. absurd (unsaid (numbered_none w) e)))
  where
    Said : Line → Type 0
    Said line = conducts_in line ≡ Old ∷ [] → w ≡ words_for Old

says : (k : Conduct) (w : List ℕ) → conducts_in (line_of w) ≡ k ∷ [] → w ≡ words_for k
says k w =
    line_each Said w (λ e. absurd (unsaid refl e)) (λ _ e. absurd (unsaid refl e)) (λ _ e. absurd (unsaid refl e)) (λ _ e. absurd (unsaid refl e))
    (worded k w)
  where
    Said : Line → Type 0
    Said line = conducts_in line ≡ k ∷ [] → w ≡ words_for k

said_by : (k : Conduct) → line_of (words_for k) ≡ lines.Set (settings.Conduct k)
unfolding line_of worded_of numbered_of same_bytes
said_by New = refl
said_by Old = refl

pub conduct_by_its_words : ConductByItsWords
conduct_by_its_words k = (said_by k, λ w e. says k w (ap conducts_in e))
