-- A message that names a number leaves the pushes with other numbers as they are. Assumes nothing.
use mathlib.Core.Path.{◌≡◌, refl, ap, ◌∙◌}
use mathlib.Core.Bool.{false}
use mathlib.Core.List.{List, [], ◌∷◌}
use Prim.Native.Nat.{ℕ}
use lib.Dec.{eqb}
use Rattle.std.proofs.lemmas.Bool.{or_parts}
use Rattle.conduct.specs.Lists.{flat, among}
use Rattle.conduct.specs.Pushes.{fate_of, keeps, tells}
use Rattle.conduct.specs.Session.{push_numbers}
use Rattle.conduct.specs.History.{Bearing}
use Rattle.conduct.specs.History.Bearing.{ticked, acknowledged, unreadable_message, advised}
use Rattle.conduct.specs.declared.Push.{Push}
use Rattle.conduct.specs.declared.Sweep.{Sweep}
use Rattle.conduct.specs.declared.Sweep.TheVariants as sweeps
use Rattle.conduct.specs.declared.Fate.TheVariants.{Keep}
use Rattle.conduct.specs.declared.Terms.{Terms}
use Rattle.conduct.proofs.Lists.{eqb_sym}

-- what a message that names n does to the pushes; none is a tick
abbrev pub sweep_by : ℕ → Bearing → Sweep
sweep_by n ticked = sweeps.Still
sweep_by n acknowledged = sweeps.Acknowledged n
sweep_by n unreadable_message = sweeps.UnreadableMessage n
sweep_by n advised = sweeps.Advised n

-- a push with another number is left as it is, and so are all where the number is not among theirs
pub aside : (terms : Terms) (n : ℕ) (b : Bearing) (p : Push) → eqb p.number n ≡ false → fate_of terms (sweep_by n b) p ≡ Keep p
aside terms n ticked p e = refl
aside terms n acknowledged p e = rw e
aside terms n unreadable_message p e = rw e
aside terms n advised p e = rw e

abbrev pub left_by : Terms → ℕ → Bearing → List Push → List Push
left_by terms n b ps = flat (keeps terms (sweep_by n b)) ps

pub all_aside : (terms : Terms) (n : ℕ) (b : Bearing) (ps : List Push) → among n (push_numbers ps) ≡ false
    → (left_by terms n b ps ≡ ps) × (flat (tells terms (sweep_by n b)) ps ≡ [])
all_aside terms n b [] h = (refl, refl)
all_aside terms n b (p ∷ ps) h =
    let e = or_parts (eqb n p.number) (among n (push_numbers ps)) h in
    let rest = all_aside terms n b ps e.1 in
    rw (aside terms n b p (eqb_sym p.number n ∙ e.0)) (ap (◌∷◌ p) rest.0, rest.1)
