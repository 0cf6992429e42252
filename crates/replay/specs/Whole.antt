-- Promise of the program replay: the turns over the pieces of a script, in order, and what follows the last of them print what `Replay`
-- says of the script. Where a read fails, the turns up to there are the script's, and the program leaves out what follows the last. (proofs/Whole)
-- Assumes nothing.
use Rattle.std.specs.Prelude.{◌≡◌, List, ℕ, ◌≤◌, length, take}
use Rattle.framing.specs.Cutting.{link_limit}
use Rattle.framing.specs.Stream.{joined, CutAt, StreamItem, items_of_parts, Held, fresh, Calls}
use Rattle.replay.specs.Runs.{and_then, fresh_run}
use Rattle.replay.specs.Replay.{taken_rest, ended, replayed}
use Rattle.replay.specs.Turns.{boundary, turns}

-- the turns over the calls of a whole script; what waits then is at the start of the store
abbrev pub printed : {s : List ℕ} {last : Held} {pieces : List (List ℕ)} {items : List StreamItem}
    → Calls link_limit boundary (fresh s) pieces items last → List ℕ
printed {last = last} calls = ended (and_then (turns calls fresh_run) (λ r. taken_rest r (take last.gathered last.store)))

-- whatever pieces the script comes in, and whatever the store of 65,536 bytes or more held at first
abbrev pub TurnsReplay : Type 0
TurnsReplay =
    (script : List ℕ) (parts : List (List ℕ)) (waiting : List ℕ) → CutAt boundary script parts waiting
    → (s : List ℕ) → 65536 ≤ length s
    → (pieces : List (List ℕ)) → joined pieces ≡ script
    → (items : List StreamItem) (last : Held) (calls : Calls link_limit boundary (fresh s) pieces items last)
    → printed calls ≡ replayed (items_of_parts link_limit boundary parts) waiting
