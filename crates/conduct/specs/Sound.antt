-- The test behind refusal 27: what every session has that was made or reached from one; others may have it too. docs/CONSISTENCY.md lists it. Assumes nothing.
use Rattle.std.specs.Prelude.{Bool, true, ◌&&◌, ◌||◌, ℕ, ◌+◌, leb, ltb, eqb, length, None, Some}
use Rattle.conduct.specs.Lists.{all, distinct}
use Rattle.conduct.specs.Session.{Session, allowed_interval, allowed_resends, is_up, held}
use Rattle.conduct.specs.Pushes.{terms_of}
use Rattle.conduct.specs.declared.Terms.{Terms}
use Rattle.conduct.specs.declared.State.{State}
use Rattle.conduct.specs.declared.State.TheVariants.{Waiting, Connecting, Opening, Confirming, Up, Stopped}
use Rattle.conduct.specs.declared.Push.{Push}
use Rattle.conduct.specs.declared.Pushed.{Pushed}
use Rattle.conduct.specs.declared.Pushed.TheVariants.{Response, Advisory}

-- the timer of the state is in its range
abbrev pub sound_state : ℕ → State → Bool
sound_state interval (Waiting left) = leb 1 left && leb left 300
sound_state interval Connecting = true
sound_state interval (Opening age) = ltb age 20
sound_state interval (Confirming number age) = ltb age 20
sound_state interval (Up (Some number) age) = ltb age 20
sound_state interval (Up None age) = ltb age interval
sound_state interval Stopped = true

abbrev pub most_sendings : Terms → Pushed → ℕ
most_sendings terms Response = terms.resends + 1
most_sendings terms Advisory = 1

-- sent once or, a Response, no oftener again than the terms say, and less than their ticks ago
abbrev pub sound_push : Terms → Push → Bool
sound_push terms p = leb 1 p.sent && (leb p.sent (most_sendings terms p.what) && ltb p.age terms.ticks)

-- at most 32 pushes, none outside Up, and no number twice
abbrev pub sound : Session → Bool
sound s =
    allowed_interval s.site.interval
    && (allowed_resends s.site.resends
    && (sound_state s.site.interval s.state
    && (leb (length s.pushes) 32
    && ((is_up s.state || eqb (length s.pushes) 0) && (all (sound_push (terms_of s.site)) s.pushes && distinct (held s))))))
