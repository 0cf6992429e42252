-- Promise 1, the place of 9: no continuation of the bytes up to and with it is readable, and some continuation of those before it is. (proofs/Nine)
-- Assumes nothing.
use Rattle.std.specs.Prelude.{ℕ, ◌+◌, ◌<◌, ◌≡◌, List, length, take}
use Rattle.message.specs.Class.{class_of}
use Rattle.message.specs.Reading.Reading.{refused}
use Rattle.message.specs.Limits.{Limits}
use Rattle.message.specs.Messages.{message_of}
use Rattle.message.specs.Readable.{Readable, Continues}

-- what the place p of a 9 means: the byte there is dead, or the message only ends too soon
pub data NineAt (s : List ℕ) (p : ℕ) : Type 0 where
  dead : p < length s → Continues (take p s) → (Continues (take (p + 1) s) → ⊥) → NineAt s p
  unfinished : p ≡ length s → Continues s → (Readable s → ⊥) → NineAt s p

-- With whatever limits.
abbrev pub NineMeans : Type 0
NineMeans = (s : List ℕ) (l : Limits) (p : ℕ) → message_of class_of l s ≡ refused 9 p → NineAt s p

-- There is one such place at most.
abbrev pub NineOnce : Type 0
NineOnce = (s : List ℕ) (p p' : ℕ) → NineAt s p → NineAt s p' → p ≡ p'
