-- What a limit, or refusal 12, finds due in a state of the machine, and the state behind the first bytes of a message before which nothing
-- is due. Assumes nothing.
use Prim.Native.Nat.{ℕ, zero, suc, ◌+◌, ◌-◌}
use mathlib.Core.Path.{◌≡◌}
use mathlib.Core.Bool.{Bool, true, false, cond, not, ◌&&◌, ◌||◌}
use mathlib.Core.List.{List}
use lib.ListN.{length}
use lib.Dec.{ltb, leb}
use Rattle.message.specs.Class.{class_of, is_start, is_name}
use Rattle.message.specs.Reading.{is_whole, is, byte_at, has, ends, word_at}
use Rattle.message.specs.Markup.{doctype, cdata, declares}
use Rattle.message.specs.Limits.{Limits, link_limits}
use Rattle.message.proofs.Automaton.{Ground, first, before, behind, inside, State, ground, opened, expect, blanks, declared, version_quote, encoding_quote, versioned, encoding_name, note, second, ampersand, ampersand_a, hash, first_digit, number, name, colon, in_tag, slash, attribute, attribute_colon, quote, value, close, Next, dead, goes, step}

abbrev pub is_behind : Ground → Bool
is_behind first = false
is_behind before = false
is_behind behind = true
is_behind (inside b v o) = false

abbrev pub is_first : Ground → Bool
is_first first = true
is_first before = false
is_first behind = false
is_first (inside b v o) = false

-- the message may end here
abbrev pub may_end : State → Bool
may_end (ground g) = is_behind g
may_end (opened g) = false
may_end (expect t ts k) = false
may_end (blanks t solid ts k) = false
may_end declared = false
may_end version_quote = false
may_end encoding_quote = false
may_end (versioned spaced) = false
may_end (encoding_name q) = false
may_end (note h k) = false
may_end (second lead k) = false
may_end (ampersand k) = false
may_end (ampersand_a k) = false
may_end (hash k) = false
may_end (first_digit hex k) = false
may_end (number hex n small k) = false
may_end (name t n o) = false
may_end (colon n o) = false
may_end (in_tag spaced n seen o) = false
may_end (slash o) = false
may_end (attribute t a n seen o) = false
may_end (attribute_colon a n seen o) = false
may_end (quote n seen o) = false
may_end (value q n seen o) = false
may_end (close y w fresh o) = false

-- how many elements are open
abbrev pub depth : Ground → ℕ
depth first = 0
depth before = 0
depth behind = 0
depth (inside b v o) = suc (length o)

module _ (l : Limits) (s : List ℕ) where
  -- one of the openings of 12, behind its `<`
  abbrev pub opening : Ground → ℕ → Bool
  opening g i =
      (has (is 33) s (i + 1) && (is_whole (word_at doctype s (i + 2)) || is_whole (word_at cdata s (i + 2))))
      || (has (is 63) s (i + 1) && not (is_first g && declares class_of s))

  abbrev pub too_deep : Ground → ℕ → Bool
  too_deep g i = (leb l.levels (depth g) && not (is_behind g)) && has (is_start class_of) s (i + 1)

  abbrev pub long : ℕ → Bool
  long i = ltb l.part (ends (is_name class_of) s i - i)

  abbrev pub long_part : ℕ → Bool
  long_part i = has (is_start class_of) s i && long i

  abbrev pub due : State → ℕ → Bool
  due (ground g) i = has (is 60) s i && (opening g i || too_deep g i)
  due (opened g) i = not (is_behind g) && long_part i
  due (expect t ts k) i = false
  due (blanks t solid ts k) i = false
  due declared i = false
  due version_quote i = false
  due encoding_quote i = false
  due (versioned spaced) i = false
  due (encoding_name q) i = false
  due (note h k) i = false
  due (second lead k) i = false
  due (ampersand k) i = false
  due (ampersand_a k) i = false
  due (hash k) i = false
  due (first_digit hex k) i = false
  due (number hex n small k) i = false
  due (name t n o) i = false
  due (colon n o) i = long_part i
  due (in_tag spaced n seen o) i = (spaced && has (is_start class_of) s i) && (leb l.attributes (length seen) || long i)
  due (slash o) i = false
  due (attribute t a n seen o) i = false
  due (attribute_colon a n seen o) i = long_part i
  due (quote n seen o) i = false
  due (value q n seen o) i = false
  due (close y w fresh o) i = (fresh && has (is y) s i) && long i

  -- where nothing is due, a step
  abbrev pub further : Next → ℕ → Next
  further dead i = dead
  further (goes st) i = cond (ltb i (length s) && not (due st i)) (step st (byte_at s i)) dead

  unfoldable pub state_at : ℕ → Next
  state_at zero = goes (ground first)
  state_at (suc i) = further (state_at i) i

  abbrev pub At : State → ℕ → Type 0
  At st i = state_at i ≡ goes st

-- under the link's limits
abbrev pub Here : List ℕ → State → ℕ → Type 0
Here = At link_limits
