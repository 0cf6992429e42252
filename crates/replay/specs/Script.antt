-- What a line of a script stands for (INTERFACES, "replay"). Assumes nothing.
use Rattle.std.specs.Prelude.{Bool, false, cond, not, ◌&&◌, List, [], ◌∷◌, ℕ, leb, eqb, length, take, drop, Option, None, Some}
use Rattle.laws.specs.Bytes.{same_bytes}
use Rattle.message.specs.Values.{leading_zero, decimal_of}
use Rattle.message.specs.Class.{between}
use Rattle.message.specs.Words.{codes}
use Rattle.conduct.specs.declared.Pushed.TheVariants as pushed
use Rattle.conduct.specs.declared.Call.TheVariants as calls
use Rattle.conduct.specs.declared.Conduct.TheVariants.{New, Old}
use Rattle.conduct.specs.Lists.{all}
use Rattle.replay.specs.declared.script.Line.{Line}
use Rattle.replay.specs.declared.script.Line.TheVariants as lines
use Rattle.replay.specs.declared.script.Setting.TheVariants as settings

-- the line is the word
abbrev pub is_word : List ℕ → List ℕ → Bool
is_word word line = eqb (length line) (length word) && same_bytes (take (length word) line) word

-- the line begins with the word
abbrev pub begins : List ℕ → List ℕ → Bool
begins word line = same_bytes (take (length word) line) word

-- the number that stands behind the word, which ends with a space: decimal, without leading zeros, below 2^32
abbrev pub behind : List ℕ → List ℕ → Option ℕ
behind word line = cond (begins word line) (decimal_of (drop (length word) line)) None

-- so many ticks, 1 to 1,000,000
abbrev pub ticks_of : ℕ → Line
ticks_of n = cond (leb 1 n && leb n 1000000) (lines.Ticks n) lines.Bad

-- what stands for a number that is there, or else the other
abbrev pub or_else : {A : Type 0} → Option ℕ → (ℕ → A) → A → A
or_else (Some n) of other = of n
or_else None of other = other

-- a number of any size, without leading zeros
abbrev pub is_digit : ℕ → Bool
is_digit d = between 48 57 d

abbrev pub is_decimal : List ℕ → Bool
is_decimal [] = false
is_decimal (d ∷ digits) = not (leading_zero (d ∷ digits)) && all is_digit (d ∷ digits)

-- a figure that a setting says: a number of any size without leading zeros; one that is too long for 32 bits stands for the greatest
-- number, which the making refuses as it would the other
abbrev pub figure_of : List ℕ → Option ℕ
figure_of text = or_else (decimal_of text) Some (cond (is_decimal text) (Some 4294967295) None)

-- the figure that stands behind the word, which ends with a space
abbrev pub figure_behind : List ℕ → List ℕ → Option ℕ
figure_behind word line = cond (begins word line) (figure_of (drop (length word) line)) None

abbrev pub an_interval : ℕ → Line
an_interval n = lines.Set (settings.Interval n)

abbrev pub some_resends : ℕ → Line
some_resends n = lines.Set (settings.Resends n)

unfoldable pub numbered_of : List ℕ → Line
numbered_of line =
    or_else (figure_behind (codes "interval ") line) an_interval
    (or_else (figure_behind (codes "resends ") line) some_resends
    (or_else (behind (codes "tick ") line) ticks_of
    (or_else (behind (codes "push ") line) (λ n. lines.Other (calls.Push pushed.Response n))
    (or_else (behind (codes "advise ") line) (λ n. lines.Other (calls.Push pushed.Advisory n))
    (or_else (behind (codes "unreadable ") line) (λ n. lines.Other (calls.Unreadable n))
    (or_else (behind (codes "last ") line) lines.Last lines.Bad))))))

-- a setting that is words alone, or a word with a number
unfoldable pub worded_of : List ℕ → Line
worded_of line =
    cond (is_word (codes "conduct new") line) (lines.Set (settings.Conduct New))
    (cond (is_word (codes "conduct old") line) (lines.Set (settings.Conduct Old)) (numbered_of line))

unfoldable pub line_of : List ℕ → Line
line_of line =
    cond (eqb (length line) 0) lines.Nothing
    (cond (is_word (codes "tick") line) (lines.Ticks 1)
    (cond (is_word (codes "connected") line) (lines.Other calls.Connected)
    (cond (is_word (codes "lost") line) (lines.Other calls.Lost)
    (cond (is_word (codes "stop") line) (lines.Other calls.Stop)
    (cond (begins (codes "message ") line) lines.Message (worded_of line))))))

-- the bytes that a message has at least: the word `message` and its space
abbrev pub bytes_of_word : Line → ℕ
bytes_of_word lines.Nothing = 0
bytes_of_word (lines.Set setting) = 0
bytes_of_word (lines.Ticks count) = 0
bytes_of_word (lines.Other call) = 0
bytes_of_word lines.Message = 8
bytes_of_word (lines.Last last) = 0
bytes_of_word lines.Bad = 0
