-- The numbers of messages (document 01, "The session", "Numbers"). A note is an event before it has its number; `held` are the numbers that are held when a
-- call begins, and `last` is the last one taken. Assumes nothing.
use Rattle.std.specs.Prelude.{Bool, cond, ◌||◌, List, [], ◌∷◌, ℕ, zero, suc, ◌+◌, ◌%◌, ◌^◌, eqb, length}
use Rattle.conduct.specs.Lists.{among}
use Rattle.conduct.specs.Codes.{send_session_open_request, send_session_ok, send_response, send_advisory, send_alert, send_going_out_of_service}
use Rattle.conduct.specs.declared.Event.{Event}

pub record Note : Type 0 where
  pub code : ℕ
  pub detail : ℕ

-- each send event but 5 takes a number
abbrev pub takes_number : ℕ → Bool
takes_number code =
    eqb code send_session_open_request
    || (eqb code send_session_ok || (eqb code send_response || (eqb code send_advisory || (eqb code send_alert || eqb code send_going_out_of_service))))

-- after 4,294,967,295 comes 0
abbrev pub after : ℕ → ℕ
after n = (n + 1) % 2 ^ 32

-- the first of n and the numbers after it that is not held; at most k are passed over
abbrev pub free_from : ℕ → ℕ → List ℕ → ℕ
free_from zero n held = n
free_from (suc k) n held = cond (among n held) (free_from k (after n) held) n

-- the next free number after the last one taken: no more are passed over than are held
unfoldable pub next_free : List ℕ → ℕ → ℕ
next_free held last = free_from (length held) (after last) held

module _ (held : List ℕ) where
  -- the last number taken after a note, and the note's event
  abbrev pub last_after : ℕ → Note → ℕ
  last_after last note = cond (takes_number note.code) (next_free held last) last

  abbrev pub numbered : ℕ → Note → Event
  numbered last note =
      record { code = note.code; number = cond (takes_number note.code) (next_free held last) 0; detail = note.detail }

  -- the same for notes one after the other
  abbrev pub last_after_all : ℕ → List Note → ℕ
  last_after_all last [] = last
  last_after_all last (note ∷ notes) = last_after_all (last_after last note) notes

  abbrev pub all_numbered : ℕ → List Note → List Event
  all_numbered last [] = []
  all_numbered last (note ∷ notes) = numbered last note ∷ all_numbered (last_after last note) notes
