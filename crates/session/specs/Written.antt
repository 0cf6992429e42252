-- What the code has while it writes the pushes and the events of an accepted call. Assumes nothing.
use Rattle.std.specs.Prelude.{List, [], ◌∷◌, ◌++◌, ℕ}
use Rattle.conduct.specs.declared.Push.{Push}
use Rattle.conduct.specs.declared.Event.{Event}
use Rattle.conduct.specs.declared.Sweep.{Sweep}
use Rattle.conduct.specs.declared.Remark.{Remark}
use Rattle.conduct.specs.declared.Terms.{Terms}
use Rattle.conduct.specs.Lists.{flat}
use Rattle.conduct.specs.Numbers.{Note, next_free, numbered, last_after, all_numbered, last_after_all}
use Rattle.conduct.specs.Pushes.{keeps, tells}
use Rattle.conduct.specs.Step.{remark_notes, opens}

-- the pushes and the events so far, and the last number taken
pub record Draft : Type 0 where
  pub pushes : List Push
  pub events : List Event
  pub last : ℕ

-- ---- what each step makes of it: `held` are the numbers held when the call began

-- one push, or one event, more
abbrev pub kept_in : Draft → Push → Draft
kept_in d p = record { pushes = d.pushes ++ (p ∷ []); events = d.events; last = d.last }

abbrev pub said_in : Draft → Event → Draft
said_in d e = record { pushes = d.pushes; events = d.events ++ (e ∷ []); last = d.last }

-- one note more, and notes one after the other
abbrev pub noted_by : List ℕ → Draft → Note → Draft
noted_by held d note = record { pushes = d.pushes; events = d.events ++ (numbered held d.last note ∷ []); last = last_after held d.last note }

abbrev pub all_noted : List ℕ → Draft → List Note → Draft
all_noted held d notes = record { pushes = d.pushes; events = d.events ++ all_numbered held d.last notes; last = last_after_all held d.last notes }

-- what a sweep leaves of the pushes and says of them
abbrev pub swept_by : Terms → Sweep → List Push → Draft → Draft
swept_by terms sweep ps d =
    record { pushes = d.pushes ++ flat (keeps terms sweep) ps; events = d.events ++ flat (tells terms sweep) ps; last = d.last }

-- what is said at the end, and the push that is opened
abbrev pub remarked_by : List ℕ → Remark → Draft → Draft
remarked_by held remark d =
    record {
      pushes = d.pushes ++ opens (next_free held d.last) remark;
      events = d.events ++ all_numbered held d.last (remark_notes remark);
      last = last_after_all held d.last (remark_notes remark);
    }
