-- What becomes of an open push (document 01, "The session"): by ticks, by the Oks and Advisories that name it, and when Up is left. Assumes nothing.
use Rattle.std.specs.Prelude.{Bool, true, false, cond, ◌&&◌, List, [], ◌∷◌, ℕ, ◌+◌, leb, ltb, eqb}
use Rattle.conduct.specs.Codes.{send_response_again, closed_acknowledged, closed_advised, closed_timed_out, closed_lost}
use Rattle.conduct.specs.declared.Event.{Event}
use Rattle.conduct.specs.declared.Site.{Site}
use Rattle.conduct.specs.declared.Terms.{Terms}
use Rattle.conduct.specs.declared.Push.{Push}
use Rattle.conduct.specs.declared.Pushed.{Pushed}
use Rattle.conduct.specs.declared.Pushed.TheVariants.{Response, Advisory}
use Rattle.conduct.specs.declared.Sweep.{Sweep}
use Rattle.conduct.specs.declared.Sweep.TheVariants as sweeps
use Rattle.conduct.specs.declared.Fate.{Fate}
use Rattle.conduct.specs.declared.Fate.TheVariants.{Keep, Again, Close}

-- the most resends that a site may have
abbrev pub most_resends : ℕ
most_resends = 3

-- what a site's pushes are held to: each sending has 20 ticks for an answer
abbrev pub terms_of : Site → Terms
terms_of site = record { ticks = 20; resends = site.resends }

-- what a sending opens
abbrev pub opened : Pushed → ℕ → ℕ → Push
opened what number handle = record { what = what; number = number; handle = handle; sent = 1; age = 0 }

-- an event about a push has its number and its handle
abbrev pub event_of : ℕ → Push → Event
event_of code p = record { code = code; number = p.number; detail = p.handle }

-- one tick older; and sent once more, its ticks counted anew
abbrev pub older : Push → Push
older p = record { what = p.what; number = p.number; handle = p.handle; sent = p.sent; age = p.age + 1 }

abbrev pub sent_again : Push → Push
sent_again p = record { what = p.what; number = p.number; handle = p.handle; sent = p.sent + 1; age = 0 }

abbrev pub is_response : Pushed → Bool
is_response Response = true
is_response Advisory = false

-- only a Response is sent again: while its sendings are no more than the resends and, whatever the terms, no more than the most that a site may have
abbrev pub may_go_again : Terms → Push → Bool
may_go_again terms p = is_response p.what && (leb p.sent terms.resends && leb p.sent most_resends)

-- sent again if that may be, and else closed with the code
abbrev pub again_or : Terms → ℕ → Push → Fate
again_or terms code p = cond (may_go_again terms p) (Again (sent_again p) (event_of send_response_again p)) (Close (event_of code p))

abbrev pub closed_if : Bool → ℕ → Push → Fate
closed_if named code p = cond named (Close (event_of code p)) (Keep p)

-- a tick counts as the one after the push's age
abbrev pub fate_of : Terms → Sweep → Push → Fate
fate_of terms sweeps.Still p = Keep p
fate_of terms sweeps.Older p = cond (ltb (p.age + 1) terms.ticks) (Keep (older p)) (again_or terms closed_timed_out p)
fate_of terms sweeps.Lost p = Close (event_of closed_lost p)
fate_of terms (sweeps.Acknowledged n) p = closed_if (eqb p.number n) closed_acknowledged p
fate_of terms (sweeps.UnreadableMessage n) p = cond (eqb p.number n) (again_or terms closed_advised p) (Keep p)
fate_of terms (sweeps.Advised n) p = closed_if (eqb p.number n) closed_advised p

-- what is open after it, and what is said of it
abbrev pub kept_by : Fate → List Push
kept_by (Keep p) = p ∷ []
kept_by (Again p e) = p ∷ []
kept_by (Close e) = []

abbrev pub told_by : Fate → List Event
told_by (Keep p) = []
told_by (Again p e) = e ∷ []
told_by (Close e) = e ∷ []

abbrev pub keeps : Terms → Sweep → Push → List Push
keeps terms sweep p = kept_by (fate_of terms sweep p)

abbrev pub tells : Terms → Sweep → Push → List Event
tells terms sweep p = told_by (fate_of terms sweep p)
