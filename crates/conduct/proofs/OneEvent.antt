-- An accepted message gives one event; an Ok for the open SessionOk in Up gives none. Assumes nothing.
use Rattle.std.specs.Prelude.{Option, None, Some}
use mathlib.Core.Path.{◌≡◌, refl, sym, ap, ◌∙◌}
use mathlib.Core.Bool.{Bool, true, false, cond, ◌||◌}
use mathlib.Core.List.{List, [], ◌∷◌, ◌++◌, append-nil}
use mathlib.Core.Logic.{◌⊎◌, inl, inr, ⊎_elim}
use Prim.Native.Nat.{ℕ}
use native.Mathlib.Omega.{arith}
use lib.Dec.{eqb}
use lib.ListN.{length, length-append}
use borrow.Author.Tests.{eqb-true}
use Rattle.std.proofs.lemmas.Bool.{cond_both, or_parts}
use Rattle.std.proofs.lemmas.Bool.Decides.{nat_tests}
use Rattle.message.specs.declared.Kind.{Kind}
use Rattle.message.specs.declared.Kind.TheVariants as kinds
use Rattle.message.specs.declared.Value.{Value}
use Rattle.message.specs.declared.Status.{Status}
use Rattle.message.specs.declared.Status.TheVariants as statuses
use Rattle.message.specs.declared.Advice.{Advice}
use Rattle.message.specs.declared.Advice.TheVariants as advices
use Rattle.message.specs.declared.Message.{Message}
use Rattle.message.proofs.Laws.{on_either}
use Rattle.conduct.specs.Lists.{flat, among, distinct}
use Rattle.conduct.specs.Codes as codes
use Rattle.conduct.specs.Pushes.{terms_of, event_of, may_go_again, again_or, told_by, tells}
use Rattle.conduct.specs.Session.{Session, is_up, awaited_numbers, session_ok_numbers, push_numbers}
use Rattle.conduct.specs.Table.{action_of}
use Rattle.conduct.specs.Rules as rules
use Rattle.conduct.specs.Rules.{goes, touches, leaves, named_by, status_by, counted_in, advice_by, next_number, acted}
use Rattle.conduct.specs.Rules.{answered, ok_naming, advises, advisory_naming, advised_about}
use Rattle.conduct.specs.Step.{events_by, Answered, answer, step}
use Rattle.conduct.specs.History.{names, call_bearing}
use Rattle.conduct.specs.History.Bearing.{acknowledged}
use Rattle.conduct.specs.Bounds.{OneEvent}
use Rattle.conduct.specs.declared.State.{State}
use Rattle.conduct.specs.declared.State.TheVariants.{Waiting, Connecting, Opening, Confirming, Up, Stopped}
use Rattle.conduct.specs.declared.Event.{Event}
use Rattle.conduct.specs.declared.Push.{Push}
use Rattle.conduct.specs.declared.Call.{Call}
use Rattle.conduct.specs.declared.Call.TheVariants as calls
use Rattle.conduct.specs.declared.Action.{Action}
use Rattle.conduct.specs.declared.Action.TheVariants as actions
use Rattle.conduct.specs.declared.Sweep.{Sweep}
use Rattle.conduct.specs.declared.Sweep.TheVariants as sweeps
use Rattle.conduct.specs.declared.Fate.{Fate}
use Rattle.conduct.specs.declared.Fate.TheVariants.{Keep, Close}
use Rattle.conduct.specs.declared.Parting.TheVariants as partings
use Rattle.conduct.specs.declared.Remark.TheVariants as remarks
use Rattle.conduct.specs.declared.Move.{Move}
use Rattle.conduct.specs.declared.Terms.{Terms}
use Rattle.conduct.proofs.Lists.{flat_nothing, distinct_head, distinct_tail, distinct_back}
use Rattle.conduct.proofs.Good.{Good, good}
use Rattle.conduct.proofs.Refused.{refused_by}
use Rattle.conduct.proofs.Moves.{is_answer, answer_where}

-- ---- a sweep that names one open push

module _ (n : ℕ) (f : Push → List Event) (h : (p : Push) → length (f p) ≡ cond (eqb n p.number) 1 0) where
  says_none : (ps : List Push) → among n (push_numbers ps) ≡ false → length (flat f ps) ≡ 0
  says_none [] a = refl
  says_none (p ∷ ps) a =
      let e = or_parts (eqb n p.number) _ a in
      let here : length (f p) ≡ 0 = h p ∙ rw e.0 in
      omega (arith, length-append (f p) (flat f ps), says_none ps e.1)

  says_one : (ps : List Push) → distinct (push_numbers ps) ≡ true → among n (push_numbers ps) ≡ true → length (flat f ps) ≡ 1
  says_one [] d a = cc
  says_one (p ∷ ps) d a = go (eqb n p.number) refl a (says_one ps (distinct_tail p.number (push_numbers ps) d))
    where
      go : (b : Bool) → eqb n p.number ≡ b → (b || among n (push_numbers ps)) ≡ true
          → (among n (push_numbers ps) ≡ true → length (flat f ps) ≡ 1) → length (f p ++ flat f ps) ≡ 1
      go true e a ih =
          let here : length (f p) ≡ 1 = h p ∙ rw e in
          let rest : among n (push_numbers ps) ≡ false = rw (eqb-true n p.number e) (distinct_head p.number (push_numbers ps) d) in
          omega (arith, length-append (f p) (flat f ps), says_none ps rest)
      go false e a ih =
          let here : length (f p) ≡ 0 = h p ∙ rw e in
          omega (arith, length-append (f p) (flat f ps), ih a)

-- what an Ok and an Advisory with the number n say of a push
abbrev TellsOne : Terms → ℕ → Sweep → Type 0
TellsOne terms n sweep = (p : Push) → length (tells terms sweep p) ≡ cond (eqb n p.number) 1 0

named_one : (n : ℕ) (p : Push) (f : Fate) → length (told_by f) ≡ 1
    → length (told_by (cond (eqb p.number n) f (Keep p))) ≡ cond (eqb n p.number) 1 0
named_one n p f h = grind (arith, nat_tests)

acknowledged_tells : (terms : Terms) (n : ℕ) → TellsOne terms n (sweeps.Acknowledged n)
acknowledged_tells terms n p = named_one n p (Close (event_of 9 p)) refl

advice_tells : (terms : Terms) (advice : Advice) (n : ℕ) → TellsOne terms n (advises advice n)
advice_tells terms advices.UnreadableMessage n p =
    named_one n p (again_or terms 10 p) (on_either (λ (f : Fate). length (told_by f) ≡ 1) (may_go_again terms p) refl refl)
advice_tells terms advices.Other n p = named_one n p (Close (event_of 10 p)) refl

-- ---- moves that say one thing

module _ (s : Session) where
  abbrev One : Move → Type 0
  One m = length (events_by s m) ≡ 1

  goes_one : (state : State) (code detail : ℕ) → One (goes state (remarks.Note code detail))
  goes_one state code detail = rw (flat_nothing (tells (terms_of s.site) sweeps.Still) (λ p. refl) s.pushes)

  leaves_one : (state : State) → s.pushes ≡ [] → One (leaves state partings.Disconnect)
  leaves_one state none_open = rw none_open

  touches_one : distinct (push_numbers s.pushes) ≡ true → (n : ℕ) (state : State) (sweep : Sweep) → TellsOne (terms_of s.site) n sweep
      → among n (push_numbers s.pushes) ≡ true → One (touches state sweep)
  touches_one differ n state sweep h a =
      ap length (append-nil (flat (tells (terms_of s.site) sweep) s.pushes)) ∙ says_one n (tells (terms_of s.site) sweep) h s.pushes differ a

  answered_one : s.pushes ≡ [] → (next : ℕ) (status : Status) → One (answered next status)
  answered_one none_open next statuses.Ok = goes_one (Confirming next 0) codes.send_session_ok 0
  answered_one none_open next statuses.RedundantSession = goes_one (Confirming next 0) codes.send_session_ok 0
  answered_one none_open next statuses.Other = leaves_one (Waiting 300) none_open

-- ---- an Ok, which says nothing where it names the open SessionOk in Up

awaited_is : (n : ℕ) (w : Option ℕ) → among n (awaited_numbers w) ≡ true → awaited_numbers w ≡ n ∷ []
awaited_is n None h = cc
awaited_is n (Some m) h = grind (arith, nat_tests)

abbrev Hushed : Session → ℕ → State → Move → Type 0
Hushed s n state m = (is_up state ≡ true) × (session_ok_numbers state ≡ n ∷ []) × (events_by s m ≡ [])

module _ (s : Session) (differ : distinct (push_numbers s.pushes) ≡ true) where
  unmatched_one : (state : State) → One s (rules.matches_nothing state)
  unmatched_one state = goes_one s state codes.unmatched 0

  ok_one : (n : ℕ) (state : State) → One s (ok_naming s n state) ⊎ Hushed s n state (ok_naming s n state)
  ok_one n (Waiting left) = inl (unmatched_one (Waiting left))
  ok_one n Connecting = inl (unmatched_one Connecting)
  ok_one n (Opening age) = inl (unmatched_one (Opening age))
  ok_one n (Confirming number age) =
      inl (on_either (One s) (eqb n number) (goes_one s (Up None age) codes.up 0) (unmatched_one (Confirming number age)))
  ok_one n (Up waiting age) =
      cond_both (among n (awaited_numbers waiting)) _ _ (λ (m : Move). One s m ⊎ Hushed s n (Up waiting age) m)
      (λ e. inr (refl, awaited_is n waiting e, rw (flat_nothing (tells (terms_of s.site) sweeps.Still) (λ p. refl) s.pushes)))
      (λ e. inl (cond_both (among n (push_numbers s.pushes)) _ _ (One s)
      (touches_one s differ n (Up waiting age) (sweeps.Acknowledged n) (acknowledged_tells (terms_of s.site) n))
      (λ f. unmatched_one (Up waiting age))))
  ok_one n Stopped = inl (unmatched_one Stopped)

  -- ---- an Advisory

  module _ (quiet : is_up s.state ≡ false → s.pushes ≡ []) where
    advisory_one : (advice : Advice) (n : ℕ) (state : State) → s.state ≡ state → One s (advisory_naming s advice n state)
    advisory_one advice n (Waiting left) e = unmatched_one (Waiting left)
    advisory_one advice n Connecting e = unmatched_one Connecting
    advisory_one advice n (Opening age) e = unmatched_one (Opening age)
    advisory_one advice n (Confirming number age) e =
        on_either (One s) (eqb n number) (leaves_one s (Waiting 300) (quiet (ap is_up e))) (unmatched_one (Confirming number age))
    advisory_one advice n (Up waiting age) e =
        on_either (One s) (among n (awaited_numbers waiting)) (goes_one s (Up None age) codes.advisory_arrived 0)
        (cond_both (among n (push_numbers s.pushes)) _ _ (One s)
        (touches_one s differ n (Up waiting age) (advises advice n) (advice_tells (terms_of s.site) advice n))
        (λ f. unmatched_one (Up waiting age)))
    advisory_one advice n Stopped e = unmatched_one Stopped

    about_one : (advice : Advice) (named : Option ℕ) → One s (advised_about s advice named)
    about_one advice None = unmatched_one s.state
    about_one advice (Some n) = advisory_one advice n s.state refl

-- ---- any message

-- an Ok is what is acknowledged by in Up
up_acknowledged : (state : State) (kind : Kind) → is_up state ≡ true → action_of state kind ≡ actions.Acknowledge → kind ≡ kinds.Ok
up_acknowledged (Waiting left) kind u e = cc
up_acknowledged Connecting kind u e = cc
up_acknowledged (Opening age) kind u e = cc
up_acknowledged (Confirming number age) kind u e = cc
up_acknowledged (Up waiting age) kinds.SessionOpenRequest u e = cc
up_acknowledged (Up waiting age) kinds.SessionOpenResponse u e = cc
up_acknowledged (Up waiting age) kinds.SessionOk u e = cc
up_acknowledged (Up waiting age) kinds.Ok u e = refl
up_acknowledged (Up waiting age) kinds.Advisory u e = cc
up_acknowledged (Up waiting age) kinds.Request u e = cc
up_acknowledged (Up waiting age) kinds.Response u e = cc
up_acknowledged Stopped kind u e = cc

named_names : (value : Value (Option ℕ)) (n : ℕ) → named_by value ≡ Some n → names n value ≡ true
named_names value n = grind (arith, nat_tests)

abbrev Unheard : Session → Message → Move → Type 0
Unheard s m move = (n : ℕ) × (call_bearing n (calls.Heard m) ≡ acknowledged ∷ []) × Hushed s n s.state move

module _ (s : Session) (m : Message) (g : Good s) where
  differ_in : distinct (push_numbers s.pushes) ≡ true
  differ_in = distinct_back (session_ok_numbers s.state) (push_numbers s.pushes) g.numbers_are

  acknowledged_one : action_of s.state m.kind ≡ actions.Acknowledge → (named : Option ℕ) → named_by m.in_response_to ≡ named
      → One s (rules.acknowledged s named) ⊎ Unheard s m (rules.acknowledged s named)
  acknowledged_one a None e = inl (unmatched_one s differ_in s.state)
  acknowledged_one a (Some n) e =
      ⊎_elim (λ one. inl one)
      (λ hushed.
      let is_ok_lem = up_acknowledged s.state m.kind hushed.0 a in
      inr (n, rw (is_ok_lem, named_names m.in_response_to n e), hushed))
      (ok_one s differ_in n s.state)

  acted_one : (action : Action) → action_of s.state m.kind ≡ action → One s (acted s m action) ⊎ Unheard s m (acted s m action)
  acted_one actions.OutOfPlace a = inl (goes_one s s.state codes.out_of_place 0)
  acted_one actions.Answer a =
      inl (answered_one s (g.quiet (answer_where s.state m.kind (ap is_answer a)).0) (next_number s) (counted_in s.site.conduct (status_by m.status)))
  acted_one actions.Acknowledge a = acknowledged_one a (named_by m.in_response_to) refl
  acted_one actions.Advise a =
      inl (on_either (One s) m.in_relation_to.there
      (about_one s differ_in g.quiet (advice_by m.advisory_type) m.in_relation_to.meaning)
      (goes_one s s.state codes.advisory_arrived 0))
  acted_one actions.Request a = inl (goes_one s s.state codes.request_arrived 0)

accepted_step : (s : Session) (c : Call) → (step s c).refusal ≡ 0 → step s c ≡ answer 0 s c
accepted_step s c e = ap (λ (k : ℕ). answer k s c) (sym (refused_by s c) ∙ e)

pub one_event : OneEvent
one_event s calls.Tick ok is accepted = cc
one_event s calls.Connected ok is accepted = cc
one_event s calls.Lost ok is accepted = cc
one_event s calls.Stop ok is accepted = cc
one_event s (calls.Push what handle) ok is accepted = cc
one_event s (calls.Heard m) ok is accepted =
    let now = accepted_step s (calls.Heard m) accepted in
    ⊎_elim (λ one. inl (ap (λ (a : Answered). length a.events) now ∙ one))
    (λ u. inr
    (record {
      number = u.0;
      in_up = u.2.0;
      is_open = u.2.1;
      is_ok = u.1;
      says_nothing = ap (λ (a : Answered). a.events) now ∙ u.2.2;
    }))
    (acted_one s m (good {s = s} ok) (action_of s.state m.kind) refl)
one_event s (calls.Unreadable refusal) ok is accepted =
    let now = accepted_step s (calls.Unreadable refusal) accepted in
    inl (ap (λ (a : Answered). length a.events) now ∙ goes_one s s.state codes.unreadable refusal)
