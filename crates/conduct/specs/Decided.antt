-- Promise: what decides a push: as long as the session stands, only accepted ticks and messages with its number decide when and how it closes. (proofs/Decided)
-- Assumes nothing.
use Rattle.std.specs.Prelude.{◌≡◌, true, List, [], ◌∷◌, ◌++◌, map, ℕ}
use Rattle.conduct.specs.Lists.{flat, all}
use Rattle.conduct.specs.Session.{Session, is_up}
use Rattle.conduct.specs.Sound.{sound}
use Rattle.conduct.specs.History.{Entry, history, Bearing, bearing, span, sayings}
use Rattle.conduct.specs.Followed.{first_code}
use Rattle.conduct.specs.declared.Pushed.{Pushed}
use Rattle.conduct.specs.declared.Call.{Call}
use Rattle.conduct.specs.declared.Call.TheVariants as calls

-- an accepted push of a history, with its number and the entries after it up to a place until which the session stands and the number is not given again
pub record Standing (what : Pushed) (most n : ℕ) (after : List Entry) : Type 0 where
  pub session : Session
  pub is_sound : sound session ≡ true
  pub its_resends : session.site.resends ≡ most
  pub made : List Call
  pub before : List Entry
  pub push : Entry
  pub later : List Entry
  pub handle : ℕ
  pub is_history : history session made ≡ before ++ push ∷ (after ++ later)
  pub is_push : push.call ≡ calls.Push what handle
  pub is_accepted : push.events ≡ record { code = first_code what; number = n; detail = handle } ∷ []
  pub stands : all (λ (x : Entry). is_up x.state) after ≡ true
  pub ungiven : span n after ≡ after

-- what bears on the push, one after the other
abbrev pub bearings : ℕ → List Entry → List Bearing
bearings n xs = flat (bearing n) xs

-- what is said of it in each entry that bears on it
abbrev pub sayings_of : ℕ → List Entry → List (List ℕ)
sayings_of n xs = flat (λ (x : Entry). map (λ (b : Bearing). sayings n x) (bearing n x)) xs

-- Two pushes of one kind, in two histories or in one, of sites with as many resends, on which the same bears: the same is said of each, at the same of what bears
-- on it.
abbrev pub DecidedByBearings : Type 0
DecidedByBearings =
    (what : Pushed) (most n n' : ℕ) (a a' : List Entry) → Standing what most n a → Standing what most n' a'
    → bearings n a ≡ bearings n' a' → sayings_of n a ≡ sayings_of n' a'

-- Nothing else says anything of it.
abbrev pub OthersSayNothing : Type 0
OthersSayNothing =
    (what : Pushed) (most n : ℕ) (a b : List Entry) (x : Entry) → Standing what most n (a ++ x ∷ b)
    → bearing n x ≡ [] → sayings n x ≡ []
