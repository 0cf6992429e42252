-- What an Ok or an Advisory does is read from the state and the open pushes: a session that was made with another site does the same. Assumes nothing.
use Rattle.std.specs.Prelude.{Option, None, Some}
use mathlib.Core.Path.{◌≡◌, refl}
use Prim.Native.Nat.{ℕ}
use Rattle.std.proofs.lemmas.Bool.Decides.{nat_tests}
use native.Mathlib.Omega.{arith}
use Rattle.message.specs.declared.Message.{Message}
use Rattle.conduct.specs.Session.{Session}
use Rattle.conduct.specs.Rules.{ok_naming, acknowledged, advised}
use Rattle.conduct.specs.declared.Site.{Site}
use Rattle.conduct.specs.declared.State.{State}
use Rattle.conduct.specs.declared.State.TheVariants.{Waiting, Connecting, Opening, Confirming, Up, Stopped}

module _ (site : Site) (s : Session) where
  abbrev elsewhere : Session
  elsewhere = record { site = site; state = s.state; pushes = s.pushes; last = s.last }

  ok_named_alike : (n : ℕ) (state : State) → ok_naming elsewhere n state ≡ ok_naming s n state
  ok_named_alike n (Waiting left) = refl
  ok_named_alike n Connecting = refl
  ok_named_alike n (Opening age) = refl
  ok_named_alike n (Confirming number age) = refl
  ok_named_alike n (Up waiting age) = refl
  ok_named_alike n Stopped = refl

  pub ok_alike : (number : Option ℕ) → acknowledged elsewhere number ≡ acknowledged s number
  ok_alike None = refl
  ok_alike (Some n) = ok_named_alike n s.state

  pub advised_alike : (m : Message) → advised elsewhere m ≡ advised s m
  advised_alike m = grind (arith, nat_tests)
