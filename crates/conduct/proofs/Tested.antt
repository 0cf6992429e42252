-- What the test behind 27 asks, in the paper's figures. Assumes nothing.
use Rattle.std.specs.Prelude.{None, Some}
use mathlib.Core.Path.{◌≡◌, refl, sym, ◌∙◌}
use mathlib.Core.Bool.{true}
use mathlib.Core.List.{◌∷◌, ◌++◌}
use Prim.Native.Nat.{ℕ, ◌+◌}
use native.Mathlib.Omega.{arith}
use lib.Dec.{leb}
use borrow.Author.Tests.{leb-true, ltb-true}
use Rattle.std.proofs.lemmas.Bool.{and_parts}
use Rattle.conduct.specs.Lists.{all}
use Rattle.conduct.specs.Pushes.{terms_of}
use Rattle.conduct.specs.Sound.{sound_state, most_sendings, sound_push}
use Rattle.conduct.specs.Followed.{most_resendings}
use Rattle.conduct.specs.Reached.{TimerIn, PassingIsTested}
use Rattle.conduct.specs.declared.Pushed.{Pushed}
use Rattle.conduct.specs.declared.Pushed.TheVariants.{Response, Advisory}
use Rattle.conduct.specs.declared.Site.{Site}
use Rattle.conduct.specs.declared.State.{State}
use Rattle.conduct.specs.declared.State.TheVariants.{Waiting, Connecting, Opening, Confirming, Up, Stopped}
use Rattle.conduct.specs.declared.Terms.{Terms}
use Rattle.conduct.proofs.Lists.{all_append}
use Rattle.conduct.proofs.Good.{good}

timer_in : (interval : ℕ) (state : State) → sound_state interval state ≡ true → TimerIn interval state
timer_in interval (Waiting left) h = let b = and_parts (leb 1 left) _ h in (leb-true 1 left b.0, leb-true left 300 b.1)
timer_in interval Connecting h = tt
timer_in interval (Opening age) h = ltb-true age 20 h
timer_in interval (Confirming number age) h = ltb-true age 20 h
timer_in interval (Up (Some number) age) h = ltb-true age 20 h
timer_in interval (Up None age) h = ltb-true age interval h
timer_in interval Stopped h = tt

sendings_as : (site : Site) (what : Pushed) → most_sendings (terms_of site) what ≡ most_resendings site.resends what + 1
sendings_as site Response = refl
sendings_as site Advisory = refl

pub passing_is_tested : PassingIsTested
passing_is_tested s ok =
    let g = good {s = s} ok in
    let interval = and_parts (leb 21 s.site.interval) _ g.interval_is in
    record {
      interval_allowed = (leb-true 21 s.site.interval interval.0, leb-true s.site.interval 6000 interval.1);
      resends_allowed = leb-true s.site.resends 3 g.resends_is;
      timer_in_range = timer_in s.site.interval s.state g.state_is;
      sendings_in_range = λ a b p here.
          let all_sound : all (sound_push terms) (a ++ p ∷ b) ≡ true = rw here at g.pushes_are in
          let sound-here = (and_parts (sound_push terms p) _ (and_parts (all (sound_push terms) a) _ (sym (all_append (sound_push terms) a (p ∷ b)) ∙ all_sound)).1).0 in
          let sent = and_parts (leb 1 p.sent) _ sound-here in
          let few = and_parts (leb p.sent (most_sendings terms p.what)) _ sent.1 in (
            leb-true 1 p.sent sent.0,
            omega (arith, leb-true p.sent (most_sendings terms p.what) few.0, sendings_as s.site p.what),
            ltb-true p.age 20 few.1,
          );
    }
  where
    terms : Terms
    terms = terms_of s.site
