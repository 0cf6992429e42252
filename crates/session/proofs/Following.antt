-- Demand 3 of the answers of a record, and what a record that passes the test has. Assumes nothing.
use mathlib.Core.Path.{sym, ◌∙◌}
use mathlib.Core.List.{map}
use lib.Dec.{leb}
use borrow.Author.Tests.{leb-true}
use Rattle.std.proofs.lemmas.Bool.{and_parts}
use Rattle.conduct.specs.Lists.{those}
use Rattle.conduct.proofs.Trace.{every_push_is_followed}
use Rattle.conduct.proofs.Tested.{passing_is_tested}
use Rattle.session.specs.Record.{session_of}
use Rattle.session.specs.Code.{Asked, roomy, AcceptedAreFollowed, PassingRecordIsTested}
use Rattle.session.proofs.Records.{sound_session}
use Rattle.session.proofs.Histories.{answers_are_history}

pub accepted_are_followed : AcceptedAreFollowed
accepted_are_followed d asked before rest x what h passes is pushed accepted =
    every_push_is_followed (session_of d) (map (λ (a : Asked). a.call) (those roomy asked)) before rest x what h (sound_session d passes)
    (sym (answers_are_history d asked passes) ∙ is) pushed accepted

pub passing_record_is_tested : PassingRecordIsTested
passing_record_is_tested d passes =
    (leb-true d.pushes.count 32 (and_parts (leb d.pushes.count 32) _ passes).0, passing_is_tested (session_of d) (sound_session d passes))
