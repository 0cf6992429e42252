-- The conducts, of records and of bytes: what is promised of a session is handed on to the record that holds it. Assumes nothing.
use mathlib.Core.Path.{◌≡◌, refl, ap, ◌∙◌}
use mathlib.Core.Bool.{Bool, true, false, cond, not}
use mathlib.Core.List.{[], ◌∷◌}
use Prim.Native.Nat.{ℕ}
use lib.Dec.{ltb}
use borrow.Author.Tests.{not-true}
use Rattle.std.proofs.lemmas.Bool.{and_parts, both_ways}
use Rattle.message.specs.Class.{class_of}
use Rattle.message.specs.Limits.{link_limits}
use Rattle.message.specs.Reading.{Reading}
use Rattle.message.specs.Reading.Reading.{whole, refused}
use Rattle.message.specs.Messages.{message_of}
use Rattle.message.specs.declared.Kind.{Kind}
use Rattle.message.specs.declared.Kind.TheVariants as kinds
use Rattle.message.specs.declared.Message.{Message}
use Rattle.message.specs.declared.Status.{Status}
use Rattle.message.specs.declared.Status.TheVariants as statuses
use Rattle.conduct.specs.declared.Call.{Call}
use Rattle.conduct.specs.Step.{Answered, step}
use Rattle.conduct.specs.Conducts.{is_open_response, is_redundant_session, says_redundant, is_redundant_answer, with_conduct, by_conduct}
use Rattle.conduct.proofs.CountedAs.{counts_as}
use Rattle.conduct.proofs.Conducts.{only_there}
use Rattle.conduct.proofs.Sites.{site_stays}
use Rattle.session.specs.Record.{session_of, consistent}
use Rattle.session.specs.Answers.{Told, told_of, refuse, told, call_of}
use Rattle.session.specs.Code.{answer_to, seen, record_after, answers}
use Rattle.session.specs.Conducts.{RecordCountsAs, ReadAsRedundant, RedundantByItsBytes, record_in, told_in, TestedAlike, RecordOnlyThere}
use Rattle.session.specs.Conducts.{record_never_by_conduct, RecordOnlyThereThroughout, RecordSiteKept}
use Rattle.session.specs.declared.Session.{Session as Record}

-- ---- RedundantSession

pub record_counts_as : RecordCountsAs
record_counts_as places d m h =
    ap (λ (a : Answered). cond (ltb places 40) (refuse 3 d) (cond (consistent d) (told_of a) (refuse 27 d))) (counts_as (session_of d) m h)

open_response_lem : (kind : Kind) → is_open_response kind ≡ true → kind ≡ kinds.SessionOpenResponse
open_response_lem kinds.SessionOpenRequest h = absurd (both_ways _ refl h)
open_response_lem kinds.SessionOpenResponse h = refl
open_response_lem kinds.SessionOk h = absurd (both_ways _ refl h)
open_response_lem kinds.Ok h = absurd (both_ways _ refl h)
open_response_lem kinds.Advisory h = absurd (both_ways _ refl h)
open_response_lem kinds.Request h = absurd (both_ways _ refl h)
open_response_lem kinds.Response h = absurd (both_ways _ refl h)

redundant_session : (status : Status) → is_redundant_session status ≡ true → status ≡ statuses.RedundantSession
redundant_session statuses.Ok h = absurd (both_ways _ refl h)
redundant_session statuses.RedundantSession h = refl
redundant_session statuses.Other h = absurd (both_ways _ refl h)

pub redundant_by_its_bytes : RedundantByItsBytes
redundant_by_its_bytes bytes = (go (message_of class_of link_limits bytes) refl, λ r. rw (r.is_read, r.is_kind, r.is_there, r.says_it))
  where
    go : (r : Reading Message) → message_of class_of link_limits bytes ≡ r → is_redundant_answer (call_of r) ≡ true → ReadAsRedundant bytes
    go (whole m) e h =
        let says = (and_parts (is_open_response m.kind) (says_redundant m) h).1 in
        record {
          message = m;
          is_read = e;
          is_kind = open_response_lem m.kind (and_parts (is_open_response m.kind) (says_redundant m) h).0;
          is_there = (and_parts m.status.there (is_redundant_session m.status.meaning) says).0;
          says_it = redundant_session m.status.meaning (and_parts m.status.there (is_redundant_session m.status.meaning) says).1;
        }
    go (refused number place) e h = absurd (both_ways _ refl h)

-- ---- nothing else differs

pub tested_alike : TestedAlike
tested_alike k d = refl

pub record_only_there : RecordOnlyThere
record_only_there k places d c h = go (ltb places 40) (consistent d)
  where
    go : (short passes : Bool)
        → cond short (refuse 3 (record_in k d)) (cond passes (told_of (step (with_conduct k (session_of d)) c)) (refuse 27 (record_in k d)))
        ≡ told_in k (cond short (refuse 3 d) (cond passes (told_of (step (session_of d) c)) (refuse 27 d)))
    go true passes = refl
    go false true = ap told_of (only_there k (session_of d) c h)
    go false false = refl

-- ---- calls one after the other

pub record_only_there_throughout : RecordOnlyThereThroughout
record_only_there_throughout k d [] h = (refl, refl)
record_only_there_throughout k d (a ∷ rest) h =
    let once : Bool = not (by_conduct (session_of d) a.call) in
    let here = record_only_there k a.places d a.call (not-true (by_conduct (session_of d) a.call) (and_parts once (record_never_by_conduct (answer_to d a).next rest) h).0) in
    let later = record_only_there_throughout k (answer_to d a).next rest (and_parts once (record_never_by_conduct (answer_to d a).next rest) h).1 in (
      (λ i. seen a.call (here i) ∷ answers (here i).next rest) ∙ ap (◌∷◌ (seen a.call (answer_to d a))) later.0,
      ap (λ (t : Told). record_after t.next rest) here ∙ later.1,
    )

pub told_keeps_site : (places : ℕ) (d : Record) (c : Call) → (told places d c).next.site ≡ d.site
told_keeps_site places d c = go (ltb places 40) (consistent d)
  where
    go : (short passes : Bool) → (cond short (refuse 3 d) (cond passes (told_of (step (session_of d) c)) (refuse 27 d))).next.site ≡ d.site
    go true passes = refl
    go false true = site_stays (session_of d) c
    go false false = refl

pub record_site_kept : RecordSiteKept
record_site_kept d [] = refl
record_site_kept d (a ∷ rest) = record_site_kept (answer_to d a).next rest ∙ told_keeps_site a.places d a.call
