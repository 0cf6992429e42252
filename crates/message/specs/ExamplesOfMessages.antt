-- Promise 9, the definitions at work on the seven: which messages are one of them, and what is read of each. And the numbers that C sees.
-- (proofs/MessagesAtWork, proofs/NumbersForC) Assumes nothing.
use Rattle.std.specs.Prelude.{ℕ, ◌≡◌, true, List, [], ◌∷◌, ◌++◌, map, Option, None, Some}
use Prim.Native.String.{String}
use Rattle.message.specs.Reading.Reading.{whole}
use Rattle.message.specs.Words.{codes}
use Rattle.message.specs.Messages.{kind_number, no_status, no_number, no_type, message}
use Rattle.message.specs.Values.{number_flag, number_named, status_number, advice_number}
use Rattle.message.specs.Examples.{Example, AllAsDue, formed, stops}
use Rattle.message.specs.declared.Kind.TheVariants as kinds
use Rattle.message.specs.declared.Value.{Value}
use Rattle.message.specs.declared.Status.{Status}
use Rattle.message.specs.declared.Status.TheVariants as statuses
use Rattle.message.specs.declared.Advice.{Advice}
use Rattle.message.specs.declared.Advice.TheVariants as advices
use Rattle.message.specs.declared.Message.{Message}

-- a message that is read, and what is read of it
abbrev pub reads : Message → List ℕ → Example
reads m bytes = record { bytes = bytes; due = whole m }

-- a value with its place, its length and its meaning
abbrev pub number_at : ℕ → ℕ → Option ℕ → Value (Option ℕ)
number_at place length number = record { there = true; place = place; length = length; meaning = number }

abbrev pub status_at : ℕ → ℕ → Status → Value Status
status_at place length status = record { there = true; place = place; length = length; meaning = status }

abbrev pub type_at : ℕ → ℕ → Advice → Value Advice
type_at place length advice = record { there = true; place = place; length = length; meaning = advice }

-- the seven, each with the values that it may hold
abbrev pub open_request : Message
open_request = message kinds.SessionOpenRequest no_status no_number no_number no_number no_type

abbrev pub open_response : Value Status → Message
open_response status = message kinds.SessionOpenResponse status no_number no_number no_number no_type

abbrev pub session_ok : Value (Option ℕ) → Message
session_ok identity = message kinds.SessionOk no_status identity no_number no_number no_type

abbrev pub ok : Value (Option ℕ) → Message
ok in_response_to = message kinds.Ok no_status no_number in_response_to no_number no_type

abbrev pub advisory : Value (Option ℕ) → Value Advice → Message
advisory in_relation_to type = message kinds.Advisory no_status no_number no_number in_relation_to type

abbrev pub request : Value (Option ℕ) → Message
request identity = message kinds.Request no_status identity no_number no_number no_type

abbrev pub response : Value (Option ℕ) → Message
response in_response_to = message kinds.Response no_status no_number in_response_to no_number no_type

-- a SessionOpenResponse with a status, and an Advisory with a type
abbrev pub with_status : String → List ℕ
with_status uri = codes "<SessionOpenResponse status=\"" ++ (codes uri ++ codes "\"/>")

abbrev pub with_type : String → List ℕ
with_type content = codes "<Advisory><Advisory><AdvisoryType>" ++ (codes content ++ codes "</AdvisoryType></Advisory></Advisory>")

abbrev pub MessagesAtWork : Type 0
MessagesAtWork =
    AllAsDue
    ( -- the listing's two items
    reads (ok (number_at 18 1 (Some 7))) (codes "<Ok inResponseTo=\"7\"/>")
    ∷ stops 9 4 (codes "<Ok>")
    ∷  -- Ok needs its number; what does not name one is there and names nothing
    formed (codes "<Ok/>")
    ∷ formed (codes "<Ok ID=\"7\"/>")
    ∷ reads (ok (number_at 18 3 None)) (codes "<Ok inResponseTo=\"007\"/>")
    ∷ reads (ok (number_at 18 2 None)) (codes "<Ok inResponseTo=\" 7\"/>")
    ∷ reads (ok (number_at 18 0 None)) (codes "<Ok inResponseTo=\"\"/>")
    ∷ reads (ok (number_at 18 5 (Some 7))) (codes "<Ok inResponseTo=\"&#55;\"/>")
    ∷ reads (ok (number_at 18 10 (Some 4294967295))) (codes "<Ok inResponseTo=\"4294967295\"/>")
    ∷ reads (ok (number_at 18 10 None)) (codes "<Ok inResponseTo=\"4294967296\"/>")
    ∷  -- elements are found by the name behind the colon, attributes by the whole name
    reads (ok (number_at 26 1 (Some 0))) (codes "<a:Ok b=\"\"  inResponseTo='0'>c<d/></a:Ok>")
    ∷ formed (codes "<Ok a:inResponseTo=\"7\"/>")
    ∷ formed (codes "<SessionOK ID=\"7\"/>")
    ∷  -- a SessionOpenRequest needs nothing, and its content is free
    reads open_request (codes "<SessionOpenRequest/>")
    ∷ reads open_request (codes "<SessionOpenRequest ID=\"7\"><SessionOkInterval>PT10S</SessionOkInterval></SessionOpenRequest>")
    ∷  -- a SessionOpenResponse needs its status
    reads (open_response (status_at 29 33 statuses.Ok)) (with_status "urn:nena-org:dtc:aqstcp:status:Ok")
    ∷ reads (open_response (status_at 29 47 statuses.RedundantSession)) (with_status "urn:nena-org:dtc:aqstcp:status:RedundantSession")
    ∷ reads (open_response (status_at 29 46 statuses.Other)) (with_status "urn:nena-org:dtc:aqstcp:status:VersionMismatch")
    ∷ reads (open_response (status_at 29 34 statuses.Other)) (with_status " urn:nena-org:dtc:aqstcp:status:Ok")
    ∷ reads (open_response (status_at 29 0 statuses.Other)) (with_status "")
    ∷ formed (codes "<SessionOpenResponse/>")
    ∷  -- a SessionOk needs its number
    reads (session_ok (number_at 15 1 (Some 7))) (codes "<SessionOk ID=\"7\"/>")
    ∷ formed (codes "<SessionOk inResponseTo=\"7\"/>")
    ∷  -- an Advisory needs a type, in its only child; comments in it mean nothing, and an element makes it other
    reads (advisory no_number (type_at 34 60 advices.UnreadableMessage)) (with_type "urn:nena-org:dtc:aqs:notif:advisory:appl-x:UnreadableMessage")
    ∷ reads (advisory no_number (type_at 34 68 advices.UnreadableMessage)) (with_type "urn:nena-org:dtc:aqs:notif<!-- -->:advisory:appl-x:UnreadableMessage")
    ∷ reads (advisory no_number (type_at 34 64 advices.Other)) (with_type "urn:nena-org:dtc:aqs:notif:advisory:appl-x:UnreadableMessage<a/>")
    ∷ reads (advisory no_number (type_at 34 61 advices.Other)) (with_type "urn:nena-org:dtc:aqs:notif:advisory:appl-x:UnreadableMessage ")
    ∷ reads (advisory no_number (type_at 34 53 advices.Other)) (with_type "urn:nena-org:dtc:aqs:notif:advisory:GoingOutOfService")
    ∷ formed (codes "<Advisory><Advisory/></Advisory>")
    ∷ formed (codes "<Advisory><AdvisoryType/></Advisory>")
    ∷ formed (codes "<Advisory><Advisory><a><AdvisoryType/></a></Advisory></Advisory>")
    ∷ formed (codes "<Advisory><Advisory><AdvisoryType/></Advisory><Advisory/></Advisory>")
    ∷  -- the first type counts, and is 0 and 0 of an empty-element tag; the number stands on the child, or is not there
    reads (advisory no_number (type_at 0 0 advices.Other))
    (codes "<Advisory inRelationTo=\"7\"><Advisory><a/><AdvisoryType/><AdvisoryType>b</AdvisoryType></Advisory></Advisory>")
    ∷ reads (advisory (number_at 34 1 (Some 7)) (type_at 0 0 advices.Other))
    (codes "<Advisory><Advisory inRelationTo=\"7\"><AdvisoryType/></Advisory></Advisory>")
    ∷ reads (advisory (number_at 36 1 None) (type_at 55 1 advices.Other))
    (codes "<Advisory><a:Advisory inRelationTo=\"b\"><c:AdvisoryType>d</c:AdvisoryType></a:Advisory></Advisory>")
    ∷  -- a Request needs the number of its only child
    reads (request (number_at 29 1 (Some 7))) (codes "<Request><a:QueryRequest ID=\"7\"/></Request>")
    ∷ reads (request (number_at 36 1 (Some 7))) (codes "<Request>a<!-- --><QueryRequest ID=\"7\"><b/><c/></QueryRequest>d</Request>")
    ∷ formed (codes "<Request ID=\"7\"><QueryRequest/></Request>")
    ∷ formed (codes "<Request ID=\"7\"/>")
    ∷ formed (codes "<Request><QueryRequest ID=\"7\"/><a/></Request>")
    ∷ formed (codes "<Request><a/><QueryRequest ID=\"7\"/></Request>")
    ∷ formed (codes "<Request><QueryResponse ID=\"7\"/></Request>")
    ∷  -- a Response may be without
    reads (response (number_at 39 1 (Some 7))) (codes "<Response><QueryResponse inResponseTo=\"7\"/></Response>")
    ∷ reads (response no_number) (codes "<Response inResponseTo=\"7\"><QueryResponse/></Response>")
    ∷ formed (codes "<Response/>")
    ∷ [])

-- the numbers that C sees
abbrev pub NumbersForC : Type 0
NumbersForC =
    (map kind_number
    (kinds.SessionOpenRequest ∷ kinds.SessionOpenResponse ∷ kinds.SessionOk ∷ kinds.Ok ∷ kinds.Advisory ∷ kinds.Request ∷ kinds.Response ∷ [])
    ≡ 1 ∷ 2 ∷ 3 ∷ 4 ∷ 5 ∷ 6 ∷ 7 ∷ [])
    × (map status_number (statuses.Ok ∷ statuses.RedundantSession ∷ statuses.Other ∷ []) ≡ 1 ∷ 2 ∷ 0 ∷ [])
    × (map advice_number (advices.UnreadableMessage ∷ advices.Other ∷ []) ≡ 1 ∷ 0 ∷ [])
    × (map number_flag (Some 7 ∷ None ∷ []) ≡ 1 ∷ 0 ∷ [])
    × (map number_named (Some 7 ∷ None ∷ []) ≡ 7 ∷ 0 ∷ [])
