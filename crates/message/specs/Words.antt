-- The names and texts that document 01 ("The seven messages") and source document 000 (section 7.3, Tables 3 and 6) fix. Assumes nothing.
use Rattle.std.specs.Prelude.{ℕ, List, [], ◌∷◌}
use Prim.Native.Char.{Char, code}
use Prim.Native.String.{String, [] as nothing, ◌∷◌ as ◌then◌}
use Rattle.message.specs.declared.Kind.{Kind}
use Rattle.message.specs.declared.Kind.TheVariants as kinds

-- the byte of an ASCII character, and the bytes of an ASCII text
abbrev pub char : Char → ℕ
char c = code c

abbrev pub codes : String → List ℕ
codes nothing = []
codes (c then others) = char c ∷ codes others

-- ---- the seven kinds, and the elements that three of them carry

abbrev pub session_open_request : List ℕ
session_open_request = codes "SessionOpenRequest"

abbrev pub session_open_response : List ℕ
session_open_response = codes "SessionOpenResponse"

abbrev pub session_ok : List ℕ
session_ok = codes "SessionOk"

abbrev pub ok : List ℕ
ok = codes "Ok"

abbrev pub advisory : List ℕ
advisory = codes "Advisory"

abbrev pub request : List ℕ
request = codes "Request"

abbrev pub response : List ℕ
response = codes "Response"

-- the name of a kind
abbrev pub kind_name : Kind → List ℕ
kind_name kinds.SessionOpenRequest = session_open_request
kind_name kinds.SessionOpenResponse = session_open_response
kind_name kinds.SessionOk = session_ok
kind_name kinds.Ok = ok
kind_name kinds.Advisory = advisory
kind_name kinds.Request = request
kind_name kinds.Response = response

abbrev pub query_request : List ℕ
query_request = codes "QueryRequest"

abbrev pub query_response : List ℕ
query_response = codes "QueryResponse"

abbrev pub advisory_type : List ℕ
advisory_type = codes "AdvisoryType"

-- ---- the attributes

abbrev pub status : List ℕ
status = codes "status"

abbrev pub identity : List ℕ
identity = codes "ID"

abbrev pub in_response_to : List ℕ
in_response_to = codes "inResponseTo"

abbrev pub in_relation_to : List ℕ
in_relation_to = codes "inRelationTo"

-- ---- the texts that mean something

abbrev pub ok_status : List ℕ
ok_status = codes "urn:nena-org:dtc:aqstcp:status:Ok"

abbrev pub redundant_status : List ℕ
redundant_status = codes "urn:nena-org:dtc:aqstcp:status:RedundantSession"

abbrev pub unreadable_message : List ℕ
unreadable_message = codes "urn:nena-org:dtc:aqs:notif:advisory:appl-x:UnreadableMessage"
