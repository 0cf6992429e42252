-- The codes of events (document 01, "The session"). Assumes nothing.
use Rattle.std.specs.Prelude.{ℕ}
use Rattle.conduct.specs.declared.Pushed.{Pushed}
use Rattle.conduct.specs.declared.Pushed.TheVariants.{Response, Advisory}

abbrev pub connect : ℕ
connect = 1

abbrev pub send_session_open_request : ℕ
send_session_open_request = 2

abbrev pub send_session_ok : ℕ
send_session_ok = 3

abbrev pub send_response : ℕ
send_response = 4

abbrev pub send_response_again : ℕ
send_response_again = 5

abbrev pub send_advisory : ℕ
send_advisory = 6

abbrev pub disconnect : ℕ
disconnect = 7

abbrev pub up : ℕ
up = 8

abbrev pub closed_acknowledged : ℕ
closed_acknowledged = 9

abbrev pub closed_advised : ℕ
closed_advised = 10

abbrev pub closed_timed_out : ℕ
closed_timed_out = 11

abbrev pub closed_lost : ℕ
closed_lost = 12

abbrev pub request_arrived : ℕ
request_arrived = 13

abbrev pub out_of_place : ℕ
out_of_place = 14

abbrev pub unmatched : ℕ
unmatched = 15

abbrev pub unreadable : ℕ
unreadable = 16

abbrev pub advisory_arrived : ℕ
advisory_arrived = 17

abbrev pub send_alert : ℕ
send_alert = 18

abbrev pub send_going_out_of_service : ℕ
send_going_out_of_service = 19

-- the first sending of a push
abbrev pub sending : Pushed → ℕ
sending Response = send_response
sending Advisory = send_advisory
