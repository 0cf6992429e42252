-- Promise: what the Results below this crate say, by the names that a host in Rattle meets: what was taken or read as it is, and of a refusal its number, its
-- place or the numbers that were held. (proofs/Names) The promises of framing and message are about their definitions, and these tie the code's types to them. Assumes nothing.
use Rattle.std.specs.Prelude.{◌≡◌, Ok, Err}
use Rattle.framing.specs.Cutting as cutting
use Rattle.framing.specs.declared.Held.{Held}
use Rattle.framing.specs.declared.Taken.{Taken}
use Rattle.framing.specs.declared.Refusal.{Refusal as NotTaken}
use Rattle.framing.specs.declared.Refusal.TheVariants.{BoundaryLength, StoreTooShort, HeldNumbers}
use Rattle.message.specs.Reading.{said, reason_number}
use Rattle.message.specs.Reading.Reading.{whole, refused}
use Rattle.message.specs.declared.Message.{Message}
use Rattle.message.specs.declared.Refusal.{Refusal as NotRead}
use Rattle.message.specs.declared.Reason.TheVariants.{TooLong, NotWellFormed, TooDeep, TooManyAttributes, LeftOut, NoneOfTheSeven, NameTooLong}

abbrev pub TakenSays : Type 0
TakenSays = (h : Held) (t : Taken)
    → ((cutting.said h (Ok t)).refusal ≡ 0) × ((cutting.said h (Ok t)).taken ≡ t.taken) × ((cutting.said h (Ok t)).item ≡ t.item)
    × ((cutting.said h (Ok t)).gathered ≡ t.held.gathered) × ((cutting.said h (Ok t)).matched ≡ t.held.matched)

abbrev pub NotTakenSays : Type 0
NotTakenSays = (h : Held) (r : NotTaken)
    → ((cutting.said h (Err r)).refusal ≡ cutting.refusal_number r) × ((cutting.said h (Err r)).taken ≡ 0)
    × ((cutting.said h (Err r)).gathered ≡ h.gathered) × ((cutting.said h (Err r)).matched ≡ h.matched)

abbrev pub NotTakenByName : Type 0
NotTakenByName = (cutting.refusal_number BoundaryLength ≡ 1) × (cutting.refusal_number StoreTooShort ≡ 2) × (cutting.refusal_number HeldNumbers ≡ 26)

abbrev pub ReadSays : Type 0
ReadSays = (m : Message) → said (Ok m) ≡ whole m

abbrev pub NotReadSays : Type 0
NotReadSays = (r : NotRead) → said {A = Message} (Err r) ≡ refused (reason_number r.reason) r.place

abbrev pub NotReadByName : Type 0
NotReadByName =
    (reason_number TooLong ≡ 8) × (reason_number NotWellFormed ≡ 9) × (reason_number TooDeep ≡ 10) × (reason_number TooManyAttributes ≡ 11)
    × (reason_number LeftOut ≡ 12) × (reason_number NoneOfTheSeven ≡ 13) × (reason_number NameTooLong ≡ 14)
