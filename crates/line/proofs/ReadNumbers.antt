-- THEOREMS on the numbers that `ali_read` writes. `numbers_are_28`: an answer has 28, whatever was read. `refusal_alone`: behind a refusal's number and
-- place all is 0. `numbers_written`: they are the list's first 28 places. `places_behind_unchanged`: its places from 28 on are as they were.
-- Assumes nothing.
use mathlib.Core.Path.{◌≡◌, refl}
use mathlib.Core.Bool.{Bool, true, false, cond}
use lib.ListN.{length, drop}
use lib.Seq.{take_at}
use borrow.Author.Tests.{le-ltb}
use Rattle.message.specs.Class.{class_of}
use Rattle.message.specs.Reading.Reading.{whole, refused}
use Rattle.message.specs.Limits.{link_limits}
use Rattle.message.specs.Messages.{message_of}
use Rattle.line.specs.Lists.{too_short, written}
use Rattle.line.specs.Read.{number_numbers, status_numbers, type_numbers, message_numbers, refusal_numbers, read_numbers, read_list}
use Rattle.line.specs.Promises.{NumbersAre28, NumbersWritten, PlacesBehindUnchanged, RefusalAlone}
use Rattle.line.proofs.Written.{behind_written}

pub numbers_are_28 : NumbersAre28
unfolding read_numbers message_numbers refusal_numbers number_numbers status_numbers type_numbers
numbers_are_28 (whole m) = refl
numbers_are_28 (refused number place) = refl

pub refusal_alone : RefusalAlone
unfolding read_numbers refusal_numbers
refusal_alone number place = refl

pub numbers_written : NumbersWritten
unfolding read_list
numbers_written s a many = rw (le-ltb (length a) 40 many) (take_at _ _ 28 (numbers_are_28 (message_of class_of link_limits s)))

pub places_behind_unchanged : PlacesBehindUnchanged
unfolding read_list
places_behind_unchanged s a = behind (too_short a)
  where
    behind : (t : Bool) → drop 28 (cond t a (written (read_numbers (message_of class_of link_limits s)) a)) ≡ drop 28 a
    behind true = refl
    behind false = behind_written (read_numbers (message_of class_of link_limits s)) a 28 (numbers_are_28 (message_of class_of link_limits s))
