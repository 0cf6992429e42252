-- THEOREMS on where the 28 numbers of `ali_read` stand. `absent_alone`: a value that is not there is five zeros. `each_at_its_place`: an example of the
-- order of the 28. Assumes nothing.
use mathlib.Core.Path.{refl}
use Rattle.line.specs.Read.{number_numbers, status_numbers, type_numbers, message_numbers, read_numbers}
use Rattle.line.specs.Promises.{AbsentAlone, EachAtItsPlace}

pub absent_alone : AbsentAlone
unfolding number_numbers status_numbers type_numbers
absent_alone = (refl, refl, refl)

pub each_at_its_place : EachAtItsPlace
unfolding read_numbers message_numbers number_numbers status_numbers type_numbers
each_at_its_place = refl
