-- What Results say (specs/Names), which antt computes. Assumes nothing.
use mathlib.Core.Path.{refl}
use Rattle.line.specs.Names.{TakenSays, NotTakenSays, NotTakenByName, ReadSays, NotReadSays, NotReadByName}

pub taken_says : TakenSays
taken_says h t = (refl, refl, refl, refl, refl)

pub not_taken_says : NotTakenSays
not_taken_says h r = (refl, refl, refl, refl)

pub not_taken_by_name : NotTakenByName
not_taken_by_name = (refl, refl, refl)

pub read_says : ReadSays
read_says m = refl

pub not_read_says : NotReadSays
not_read_says r = refl

pub not_read_by_name : NotReadByName
not_read_by_name = (refl, refl, refl, refl, refl, refl, refl)
