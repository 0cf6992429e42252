-- What a message shows of a value that is there, and of one that is not (specs/Seven): the values of specs/Messages compute to it. Assumes nothing.
use Prim.Native.Nat.{ℕ}
use mathlib.Core.Path.{refl}
use mathlib.Core.List.{List}
use Rattle.message.specs.Class.{class_of}
use Rattle.message.specs.Elements.{Tag, Element, Quoted}
use Rattle.message.specs.Messages.{no_number, no_status, no_type, number_value, status_value, type_value}
use Rattle.message.specs.Messages.Found.{found}
use Rattle.message.specs.Seven.{HasAttribute, NumberThere, NoNumber, StatusThere, NoStatus, TypeThere, NoType}

module _ (s : List ℕ) where
  pub no_number_lem : NoNumber s no_number
  no_number_lem = record { there = refl; place = refl; bytes = refl; means = refl }

  pub no_status_lem : NoStatus s no_status
  no_status_lem = record { there = refl; place = refl; bytes = refl; means = refl }

  pub no_type_lem : NoType s no_type
  no_type_lem = record { there = refl; place = refl; bytes = refl; means = refl }

  pub type_there : (e : Element) → TypeThere s e (type_value class_of s e)
  type_there e = record { there = refl; place = refl; bytes = refl; means = refl }

  module _ (w : List ℕ) (tag : Tag) (v : Quoted) (h : HasAttribute s w tag v) where
    pub number_there : NumberThere s w tag (number_value class_of s (found v.from v.to))
    number_there = record { value = v; has = h; there = refl; place = refl; bytes = refl; means = refl }

    pub status_there : StatusThere s w tag (status_value class_of s (found v.from v.to))
    status_there = record { value = v; has = h; there = refl; place = refl; bytes = refl; means = refl }
