-- What a reading was, from what the code says of it and the case that this is. Assumes nothing.
use mathlib.Core.Path.{◌≡◌, sym, ◌∙◌, ap}
use Rattle.std.specs.Prelude.{Result}
use Rattle.message.specs.Reading.{Reading}
use Rattle.message.specs.Names.{Named}
use Rattle.message.specs.Characters as characters
use Rattle.message.specs.declared.Refusal.{Refusal}
use Rattle.scan.specs.Answers.{name_said, character_said}
use Rattle.scan.specs.declared.Name.{Name}
use Rattle.scan.specs.declared.Character.{Character}

pub name_is : {a : Reading Named} {r r' : Result Name Refusal} → name_said r ≡ a → r ≡ r' → a ≡ name_said r'
name_is says r-is = sym says ∙ ap name_said r-is

pub character_is : {a : Reading characters.Character} {r r' : Result Character Refusal} → character_said r ≡ a → r ≡ r' → a ≡ character_said r'
character_is says r-is = sym says ∙ ap character_said r-is
