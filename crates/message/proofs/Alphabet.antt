-- Proves specs/Alphabet, by computing. Assumes nothing.
use mathlib.Core.Path.{refl}
use Rattle.message.specs.Class.{class_of}
use Rattle.message.specs.Alphabet.{NamesBegin, NamesGoOn, SpacesAre, TextIs}

pub names_begin : NamesBegin
unfolding class_of
names_begin = refl

pub names_go_on : NamesGoOn
unfolding class_of
names_go_on = refl

pub spaces_are : SpacesAre
unfolding class_of
spaces_are = refl

pub text_is : TextIs
unfolding class_of
text_is = refl
