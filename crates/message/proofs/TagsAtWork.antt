-- Names, tags and attributes at work, which antt computes. Assumes nothing.
use mathlib.Core.Path.{refl}
use Rattle.laws.specs.Bytes.{same_bytes}
use Rattle.message.specs.Class.{class_of}
use Rattle.message.specs.Reading.{has, one, span, ends, word_at, equals_at, opened_at, closed_at}
use Rattle.message.specs.Names.{short_at, part_at, name_at}
use Rattle.message.specs.Characters.{two_at, three_at, last_two_at, four_at, long_at, digits_at, numbered_at, stands_at, predefined_at, reference_at}
use Rattle.message.specs.Text.{special_at, bracket_at, beyond_plain_in_at, beyond_plain_at, beyond_note_at, text_at, value_at, comment_at}
use Rattle.message.specs.Markup.{utf8_at, bang_at, around_at, encoding_at, declaration_at}
use Rattle.message.specs.Elements.{start_end_at, end_at, quoted_at, free_at, too_deep_at, declared_of, fresh_at, attributes_at, with_name_at}
use Rattle.message.specs.Elements.{start_at, end_part_at, end_name_at, end_tag_at, content_at, rest_at, element_at, root_at, document_at}
use Rattle.message.specs.Messages.{kind_of, message_at}
use Rattle.message.specs.Examples.{TagsAtWork}

pub tags_at_work : TagsAtWork
unfolding same_bytes
    class_of
    has one span ends word_at equals_at opened_at closed_at
    short_at part_at name_at
    two_at three_at last_two_at four_at long_at digits_at numbered_at stands_at predefined_at reference_at
    special_at bracket_at beyond_plain_in_at beyond_plain_at beyond_note_at text_at value_at comment_at
    utf8_at bang_at around_at encoding_at declaration_at
    start_end_at end_at quoted_at free_at too_deep_at declared_of fresh_at attributes_at with_name_at start_at end_part_at end_name_at end_tag_at content_at rest_at element_at root_at document_at
    kind_of message_at
tags_at_work = refl
