-- THEOREM `twelve_examples`: every row of the table holds, and there are twelve. Assumes nothing.
use mathlib.Core.Path.{refl}
use Rattle.examples.specs.Twelve.{TwelveExamples}
use Rattle.examples.proofs.Streams.{first_cut, second_cut, longest_message, one_byte_more}
use Rattle.examples.proofs.Lines.{sample_listed}
use Rattle.examples.proofs.Messages.{messages_read}
use Rattle.examples.proofs.Pushes.{pushes_closed}

pub twelve_examples : TwelveExamples
twelve_examples = (
  refl,
  (
    first_cut,
    (
      second_cut,
      (
        longest_message,
        (
          one_byte_more,
          (
            sample_listed.0,
            (
              sample_listed.1,
              (
                messages_read.0,
                (messages_read.1, (messages_read.2, (pushes_closed.0, (pushes_closed.1, (pushes_closed.2, tt))))),
              ),
            ),
          ),
        ),
      ),
    ),
  ),
)
