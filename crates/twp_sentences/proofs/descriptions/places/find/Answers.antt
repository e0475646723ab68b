-- What is underlined is where it is in the file.
use Rattle.std.proofs.Common.{refl}
use Rattle.twp_sentences.proofs.descriptions.places.find.Goals as goal

pub returns-clause-place : goal.returns-clause-place
returns-clause-place g c = record { span = _; is_part = refl; starts = c.in_file.ensures.place }

pub returns-clause-end : goal.returns-clause-end
returns-clause-end g c = record {
  end = c.in_ok-explained.explained.end;
  of_fault = c.in_ok-explained.ensures.span;
  ends = record { shown = _; is_part = refl; ends = c.in_file-2.ensures.place };
}
