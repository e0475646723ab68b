-- The first record of the line, and where it begins.
use Rattle.std.proofs.Common.{refl, rules, subst}
use Rattle.twp_diagnose.specs.Spots.{IsLineIn}
use Rattle.twp_sentences.proofs.field_notes.notes.first_of_line.Goals as goal

pub returns : goal.returns
returns c = record {
  is_first = record {
    line = c.in-Some.line;
    names = c.in-Some.ensures.0;
    found = c.in-Some-2.earlier;
    is_first = rw c.in-Some-2.is at (rw c.in_ok-earlier.was at c.of_line.ensures);
    number_is = refl;
    span_is = search rules;
  };
  line_is = λ small.
      subst (λ at. IsLineIn c.args.notes.now at c.line_in.result) c.start.ensures
      (c.line_in.ensures small);
}
