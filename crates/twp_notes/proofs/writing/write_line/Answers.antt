-- The fields of the record are those of the line.
use Rattle.std.proofs.Common.{[], ◌∷◌, decimal, refl}
use Rattle.twp_measure.specs.LengthTexts.{length_text}
use Rattle.twp_notes.specs.steps.WrittenFields.{field_text}
use Rattle.twp_notes.proofs.TextFacts.{on_ok}
use Rattle.twp_notes.proofs.writing.write_line.Goals as goal

pub returns-clause-ok : goal.returns-clause-ok
returns-clause-ok c =
    let names = c.names_of-names.result in
    on_ok c.write_record.result c.write_record.ensures.ok (λ is. (
      (c.run_letter.result ∷ []) ∷ decimal c.number.result ∷ field_text c.neighbor_field.result
          ∷ length_text c.args.returned.quarter ∷ length_text c.args.returned.corner ∷ [],
      record {
        run = names.run;
        section = names.section;
        other = names.other;
        names = c.names_of-names.ensures;
        fields_are = rw (c.run_letter.ensures, c.number.ensures.value, c.neighbor_field.ensures) refl;
      },
      is,
    ))
