-- The fields to blame are shown where they are in the record.
use Rattle.std.proofs.Common.{ap}
use Rattle.twp_diagnose.specs.declared.location.Location.TheVariants.{Field}
use Rattle.twp_sentences.specs.Blamed.{in_its_record}
use Rattle.twp_sentences.proofs.field_notes.notes.find.Goals as goal

pub returns-clause-place : goal.returns-clause-place
returns-clause-place c = λ one.
    in_its_record c.in-Some.«record» c.blamed-fields.result
    (rw c.in-Some.is at (c.in_ok-record.ensures one)) c.blamed-fields.ensures (ap Field c.span.ensures)
