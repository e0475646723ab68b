-- The fields to blame are shown where they are in the record.
use Rattle.std.proofs.Common.{ap, subst}
use Rattle.twp_diagnose.specs.RecordFields.{fields_in}
use Rattle.twp_diagnose.specs.declared.location.Location.TheVariants.{Field}
use Rattle.twp_sentences.specs.BlamedInTables.{AreBlamedInTable, in_its_record}
use Rattle.twp_sentences.proofs.lot_tables.tables.find.Goals as goal

pub returns-clause-place : goal.returns-clause-place
returns-clause-place c = λ one.
    in_its_record c.in-Some.«record» c.blamed_in_table-fields.result
    (rw c.in-Some.is at (c.in_ok-record.ensures one))
    (subst (λ lot_fields. AreBlamedInTable c.args.fault lot_fields (fields_in c.in-Some.«record»)
    c.blamed_in_table-fields.result) c.in_ok-lot_fields.ensures c.blamed_in_table-fields.ensures)
    (ap Field c.span.ensures)
