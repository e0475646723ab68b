-- The record has a township, but its sixth field is no date.
use Rattle.std.proofs.Common.{subst}
use Rattle.csv.specs.Records.{fields_of}
use Rattle.twp_notes.specs.Records.{Fields}
use Rattle.twp_notes.specs.FieldNotes.{IsTownshipRecord}
use Rattle.twp_plat.proofs.lots.DateFacts.{no_date}
use Rattle.twp_plat.proofs.lots.plat_record.plat_of.Goals as goal

pub returns-in_default-date-clause-fault : goal.returns-in_default-date-clause-fault
returns-in_default-date-clause-fault c =
    let none =
    no_date (fields_of c.args.row.now) (c.has_plat_fields.ensures.0 c.if-not-has_plat_fields.false)
    c.in_default-date.ensures in (
      none.0,
      (
        c.in-Some.township,
        subst (λ (f : Fields). IsTownshipRecord f c.in-Some.township) c.truncate.ensures.fields
            c.in-Some.ensures.0,
      ),
      none.1,
    )
