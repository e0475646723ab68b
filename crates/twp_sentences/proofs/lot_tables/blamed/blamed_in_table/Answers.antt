-- The field of a township's record that fails is the only one to blame.
use Rattle.std.proofs.Common.{refl, sym, subst}
use Rattle.twp_diagnose.specs.RecordFields.{fields_in}
use Rattle.twp_sentences.specs.Blamed.{IsNotOfTownship, IsOneField}
use Rattle.twp_sentences.specs.BlamedInTables.{AreBlamedInTable}
use Rattle.twp_sentences.proofs.lot_tables.blamed.blamed_in_table.Goals as goal

pub returns-in-Township : goal.returns-in-Township
returns-in-Township c =
    let fields = fields_in c.args.«record».now in
    subst (λ fault. AreBlamedInTable fault c.args.lot_fields fields c.one.result) (sym c.in-Township.is)
    (λ size none. subst (IsOneField (IsNotOfTownship fields)) (sym c.one.ensures)
    (record { fails = c.unlike_township.ensures size none; one = refl }))
