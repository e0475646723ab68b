-- The field of a township's record that fails is the only one to blame.
use Rattle.std.proofs.Common.{refl, sym, subst}
use Rattle.twp_diagnose.specs.RecordFields.{fields_in}
use Rattle.twp_sentences.specs.Blamed.{AreBlamed, IsNotOfTownship, IsOneField}
use Rattle.twp_sentences.proofs.field_notes.blamed.blamed.Goals as goal

pub returns-in-Township : goal.returns-in-Township
returns-in-Township c =
    let fields = fields_in c.args.«record».now in
    subst (λ fault. AreBlamed fault fields c.one-in-Township.result) (sym c.in-Township.is)
    (λ size none. subst (IsOneField (IsNotOfTownship fields)) (sym c.one-in-Township.ensures)
    (record { fails = c.unlike_township.ensures size none; one = refl }))
