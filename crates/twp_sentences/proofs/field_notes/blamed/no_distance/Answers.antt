-- The first distance is a length or not, and one of both is none.
use Rattle.std.proofs.Common.{sym, subst}
use Rattle.twp_measure.specs.LengthTexts.{IsLengthText}
use Rattle.twp_diagnose.specs.RecordFields.{fields_in}
use Rattle.twp_sentences.proofs.BlamedFacts.{no_corner}
use Rattle.twp_sentences.proofs.field_notes.blamed.no_distance.Goals as goal

pub returns-in-Ok : goal.returns-in-Ok
returns-in-Ok c = λ bad.
    no_corner (fields_in c.args.«record».now) c.in-Ok.field-0
    (subst (λ text. IsLengthText text c.in-Ok.field-0) c.text.ensures c.in-Ok.ensures.value) bad

pub returns-in-Err : goal.returns-in-Err
returns-in-Err c = λ bad value is.
    absurd (cc (c.in-Err.ensures.taken value
    (subst (λ text. IsLengthText text value) (sym c.text.ensures) is)))
