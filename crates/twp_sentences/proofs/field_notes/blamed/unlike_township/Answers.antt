-- The first four fields are a township's, so the last one fails.
use Rattle.std.proofs.Common.{◌≡◌, ◌⊎◌, codes, sym, subst, ◌∙◌}
use Rattle.twp_diagnose.specs.RecordFields.{fields_in}
use Rattle.twp_sentences.specs.Blamed.{IsTownshipText}
use Rattle.twp_sentences.proofs.BlamedFacts.{no_way}
use Rattle.twp_sentences.proofs.field_notes.blamed.unlike_township.Goals as goal

pub returns-else-not-is_township_number-2 : goal.returns-else-not-is_township_number-2
returns-else-not-is_township_number-2 c = λ size none.
    no_way (fields_in c.args.«record».now) size none
    (sym c.text.ensures ∙ c.is_exactly.ensures.0 c.if-not-is_exactly.false)
    (subst IsTownshipText c.text-else-not-is_exactly.ensures
    (c.is_township_number.ensures.0 c.if-not-is_township_number.false))
    (subst (λ text. (text ≡ codes "N") ⊎ (text ≡ codes "S")) c.text-else-not-is_township_number.ensures
    (c.is_north_south.ensures.0 c.if-not-is_north_south.false))
    (subst IsTownshipText c.text-else-not-is_north_south.ensures
    (c.is_township_number-else-not-is_north_south.ensures.0 c.if-not-is_township_number-2.false))
