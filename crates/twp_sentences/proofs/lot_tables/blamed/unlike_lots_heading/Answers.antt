-- The first three fields are those of the heading, and all after those of the heading are blamed.
use Rattle.std.proofs.Common.{refl, sym, ◌∙◌}
use Rattle.twp_sentences.specs.BlamedInTables.{more_fields}
use Rattle.twp_sentences.proofs.lot_tables.blamed.unlike_lots_heading.Goals as goal

pub returns-else-not-is_exactly-3 : goal.returns-else-not-is_exactly-3
returns-else-not-is_exactly-3 c = λ unlike.
    more_fields c.heading_fields.result (record {
      section = sym c.text.ensures ∙ c.is_exactly.ensures.0 c.if-not-is_exactly.false;
      lot =
          sym c.text-else-not-is_exactly.ensures
          ∙ c.is_exactly-else-not-is_exactly.ensures.0 c.if-not-is_exactly-2.false;
      acres =
          sym c.text-else-not-is_exactly-2.ensures
          ∙ c.is_exactly-else-not-is_exactly-2.ensures.0 c.if-not-is_exactly-3.false;
    }) c.heading_fields.ensures
    (record { first_is = refl; last_is = rw c.len.ensures at c.saturating_sub.ensures })
