-- Why the record of land that is not there is not entered.
use Rattle.std.proofs.Common.{◌≡◌, sym, ◌∙◌}
use Rattle.twp_plat.proofs.lots.RowFacts.{no_land_refused}
use Rattle.twp_plat.proofs.lots.land_row.enter_row.Goals as goal

pub returns-then-named-eq-NO_LAND-clause-fault : goal.returns-then-named-eq-NO_LAND-clause-fault
returns-then-named-eq-NO_LAND-clause-fault c =
    no_land_refused _ c.args.number c.in-Some.named.section c.in-Some.named.mark c.args.marks.now.sections
    c.args.lots.now c.enter_parts.result (sym c.len.ensures ∙ c.if-len-ne-LAND_FIELDS.false) c.in-Some.ensures
    c.if-named-eq-NO_LAND.true c.enter_parts.ensures.fault
