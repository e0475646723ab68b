use Rattle.std.proofs.Common.{◌≡◌, ◌≢◌, sym, ◌∙◌}
use Rattle.twp_plat.specs.Plats.{AreClosingQuarters}
use Rattle.twp_plat.specs.Pieces.{over_of}
use Rattle.twp_plat.proofs.SideFacts.{over_is, regular_outside_six}
use Rattle.twp_plat.proofs.RatioFacts.{whole_in_parts}
use Rattle.twp_plat.proofs.plat.Plat.units.Goals as goal

pub returns-then-number-eq-CORNER_SECTION-clause-piece :
    goal.returns-then-number-eq-CORNER_SECTION-clause-piece
returns-then-number-eq-CORNER_SECTION-clause-piece c =
    let six : c.args.section ≡ 6 = sym c.number.ensures.value ∙ c.if-number-eq-CORNER_SECTION.true in
    let are : AreClosingQuarters c.args.self.now 6 c.quarters-quarters.result =
    rw six at c.quarters-quarters.ensures.quarters in
    record {
      quarters = c.quarters-quarters.result;
      are = c.quarters-quarters.ensures.quarters;
      area_is =
          rw (over_is c.args.self.now c.quarters-quarters.result are, c.from.ensures)
          (sym c.parts.ensures.piece);
    }

pub returns-then-number-eq-CORNER_SECTION-clause-most : goal.returns-then-number-eq-CORNER_SECTION-clause-most
returns-then-number-eq-CORNER_SECTION-clause-most c =
    let six : c.args.section ≡ 6 = sym c.number.ensures.value ∙ c.if-number-eq-CORNER_SECTION.true in
    let are : AreClosingQuarters c.args.self.now 6 c.quarters-quarters.result =
    rw six at c.quarters-quarters.ensures.quarters in
    rw (over_is c.args.self.now c.quarters-quarters.result are, c.from.ensures) c.parts.ensures.most

pub whole_units-requires-clause-regular : goal.whole_units-requires-clause-regular
whole_units-requires-clause-regular c =
    let other : c.args.section ≢ 6 = rw c.number.ensures.value at c.if-number-eq-CORNER_SECTION.false in
    regular_outside_six c.args.self.now c.args.section c.quarters-quarters.result
    c.quarters-quarters.ensures.plat c.quarters-quarters.ensures.quarters other

pub returns-clause-piece : goal.returns-clause-piece
returns-clause-piece c = record {
  quarters = c.quarters-quarters.result;
  are = c.quarters-quarters.ensures.quarters;
  area_is =
      rw (c.from-2.ensures, c.from-3.ensures, c.over.ensures.value)
      (sym (whole_in_parts _ c.whole_units.result (over_of c.args.self.now) c.whole_units.ensures.piece));
}
