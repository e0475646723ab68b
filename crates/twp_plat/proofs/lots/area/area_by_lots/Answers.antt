-- The sections before that of the first lot that is lacking have none.
use Rattle.std.proofs.Common.{◌≡◌, ◌+◌, ℕ, Bool, false, sym, arith}
use Rattle.twp_land.specs.LotMaps.{layout_of_plat}
use Rattle.twp_land.proofs.LandRanges.{nothing_within}
use Rattle.twp_land.proofs.LotFacts.{section_is}
use Rattle.twp_plat.specs.LotTables.{figure_of, lots_of}
use Rattle.twp_plat.proofs.AreaFacts.{grows, area_is}
use Rattle.twp_plat.proofs.ContainedLots.{empty_has, empty_units, unmet_places}
use Rattle.twp_plat.proofs.lots.SumFacts.{sum-first, sum-next, lot_area, all_have, first_lacking, none_summed}
use Rattle.twp_plat.proofs.lots.area.area_by_lots.Goals as goal

pub loop-number-init : goal.loop-number-init
loop-number-init g c =
    let lots = c.args.lots.now in
    record {
      sum =
          rw c.number-number.ensures.value
          (sum-first (lots_of lots) (figure_of lots) (g.L.PlaceSet.places c.args.land.now) _ _
          c.in-Some.ensures.1);
      most = omega arith;
      first = omega arith;
    }

pub units_in_section-requires-clause-section : goal.units_in_section-requires-clause-section
units_in_section-requires-clause-section g c =
    let number =
    section_is c.loop-number.number c.unwrap-section.result _ c.new.ensures c.unwrap-section.ensures in
    let last = c.number-number-end.ensures.range in
    rw number (c.loop-number.invariant.first, omega (arith, last))

-- a section that the land doesn't touch adds nothing
pub loop-number-preserved-then-is_untouched : goal.loop-number-preserved-then-is_untouched
loop-number-preserved-then-is_untouched g c =
    let lots = c.args.lots.now in
    let places : ℕ → ℕ → ℕ → Bool = g.L.PlaceSet.places c.args.land.now in
    let at = c.loop-number.invariant in
    let number =
    section_is c.loop-number.number c.unwrap-section.result _ c.new.ensures c.unwrap-section.ensures in
    let free : (column row : ℕ) → places c.unwrap-section.result column row ≡ false =
    unmet_places (places c.unwrap-section.result) (c.is_untouched.ensures c.if-is_untouched.true)
    (λ column row held.
    (g.met.L.PlaceSet.within c.args.land.now c.unwrap-section.result column row held).1) in
    let same : c.loop-number.units + 0 ≡ c.loop-number.units = omega arith in
    let summed =
    sum-next (lots_of lots) (figure_of lots) places c.loop-number.number c.unwrap-section.result
    c.loop-number.units 0 at.first number at.sum
    (sym (empty_units (lots_of lots) (figure_of lots) places c.unwrap-section.result free))
    (λ lot. empty_has (lots_of lots) (figure_of lots) places c.unwrap-section.result lot free) in
    record {
      sum = rw same at summed;
      most = rw same at (grows c.loop-number.number _ c.loop-number.units 0 at.first at.most (omega arith));
      first = omega arith;
    }

pub loop-number-preserved : goal.loop-number-preserved
loop-number-preserved g c =
    let lots = c.args.lots.now in
    let at = c.loop-number.invariant in
    let number =
    section_is c.loop-number.number c.unwrap-section.result _ c.new.ensures c.unwrap-section.ensures in
    record {
      sum =
          sum-next (lots_of lots) (figure_of lots) (g.L.PlaceSet.places c.args.land.now) c.loop-number.number
          c.unwrap-section.result c.loop-number.units c.in-Ok.more at.first number at.sum
          c.in-Ok.ensures.units c.in-Ok.ensures.figures;
      most =
          grows c.loop-number.number _ c.loop-number.units c.in-Ok.more at.first at.most c.in-Ok.ensures.most;
      first = omega arith;
    }

pub returns-in-Err-clause-lacking : goal.returns-in-Err-clause-lacking
returns-in-Err-clause-lacking g c =
    let lots = c.args.lots.now in
    let number =
    section_is c.loop-number.number c.unwrap-section.result _ c.new.ensures c.unwrap-section.ensures in
    first_lacking (lots_of lots) (figure_of lots) (g.L.PlaceSet.places c.args.land.now) c.loop-number.number
    c.loop-number.units c.unwrap-section.result _ _ number c.loop-number.invariant.sum
    c.in-Err.ensures.lacking

pub returns-in_default-clause-figures : goal.returns-in_default-clause-figures
returns-in_default-clause-figures g c =
    let lots = c.args.lots.now in
    let places = g.L.PlaceSet.places c.args.land.now in
    all_have (lots_of lots) (figure_of lots) places 37 36 37 0
    (nothing_within places 37 36 c.in_default.ensures)
    (omega arith) (none_summed (lots_of lots) (figure_of lots) places c.in_default.ensures)

pub returns-in_default-clause-area : goal.returns-in_default-clause-area
returns-in_default-clause-area g c =
    let lots = c.args.lots.now in
    let places = g.L.PlaceSet.places c.args.land.now in
    lot_area (layout_of_plat lots.plat.mapped lots.plat.map.positions lots.plat.map.divided) (figure_of lots)
    places 37 36 37 0 c.zero.result (nothing_within places 37 36 c.in_default.ensures) (omega arith)
    (omega arith)
    (none_summed (lots_of lots) (figure_of lots) places c.in_default.ensures) c.zero.ensures

pub returns-clause-figures : goal.returns-clause-figures
returns-clause-figures g c =
    let lots = c.args.lots.now in
    let lies = c.in-Some.ensures in
    all_have (lots_of lots) (figure_of lots) (g.L.PlaceSet.places c.args.land.now) _ _ c.loop-number.number
    c.loop-number.units lies.1 (omega arith) c.loop-number.invariant.sum

pub returns-clause-area : goal.returns-clause-area
returns-clause-area g c =
    let lots = c.args.lots.now in
    let lies = c.in-Some.ensures in
    lot_area (layout_of_plat lots.plat.mapped lots.plat.map.positions lots.plat.map.divided) (figure_of lots)
    (g.L.PlaceSet.places c.args.land.now) _ _ c.loop-number.number c.loop-number.units c.unwrap.result lies.1
    (omega arith) (omega arith) c.loop-number.invariant.sum
    (area_is c.loop-number.units 1 _ c.unwrap.result (rw c.from.ensures at c.new-2.ensures) c.unwrap.ensures)
