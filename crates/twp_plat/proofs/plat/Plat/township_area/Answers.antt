use Rattle.std.proofs.Common.{ap, sym, ◌∙◌, arith}
use Rattle.twp_measure.specs.Areas.{Fraction}
use Rattle.twp_grid.specs.Spans.{over_positions}
use Rattle.twp_grid.proofs.TotalFacts.{total-zero}
use Rattle.twp_plat.proofs.AreaSums.{sections_next, sections_most, township_area, value_is}
use Rattle.twp_plat.proofs.plat.Plat.township_area.Goals as goal

pub loop-number-init : goal.loop-number-init
loop-number-init c =
    let none = ap (λ (a : Fraction). a.units) c.zero-area.ensures in
    record {
      over = ap (λ (a : Fraction). a.over) c.zero-area.ensures ∙ c.over.ensures.value;
      units = λ pieces are. none ∙ sym (total-zero _);
      most = omega (arith, none);
      first = omega arith;
    }

pub loop-number-preserved : goal.loop-number-preserved
loop-number-preserved c =
    let at = c.loop-number.invariant in
    let section = c.section_area.ensures in
    let sum = c.plus-area.ensures in
    let number = value_is _ _ _ c.unwrap-section.result c.new.ensures c.unwrap-section.ensures in
    record {
      over = sum.over ∙ at.over;
      units = λ pieces are.
          sum.units
          ∙ sections_next c.loop-number.number c.loop-number.area.units c.section_area.result.units
          (λ section. over_positions (pieces section)) at.first (at.units pieces are)
          (rw number at (section.units pieces are));
      most =
          rw sum.units
          (sections_most c.loop-number.number _ c.loop-number.area.units c.section_area.result.units
          at.first at.most section.most);
      first = omega arith;
    }

pub returns : goal.returns
returns c = record {
  sum =
      township_area c.args.self.now c.loop-number.number c.loop-number.area c.over.ensures.plat
      c.loop-number.invariant.over (omega arith) c.loop-number.invariant.units;
}
