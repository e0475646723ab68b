use Rattle.std.proofs.Common.{◌≡◌, ap, sym, ◌∙◌, arith}
use Rattle.twp_measure.specs.Areas.{Fraction}
use Rattle.twp_grid.specs.Spans.{total}
use Rattle.twp_grid.proofs.TotalFacts.{total-zero}
use Rattle.twp_plat.proofs.AreaSums.{sum_next, most_next, section_area}
use Rattle.twp_plat.proofs.plat.Plat.section_area.Goals as goal

pub loop-row-init : goal.loop-row-init
loop-row-init c =
    let none = ap (λ (a : Fraction). a.units) c.zero-area.ensures in
    record {
      over = ap (λ (a : Fraction). a.over) c.zero-area.ensures ∙ c.over.ensures.value;
      units = λ pieces are. none ∙ sym (total-zero _);
      most = omega (arith, none);
    }

pub loop-row-preserved : goal.loop-row-preserved
loop-row-preserved c =
    let at = c.loop-row.invariant in
    let row = c.row_area.ensures in
    let sum = c.plus-area.ensures in
    record {
      over = sum.over ∙ at.over;
      units = λ pieces are.
          sum.units
          ∙ sum_next c.loop-row.row c.loop-row.area.units c.row_area.result.units
          (λ row. total 4 (λ column. pieces c.args.section column row)) (at.units pieces are)
          (row.units pieces are);
      most =
          rw sum.units
          (most_next c.loop-row.row _ c.loop-row.area.units c.row_area.result.units at.most row.most);
    }

pub returns-clause-sum : goal.returns-clause-sum
returns-clause-sum c =
    let rows : c.loop-row.row ≡ 4 = omega arith in
    section_area c.args.self.now c.args.section c.loop-row.area c.over.ensures.plat c.loop-row.invariant.over
    (λ pieces are. rw rows at (c.loop-row.invariant.units pieces are))
