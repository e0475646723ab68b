use Rattle.std.proofs.Common.{ap, sym, ◌∙◌, arith}
use Rattle.twp_measure.specs.Areas.{Fraction}
use Rattle.twp_grid.proofs.TotalFacts.{total-zero}
use Rattle.twp_plat.proofs.AreaSums.{sum_next, most_next, units_are}
use Rattle.twp_plat.proofs.plat.Plat.row_area.Goals as goal

pub loop-column-init : goal.loop-column-init
loop-column-init c =
    let none = ap (λ (a : Fraction). a.units) c.zero-area.ensures in
    record {
      over = ap (λ (a : Fraction). a.over) c.zero-area.ensures ∙ c.over.ensures.value;
      units = λ pieces are. none ∙ sym (total-zero _);
      most = omega (arith, none);
    }

pub loop-column-preserved : goal.loop-column-preserved
loop-column-preserved c =
    let at = c.loop-column.invariant in
    let piece = c.piece_area.ensures in
    let sum = c.plus-area.ensures in
    record {
      over = sum.over ∙ at.over;
      units = λ pieces are.
          sum.units
          ∙ sum_next c.loop-column.column c.loop-column.area.units c.piece_area.result.units
          (λ column. pieces c.args.section column c.args.row) (at.units pieces are)
          (units_are c.args.self.now c.args.section c.loop-column.column c.args.row c.piece_area.result
          pieces piece.piece piece.over (omega arith) c.requires are);
      most =
          rw sum.units
          (most_next c.loop-column.column _ c.loop-column.area.units c.piece_area.result.units at.most
          (omega (arith, piece.most, piece.over, c.over.ensures.value, c.over.ensures.range)));
    }
