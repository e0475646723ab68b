use Rattle.std.proofs.Common.{◌≡◌, ℕ, Some, sym}
use Rattle.twp_grid.specs.Lots.{position_of_lot}
use Rattle.twp_plat.specs.LotFigures.{IsLotFigure}
use Rattle.twp_plat.proofs.FigureFacts.{same_figure_of_lot}
use Rattle.twp_plat.proofs.plat.Plat.lot_hundredths.Goals as goal

pub returns-clause-figure : goal.returns-clause-figure
returns-clause-figure c =
    let place : ℕ × ℕ = (c.in_ok-column.column, c.in_ok-column.row) in
    let there : position_of_lot c.args.section c.args.lot ≡ Some place =
    sym c.in_ok-column.ensures.position in
    let figure : IsLotFigure c.args.self.now c.args.section place.0 place.1 c.hundredths.result = record {
      area = c.piece_area-piece.result;
      piece_is = c.piece_area-piece.ensures.piece;
      over_is = c.piece_area-piece.ensures.over;
      rounded = c.hundredths.ensures;
    } in (
      record { column = place.0; row = place.1; position_is = there; figure_is = figure },
      λ value is. sym (same_figure_of_lot c.args.self.now c.args.section c.args.lot c.hundredths.result
          value place c.in_ok-column.ensures.within there figure is),
    )
