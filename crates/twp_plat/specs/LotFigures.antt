-- The acreage that a plat shows for its lots, in hundredths of an acre.
use Rattle.std.specs.Prelude.{◌≡◌, ℕ, Some}
use Rattle.twp_measure.specs.Areas.{Fraction, IsRounded}
use Rattle.twp_grid.specs.Lots.{position_of_lot}
use Rattle.twp_plat.specs.Plats.{SurveyPlat}
use Rattle.twp_plat.specs.Pieces.{IsPieceArea, over_of}

-- the figure of a lot: the piece of its position, rounded
pub record IsLotFigure (plat : SurveyPlat) (section column row hundredths : ℕ) : Type 0 where
  pub area : Fraction
  pub piece_is : IsPieceArea plat section column row area
  pub over_is : area.over ≡ over_of plat
  pub rounded : IsRounded area hundredths

-- the section has a lot with this number, and this is its figure
pub record IsFigureOfLot (plat : SurveyPlat) (section lot hundredths : ℕ) : Type 0 where
  pub column : ℕ
  pub row : ℕ
  pub position_is : position_of_lot section lot ≡ Some (column, row)
  pub figure_is : IsLotFigure plat section column row hundredths
