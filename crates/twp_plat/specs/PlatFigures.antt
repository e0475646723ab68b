-- The acreage figures that a plat shows. Each is the exact area of a lot, of a section, or of the
-- township, rounded once, in hundredths of an acre.
use Rattle.std.specs.Prelude.{◌≡◌, ℕ, Some}
use Rattle.twp_measure.specs.Areas.{Fraction, IsRounded}
use Rattle.twp_grid.specs.Winding.{IsSection}
use Rattle.twp_grid.specs.Lots.{position_of_lot}
use Rattle.twp_plat.specs.Plats.{SurveyPlat}
use Rattle.twp_plat.specs.Pieces.{IsSectionArea, IsTownshipArea}
use Rattle.twp_plat.specs.LotFigures.{IsLotFigure}

-- the figure of a section: the sum of its pieces, rounded
pub record IsSectionFigure (plat : SurveyPlat) (section hundredths : ℕ) : Type 0 where
  pub area : Fraction
  pub area_is : IsSectionArea plat section area
  pub rounded : IsRounded area hundredths

-- the figure of the township: the sum of its sections' areas, rounded
pub record IsTownshipFigure (plat : SurveyPlat) (hundredths : ℕ) : Type 0 where
  pub area : Fraction
  pub area_is : IsTownshipArea plat area
  pub rounded : IsRounded area hundredths

-- the figures of a plat: of lots by section and number, of sections, and of the township
pub record PlatFigures : Type 0 where
  pub lots : ℕ → ℕ → ℕ
  pub sections : ℕ → ℕ
  pub township : ℕ

-- these are the plat's figures
pub record AreFigures (plat : SurveyPlat) (figures : PlatFigures) : Type 0 where
  pub lots : (section lot column row : ℕ) → IsSection section
      → position_of_lot section lot ≡ Some (column, row)
      → IsLotFigure plat section column row (figures.lots section lot)
  pub sections : (section : ℕ) → IsSection section
      → IsSectionFigure plat section (figures.sections section)
  pub township : IsTownshipFigure plat figures.township
