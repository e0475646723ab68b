-- The figures of a plat exist and are unique.
use Rattle.std.proofs.Common.{◌≡◌, ℕ, ◌+◌, ◌*◌, ◌/◌, ◌<◌, Option}
use Rattle.std.proofs.Common.{Some, refl, arith}
use Rattle.std.specs.Prelude.{unwrap_or}
use Rattle.std.proofs.lemmas.Nat.{mul-le}
use Rattle.twp_measure.specs.Areas.{Fraction, IsRounded}
use Rattle.twp_measure.proofs.RoundingFacts.{one_rounding, rounded}
use Rattle.twp_grid.specs.Winding.{SECTION_COUNT, IsSection}
use Rattle.twp_grid.specs.Lines.{north_run, west_run}
use Rattle.twp_grid.specs.Lots.{IsPosition, position_of_lot}
use Rattle.twp_grid.specs.Places.{PLACE_DIGITS}
use Rattle.twp_grid.specs.Spans.{total, over_positions}
use Rattle.twp_grid.proofs.LotFacts.{lots_match}
use Rattle.twp_land.proofs.LotFacts.{fills}
use Rattle.twp_plat.specs.Plats.{SurveyPlat, IsPlat, closing_quarter_of}
use Rattle.twp_plat.specs.Pieces.{over_of, line_length}
use Rattle.twp_plat.proofs.SectionPieces.{pieces_of}
use Rattle.twp_plat.specs.Pieces.{IsSectionArea, IsTownshipArea}
use Rattle.twp_plat.specs.LotFigures.{IsFigureOfLot}
use Rattle.twp_plat.proofs.FigureFacts.{same_figure}
use Rattle.twp_plat.specs.LandAreaLaws.{section_places, township_places}
use Rattle.twp_plat.specs.PlatFigures.{IsSectionFigure, IsTownshipFigure, PlatFigures}
use Rattle.twp_plat.specs.PlatFigures.{AreFigures}
use Rattle.twp_plat.proofs.AreaLaws.{one_land_area}
use Rattle.twp_plat.proofs.WholeAreas.{section_area_is_of_land, township_area_is_of_land}

-- the place of a lot
in_position : (section lot column row : ℕ) → IsSection section
    → position_of_lot section lot ≡ Some (column, row) → IsPosition column row
in_position section lot column row range is =
    let there = fills section column row lot range ((lots_match section column row lot range).1 is) in
    (there.in_column, there.in_row)

-- a lot has only one figure
pub same_lot : (plat : SurveyPlat) (figures : PlatFigures) (section lot h : ℕ) → IsSection section
    → AreFigures plat figures → IsFigureOfLot plat section lot h → h ≡ figures.lots section lot
same_lot plat figures section lot h range are is =
    same_figure plat section is.column is.row h (figures.lots section lot)
    (in_position section lot is.column is.row range is.position_is) is.figure_is
    (are.lots section lot is.column is.row range is.position_is)

-- a section has only one figure
pub same_section : (plat : SurveyPlat) (section h h' : ℕ) (area : Fraction) → IsSection section
    → IsSectionArea plat section area → IsRounded area h
    → IsSectionFigure plat section h' → h ≡ h'
same_section plat section h h' area range area_is rounded is =
    let same : area ≡ is.area =
    one_land_area PLACE_DIGITS (omega arith) plat (section_places PLACE_DIGITS section) area is.area
    (section_area_is_of_land plat section area range area_is)
    (section_area_is_of_land plat section is.area range is.area_is) in
    one_rounding is.area h h' (rw same at rounded) is.rounded

-- the township has only one figure
pub same_township : (plat : SurveyPlat) (h h' : ℕ) (area : Fraction) → IsTownshipArea plat area
    → IsRounded area h → IsTownshipFigure plat h' → h ≡ h'
same_township plat h h' area area_is rounded is =
    let same : area ≡ is.area =
    one_land_area PLACE_DIGITS (omega arith) plat (township_places PLACE_DIGITS) area is.area
    (township_area_is_of_land plat area area_is) (township_area_is_of_land plat is.area is.area_is) in
    one_rounding is.area h h' (rw same at rounded) is.rounded

-- a number of units over the plat's denominator, rounded
abbrev hundredths_of : SurveyPlat → ℕ → ℕ
hundredths_of plat units = (2 * units + 100000 * over_of plat) / (2 * (100000 * over_of plat))

-- each plat has figures
pub figures_of : (plat : SurveyPlat) (area : Fraction) → IsTownshipArea plat area → 0 < over_of plat
    → (figures : PlatFigures) × AreFigures plat figures
figures_of plat area is some =
    let pieces : ℕ → ℕ → ℕ → ℕ = is.pieces in
    let over : ℕ = over_of plat in
    let of_place : ℕ → Option (ℕ × ℕ) → ℕ =
    λ section place. pieces section (unwrap_or place (0, 0)).0 (unwrap_or place (0, 0)).1 in (
      record {
        lots = λ section lot. hundredths_of plat (of_place section (position_of_lot section lot));
        sections = λ section. hundredths_of plat (over_positions (pieces section));
        township = hundredths_of plat (total SECTION_COUNT (λ before. over_positions (pieces (before + 1))));
      },
      record {
        lots = λ section lot column row range there. rw there (record {
          area = record { units = pieces section column row; over = over };
          piece_is =
              is.are.is_piece section column row range (in_position section lot column row range there);
          over_is = refl;
          rounded = rounded (pieces section column row) over some;
        });
        sections = λ section range. record {
          area = record { units = over_positions (pieces section); over = over };
          area_is = record { pieces = pieces; are = is.are; over_is = refl; sum_is = refl };
          rounded = rounded (over_positions (pieces section)) over some;
        };
        township = record {
          area = record {
            units = total SECTION_COUNT (λ before. over_positions (pieces (before + 1)));
            over = over;
          };
          area_is = record { pieces = pieces; are = is.are; over_is = refl; sum_is = refl };
          rounded = rounded (total SECTION_COUNT (λ before. over_positions (pieces (before + 1)))) over some;
        };
      },
    )

-- a plat's denominator is not 0
over_some : (plat : SurveyPlat) → 0 < over_of plat
unfolding over_of
over_some plat = some (closing_quarter_of plat (west_run 0 5)) (closing_quarter_of plat (north_run 0 6))
  where
    some : (n w : ℕ) → 0 < 4 * line_length n * line_length w
    some n w =
        let least = mul-le 1 1 (4 * line_length n) (line_length w) (omega arith) (omega arith) in omega arith

pub plat_figures : (plat : SurveyPlat) → IsPlat plat → (figures : PlatFigures) × AreFigures plat figures
plat_figures plat is =
    let has = pieces_of plat is in
    let units : ℕ = total SECTION_COUNT (λ before. over_positions (has.pieces (before + 1))) in
    figures_of plat (record { units = units; over = over_of plat })
    (record { pieces = has.pieces; are = has.are; over_is = refl; sum_is = refl }) (over_some plat)
