-- Laws over accounts of tracts and their figures.
use Rattle.std.specs.Prelude.{◌≡◌, ℕ, ◌+◌, ◌<◌, Bool, List, length}
use Rattle.twp_measure.specs.Areas.{Fraction}
use Rattle.twp_grid.specs.Places.{PLACE_DIGITS}
use Rattle.twp_grid.specs.Spans.{total}
use Rattle.twp_notes.specs.Records.{Fields, record_at}
use Rattle.twp_plat.specs.Plats.{SurveyPlat}
use Rattle.twp_answers.specs.Answers.{Describe}
use Rattle.twp_plat.specs.LandAreas.{IsLandArea}
use Rattle.twp_plat.specs.LandAreaLaws.{township_places}
use Rattle.twp_answers.specs.Laws.{IsOne}
use Rattle.twp_answers.specs.Tracts.{description_in, tract_records, IsTractList, IsLandOfTracts}
use Rattle.twp_answers.specs.ReportAnswers.{other_places, IsReportAnswer}
use Rattle.twp_grid.specs.Lands.{STANDARD_LOTS}

-- the area of a set of places and the area of all others add up to the area of the township
abbrev pub RestAddsUp : Type 0
RestAddsUp = (plat : SurveyPlat) (places : ℕ → ℕ → ℕ → Bool) (area rest whole : Fraction)
    → IsLandArea PLACE_DIGITS plat places area
    → IsLandArea PLACE_DIGITS plat (other_places places) rest
    → IsLandArea PLACE_DIGITS plat (township_places PLACE_DIGITS) whole
    → area.units + rest.units ≡ whole.units

-- the area of the land of a tract's record
pub record IsTractArea (plat : SurveyPlat) (fields : Fields) (area : Fraction) : Type 0 where
  pub places : ℕ → ℕ → ℕ → Bool
  pub land : Describe STANDARD_LOTS plat.township (description_in fields) places
  pub area_is : IsLandArea PLACE_DIGITS plat places area

-- the areas of the first of these tracts, up to this number
pub record AreTractAreas (plat : SurveyPlat) (rows : List Fields) (count : ℕ)
    (areas : ℕ → Fraction) : Type 0 where
  pub each : (index : ℕ) → index < count
      → IsTractArea plat (record_at rows index) (areas index)

-- The area of all places in at least one tract of a list is exactly the sum of the tracts' areas.
abbrev pub TractsAddUp : Type 0
TractsAddUp = (plat : SurveyPlat) (bytes : List ℕ) (areas : ℕ → Fraction)
    (places : ℕ → ℕ → ℕ → Bool) (area : Fraction)
    → IsTractList STANDARD_LOTS plat.township bytes
    → AreTractAreas plat (tract_records bytes) (length (tract_records bytes)) areas
    → IsLandOfTracts STANDARD_LOTS plat.township (tract_records bytes) (length (tract_records bytes)) places
    → IsLandArea PLACE_DIGITS plat places area
    → area.units ≡ total (length (tract_records bytes)) (λ index. (areas index).units)

-- the same two texts, the field notes and the list of tracts, always have one account, or one
-- refusal
abbrev pub OneReportAnswer : Type 0
OneReportAnswer = (notes tracts : List ℕ) → IsOne (IsReportAnswer notes tracts)
