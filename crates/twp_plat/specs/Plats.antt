-- The plat that field notes make: the township, and the closing quarters of its lines.
use Rattle.std.specs.Prelude.{◌≡◌, ℕ, ◌≤◌, List, [], ◌∷◌, length, slice_index_or}
use Rattle.twp_grid.specs.Lines.{LINE_COUNT, IsLine, IsClosing, AreSides}
use Rattle.twp_grid.specs.Townships.{Designation}
use Rattle.twp_notes.specs.FieldNotes.{FieldNotes, returned_of}
use Rattle.twp_plat.specs.Closing.{QUARTER_MILE, CLOSING_LEAST, CLOSING_MOST, MakesPlat}
use Rattle.twp_plat.specs.Closing.{IsClosingQuarter}

-- a township, and its lines' closing quarters by index
pub record SurveyPlat : Type 0 where
  pub township : Designation
  pub closing_quarters : List ℕ

-- the closing quarter of a line
abbrev pub closing_quarter_of : SurveyPlat → ℕ → ℕ
closing_quarter_of plat line = slice_index_or plat.closing_quarters line 0

-- the plat with these parts
abbrev pub plat_of_parts : Designation → List ℕ → SurveyPlat
plat_of_parts township closing_quarters =
    record { township = township; closing_quarters = closing_quarters }

-- the plat of the notes
pub record IsPlatOf (notes : FieldNotes) (plat : SurveyPlat) : Type 0 where
  pub makes : MakesPlat notes
  pub township_is : plat.township ≡ notes.township
  pub closing : (line : ℕ) → IsLine line
      → IsClosingQuarter line (returned_of notes line) (closing_quarter_of plat line)
  pub lines : length plat.closing_quarters ≡ LINE_COUNT

-- a valid closing quarter of a line on a plat
pub record IsQuarterOnPlat (line quarter : ℕ) : Type 0 where
  pub least : CLOSING_LEAST ≤ quarter
  pub most : quarter ≤ CLOSING_MOST
  pub regular : ¬ IsClosing line → quarter ≡ QUARTER_MILE

-- the closing quarters of a valid plat, by the lines' indexes
abbrev pub AreQuartersOnPlat : List ℕ → Type 0
AreQuartersOnPlat closing_quarters = (line : ℕ) → IsLine line
    → IsQuarterOnPlat line (slice_index_or closing_quarters line 0)

-- the facts that hold for every plat, whatever its notes
pub record IsPlat (plat : SurveyPlat) : Type 0 where
  pub lines : length plat.closing_quarters ≡ LINE_COUNT
  pub within : (line : ℕ) → IsLine line → IsQuarterOnPlat line (closing_quarter_of plat line)

-- the closing quarters of a section's east, west, north, and south lines
pub record ClosingQuarters : Type 0 where
  pub east : ℕ
  pub west : ℕ
  pub north : ℕ
  pub south : ℕ

-- these are the closing quarters of the section's lines
pub record AreClosingQuarters (plat : SurveyPlat) (section : ℕ) (q : ClosingQuarters) : Type 0 where
  pub east_line : ℕ
  pub west_line : ℕ
  pub north_line : ℕ
  pub south_line : ℕ
  pub sides : AreSides section (east_line ∷ west_line ∷ north_line ∷ south_line ∷ [])
  pub east : q.east ≡ closing_quarter_of plat east_line
  pub west : q.west ≡ closing_quarter_of plat west_line
  pub north : q.north ≡ closing_quarter_of plat north_line
  pub south : q.south ≡ closing_quarter_of plat south_line
