-- The area of a position of a section, its piece, is interpolated between the section's lines. This
-- rule, including its use in section 6, is the project's own. A position's column is counted from
-- the east and its row from the south, 0 to 3. Lengths are in thousandths of a chain. The areas of whole
-- sections, and of the township, are sums of pieces, without rounding. The quotients are exact, and
-- need not be in lowest terms.
use Rattle.std.specs.Prelude.{ℕ, ◌+◌, ◌*◌, List, [], ◌∷◌, take, slice_index_or, pos, ◌-ℤ◌, ◌*ℤ◌, ◌≡◌, ℤ, ◌+ℤ◌}
use Rattle.std.specs.List.{sum}
use Rattle.twp_measure.specs.Areas.{Fraction}
use Rattle.twp_grid.specs.Winding.{SECTIONS_ACROSS, WESTERN_COLUMN, SECTION_COUNT, IsSection}
use Rattle.twp_grid.specs.Lines.{north_run, west_run}
use Rattle.twp_plat.specs.Closing.{QUARTER_MILE, CLOSING_MOST}
use Rattle.twp_plat.specs.Plats.{SurveyPlat, closing_quarter_of, ClosingQuarters, AreClosingQuarters}
use Rattle.twp_grid.specs.Lots.{IsPosition}
use Rattle.twp_grid.specs.Spans.{total, over_positions}

-- a numerator, which can be negative, over a denominator
pub record Ratio : Type 0 where
  pub numerator : ℤ
  pub denominator : ℕ

-- one number over another
abbrev pub ratio : ℤ → ℕ → Ratio
ratio numerator denominator = record { numerator = numerator; denominator = denominator }

-- a whole number, over 1
abbrev pub whole : ℕ → Ratio
whole n = ratio (pos n) 1

-- the sum of two quotients
abbrev pub plus : Ratio → Ratio → Ratio
plus a b = ratio (a.numerator *ℤ pos b.denominator +ℤ b.numerator *ℤ pos a.denominator)
    (a.denominator * b.denominator)

-- the product of two quotients
abbrev pub times : Ratio → Ratio → Ratio
times a b = ratio (a.numerator *ℤ b.numerator) (a.denominator * b.denominator)

-- half the sum of two quotients
abbrev pub mean : Ratio → Ratio → Ratio
mean a b = times (ratio (pos 1) 2) (plus a b)

-- both quotients are the same number
abbrev pub IsSame : Ratio → Ratio → Type 0
IsSame a b = a.numerator *ℤ pos b.denominator ≡ b.numerator *ℤ pos a.denominator

-- the four quarter miles of a line from its start: three of 20 chains, and its closing quarter
abbrev pub quarter_miles : ℕ → List ℕ
quarter_miles closing = QUARTER_MILE ∷ QUARTER_MILE ∷ QUARTER_MILE ∷ closing ∷ []

-- one of the four, by its number from 0
abbrev pub quarter_mile : ℕ → ℕ → ℕ
quarter_mile closing number = slice_index_or (quarter_miles closing) number 0

-- the distance from the line's start to the end of this many quarter miles
abbrev pub reach : ℕ → ℕ → ℕ
reach closing count = sum (take count (quarter_miles closing))

-- the length of the line
abbrev pub line_length : ℕ → ℕ
line_length closing = sum (quarter_miles closing)

-- a length that varies linearly along a line from one value to another, at a distance from the line's start
abbrev pub straight : (start end along distance : ℕ) → Ratio
straight start end along distance = plus (whole start) (ratio ((pos end -ℤ pos start) *ℤ pos distance) along)

-- a column's width at a distance north along the west line, between its south and its north quarter mile
abbrev pub width_at : ClosingQuarters → ℕ → ℕ → Ratio
width_at q column distance = straight (quarter_mile q.south column) (quarter_mile q.north column)
    (line_length q.west) distance

-- a row's height at a distance west along the north line, between its east and its west quarter mile
abbrev pub height_at : ClosingQuarters → ℕ → ℕ → Ratio
height_at q row distance = straight (quarter_mile q.east row) (quarter_mile q.west row)
    (line_length q.north) distance

-- a position's mean width: that of its south and north edges, which are at distances along the west line
abbrev pub mean_width : ClosingQuarters → ℕ → ℕ → Ratio
mean_width q column row =
    mean (width_at q column (reach q.west row)) (width_at q column (reach q.west (row + 1)))

-- a position's mean height: that of its east and west edges, which are at distances along the north line
abbrev pub mean_height : ClosingQuarters → ℕ → ℕ → Ratio
mean_height q column row =
    mean (height_at q row (reach q.north column)) (height_at q row (reach q.north (column + 1)))

-- a position's piece: its mean width times its mean height
unfoldable pub piece : ClosingQuarters → ℕ → ℕ → Ratio
piece q column row = times (mean_width q column row) (mean_height q column row)

-- the area of a section's position on a plat, over any denominator
pub record IsPieceArea (plat : SurveyPlat) (section column row : ℕ) (area : Fraction) : Type 0 where
  pub quarters : ClosingQuarters
  pub are : AreClosingQuarters plat section quarters
  pub area_is : IsSame (ratio (pos area.units) area.over) (piece quarters column row)

-- the number that a section's pieces are divided by: four times the product of the lengths of its
-- north and west lines
abbrev pub divisor_of : ClosingQuarters → ℕ
divisor_of q = 4 * line_length q.north * line_length q.west

-- the denominator of all areas is section 6's, which has the westernmost lines of the first tier and row
unfoldable pub over_of : SurveyPlat → ℕ
over_of plat = 4 * line_length (closing_quarter_of plat (west_run 0 WESTERN_COLUMN))
    * line_length (closing_quarter_of plat (north_run 0 SECTIONS_ACROSS))

-- the greatest possible denominator
abbrev pub OVER_MOST : ℕ
OVER_MOST = 4 * line_length CLOSING_MOST * line_length CLOSING_MOST

-- the units of each section's pieces over the plat's denominator, by the position's column and row
pub record ArePieces (plat : SurveyPlat) (pieces : ℕ → ℕ → ℕ → ℕ) : Type 0 where
  pub is_piece : (section column row : ℕ) → IsSection section → IsPosition column row
      → IsPieceArea plat section column row
      (record { units = pieces section column row; over = over_of plat })

-- the area of a section: the sum of its pieces, over the plat's denominator
pub record IsSectionArea (plat : SurveyPlat) (section : ℕ) (area : Fraction) : Type 0 where
  pub pieces : ℕ → ℕ → ℕ → ℕ
  pub are : ArePieces plat pieces
  pub over_is : area.over ≡ over_of plat
  pub sum_is : area.units ≡ over_positions (pieces section)

-- the area of the township: the sum of its sections' areas, over the plat's denominator
pub record IsTownshipArea (plat : SurveyPlat) (area : Fraction) : Type 0 where
  pub pieces : ℕ → ℕ → ℕ → ℕ
  pub are : ArePieces plat pieces
  pub over_is : area.over ≡ over_of plat
  pub sum_is : area.units ≡ total SECTION_COUNT (λ before. over_positions (pieces (before + 1)))
