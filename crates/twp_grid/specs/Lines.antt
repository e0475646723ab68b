-- The section lines of a township. Half of them are run north and half west, and each has an index
-- (this project's).
use Rattle.std.specs.Prelude.{◌≡◌, ◌≢◌, ℕ, ◌+◌, ◌*◌, ◌≤◌, ◌<◌, ◌⊎◌, List, [], ◌∷◌, Option, Some}
use Rattle.std.specs.Prelude.{None}
use Rattle.twp_grid.specs.Winding.{SECTIONS_ACROSS, WESTERN_COLUMN, LiesAt}
use Rattle.twp_grid.specs.declared.line.Run.{Run}
use Rattle.twp_grid.specs.declared.line.Run.TheVariants.{North, West}

-- the lines that bound and divide the sections of a row or of a column
abbrev pub LINES_ACROSS : ℕ
LINES_ACROSS = SECTIONS_ACROSS + 1

-- the number of lines that are run north, which is also the number run west
abbrev pub NORTH_RUN_COUNT : ℕ
NORTH_RUN_COUNT = LINES_ACROSS * SECTIONS_ACROSS

-- the number of lines in a township
abbrev pub LINE_COUNT : ℕ
LINE_COUNT = 2 * NORTH_RUN_COUNT

-- The index of a north-run line: in a row of sections, on one of seven meridians counted from the east.
abbrev pub north_run : ℕ → ℕ → ℕ
north_run row meridian = LINES_ACROSS * row + meridian

-- The index of a west-run line: on one of seven tiers counted from the north, in a column of sections.
abbrev pub west_run : ℕ → ℕ → ℕ
west_run tier column = NORTH_RUN_COUNT + SECTIONS_ACROSS * tier + column

-- the indexes of lines
abbrev pub IsLine : ℕ → Type 0
IsLine index = index < LINE_COUNT

-- the line is run this way
abbrev pub RunsAs : Run → ℕ → Type 0
RunsAs North index = index < NORTH_RUN_COUNT
RunsAs West index = NORTH_RUN_COUNT ≤ index

-- these are the lines on a section's east, west, north, and south sides
pub record AreSides (section : ℕ) (sides : List ℕ) : Type 0 where
  pub row : ℕ
  pub column : ℕ
  pub stands : LiesAt section row column
  pub sides_are : sides ≡ north_run row column ∷ north_run row (column + 1)
      ∷ west_run row column ∷ west_run (row + 1) column ∷ []

-- the line is a side of the section
pub record IsSide (section index : ℕ) : Type 0 where
  pub row : ℕ
  pub column : ℕ
  pub stands : LiesAt section row column
  pub side : (index ≡ north_run row column) ⊎ (index ≡ north_run row (column + 1))
      ⊎ (index ≡ west_run row column) ⊎ (index ≡ west_run (row + 1) column)

-- the line lies between two different sections, or on the township's boundary beside one
abbrev pub LiesBeside : ℕ → Option ℕ → ℕ → Type 0
LiesBeside section (Some other) index = (section ≢ other) × IsSide section index × IsSide other index
LiesBeside section None index = IsSide section index × ((other : ℕ) → IsSide other index → other ≡ section)

-- the line of this run between two sections, or between a section and the outside
abbrev pub IsLineOf : Run → ℕ → Option ℕ → ℕ → Type 0
IsLineOf run section other index = RunsAs run index × LiesBeside section other index

-- The closing lines: the north-run lines in the northern row, and the west-run lines in the western column.
abbrev pub IsClosing : ℕ → Type 0
IsClosing index = ((meridian : ℕ) × (meridian < LINES_ACROSS) × (index ≡ north_run 0 meridian))
    ⊎ ((tier : ℕ) × (tier < LINES_ACROSS) × (index ≡ west_run tier WESTERN_COLUMN))
