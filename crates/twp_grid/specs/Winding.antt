-- How a township's sections are numbered and arranged (Manual of Surveying Instructions 2009,
-- chapter 3).
use Rattle.std.specs.Prelude.{◌≡◌, ℕ, ◌+◌, ◌-◌, ◌*◌, ◌%◌, ◌≤◌, ◌<◌, ◌⊎◌}

-- the number of sections along a side of a township
abbrev pub SECTIONS_ACROSS : ℕ
SECTIONS_ACROSS = 6

-- the number of sections in a township
abbrev pub SECTION_COUNT : ℕ
SECTION_COUNT = SECTIONS_ACROSS * SECTIONS_ACROSS

-- the column of the sections along the township's west boundary
abbrev pub WESTERN_COLUMN : ℕ
WESTERN_COLUMN = SECTIONS_ACROSS - 1

-- the valid section numbers
abbrev pub IsSection : ℕ → Type 0
IsSection number = (1 ≤ number) × (number ≤ SECTION_COUNT)

-- the section is in this row from the north and column from the east: even rows are numbered westward
pub record LiesAt (number row column : ℕ) : Type 0 where
  pub row_range : row < SECTIONS_ACROSS
  pub column_range : column < SECTIONS_ACROSS
  pub winds : ((row % 2 ≡ 0) × (number ≡ SECTIONS_ACROSS * row + column + 1))
      ⊎ ((row % 2 ≡ 1) × (number + column ≡ SECTIONS_ACROSS * row + SECTIONS_ACROSS))
