-- The lots of a township's closing sections, and the positions that they fill (Manual of Surveying
-- Instructions 2009, chapter 3). A position is a quarter-quarter of a section: its column is
-- counted from the east and its row from the south, 0 to 3.
use Rattle.std.specs.Prelude.{◌*◌, ℕ, ◌<◌, ◌==◌, ◌&&◌, List, [], ◌∷◌, Option, option_map}
use Rattle.std.specs.Prelude.{find, count_by}

-- the number of positions along a side of a section
abbrev pub POSITIONS_ACROSS : ℕ
POSITIONS_ACROSS = 4

-- the number of positions in a section
abbrev pub POSITIONS : ℕ
POSITIONS = POSITIONS_ACROSS * POSITIONS_ACROSS

-- the column and the row of a position
abbrev pub IsPosition : ℕ → ℕ → Type 0
IsPosition column row = (column < POSITIONS_ACROSS) × (row < POSITIONS_ACROSS)

-- a lot of a section and the position that it fills
pub record Lot : Type 0 where
  pub section : ℕ
  pub number : ℕ
  pub column : ℕ
  pub row : ℕ

-- a row of the table
abbrev pub lot : ℕ → ℕ → ℕ → ℕ → Lot
lot section number column row = record { section = section; number = number; column = column; row = row }

-- the 47 lots: along the north of sections 1 to 5, down the west of the western column, and both in section 6
unfoldable pub lots : List Lot
lots =
    lot 1 1 0 3 ∷ lot 1 2 1 3 ∷ lot 1 3 2 3 ∷ lot 1 4 3 3
    ∷ lot 2 1 0 3 ∷ lot 2 2 1 3 ∷ lot 2 3 2 3 ∷ lot 2 4 3 3
    ∷ lot 3 1 0 3 ∷ lot 3 2 1 3 ∷ lot 3 3 2 3 ∷ lot 3 4 3 3
    ∷ lot 4 1 0 3 ∷ lot 4 2 1 3 ∷ lot 4 3 2 3 ∷ lot 4 4 3 3
    ∷ lot 5 1 0 3 ∷ lot 5 2 1 3 ∷ lot 5 3 2 3 ∷ lot 5 4 3 3
    ∷ lot 6 1 0 3 ∷ lot 6 2 1 3 ∷ lot 6 3 2 3 ∷ lot 6 4 3 3 ∷ lot 6 5 3 2
    ∷ lot 6 6 3 1 ∷ lot 6 7 3 0
    ∷ lot 7 1 3 3 ∷ lot 7 2 3 2 ∷ lot 7 3 3 1 ∷ lot 7 4 3 0
    ∷ lot 18 1 3 3 ∷ lot 18 2 3 2 ∷ lot 18 3 3 1 ∷ lot 18 4 3 0
    ∷ lot 19 1 3 3 ∷ lot 19 2 3 2 ∷ lot 19 3 3 1 ∷ lot 19 4 3 0
    ∷ lot 30 1 3 3 ∷ lot 30 2 3 2 ∷ lot 30 3 3 1 ∷ lot 30 4 3 0
    ∷ lot 31 1 3 3 ∷ lot 31 2 3 2 ∷ lot 31 3 3 1 ∷ lot 31 4 3 0
    ∷ []

-- the lot that fills a position of a section, if one does
unfoldable pub lot_at_position : ℕ → ℕ → ℕ → Option ℕ
lot_at_position section column row = option_map (λ (l : Lot). l.number)
    (find (λ (l : Lot). (l.section == section) && (l.column == column) && (l.row == row)) lots)

-- the column and the row of a section's lot, if it has that lot
unfoldable pub position_of_lot : ℕ → ℕ → Option (ℕ × ℕ)
position_of_lot section number = option_map (λ (l : Lot). (l.column, l.row))
    (find (λ (l : Lot). (l.section == section) && (l.number == number)) lots)

-- the number of lots in a section
unfoldable pub number_of_lots : ℕ → ℕ
number_of_lots section = count_by (λ (l : Lot). l.section == section) lots
