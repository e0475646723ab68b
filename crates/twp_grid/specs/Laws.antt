-- Laws over the definitions.
use Rattle.std.specs.Prelude.{List, Option, Some, false, length, true, ℕ, ◌&&◌, ◌+◌, ◌-◌, ◌^◌, ◌↔◌}
use Rattle.std.specs.Prelude.{◌≡◌, ◌≤◌, ◌⊎◌}
use Rattle.twp_grid.specs.Winding.{IsSection, LiesAt}
use Rattle.twp_grid.specs.Lines.{IsLineOf}
use Rattle.twp_grid.specs.Lots.{POSITIONS_ACROSS, IsPosition, lot_at_position, position_of_lot}
use Rattle.twp_grid.specs.Places.{places_across, IsPlace, position_along, binary, begins}
use Rattle.twp_grid.specs.Spans.{in_rectangle, position_block}
use Rattle.twp_grid.specs.Cuts.{Cut, rows_asked, columns_asked, AreWithin, reached}
use Rattle.twp_grid.specs.Tiling.{lots_filling, is_regular, lots_holding, regular_holding}
use Rattle.twp_grid.specs.declared.line.Run.{Run}

-- a section is at one row and column
abbrev pub OneStanding : Type 0
OneStanding = (number row column row' column' : ℕ)
    → LiesAt number row column → LiesAt number row' column' → (row ≡ row') × (column ≡ column')

-- only one section is at a row and column
abbrev pub OneSection : Type 0
OneSection = (number number' row column : ℕ)
    → LiesAt number row column → LiesAt number' row column → number ≡ number'

-- only one line of a run lies between two sections, or between a section and the township's outside
abbrev pub OneLine : Type 0
OneLine = (run : Run) (section : ℕ) (other : Option ℕ) (line line' : ℕ)
    → IsLineOf run section other line → IsLineOf run section other line' → line ≡ line'

-- the rectangle that cuts reach contains exactly the places whose first digits are those that the
-- cuts ask for
abbrev pub HoldsWhatIsAsked : Type 0
HoldsWhatIsAsked = (g : ℕ) (cuts : List Cut) → AreWithin g cuts
    → (column row : ℕ) → IsPlace g column row
    → in_rectangle (reached g cuts) column row
    ≡ (begins (columns_asked cuts) (binary g column) && begins (rows_asked cuts) (binary g row))

-- each digit that cuts ask for halves a side
abbrev pub HalvesAsAsked : Type 0
HalvesAsAsked = (g : ℕ) (cuts : List Cut) → AreWithin g cuts
    → ((reached g cuts).columns.len ≡ 2 ^ (g - length (columns_asked cuts)))
    × ((reached g cuts).rows.len ≡ 2 ^ (g - length (rows_asked cuts)))

-- each place lies in one position of its section, if a side has at least as many places as
-- positions
abbrev pub OnePosition : Type 0
OnePosition = (g : ℕ) → POSITIONS_ACROSS ≤ places_across g → (column row : ℕ) → IsPlace g column row
    → IsPosition (position_along g column) (position_along g row)
    × ((c r : ℕ) → (in_rectangle (position_block g c r) column row ≡ true)
    ↔ ((c ≡ position_along g column) × (r ≡ position_along g row)))

-- each position is filled by one lot and is not regular, or is filled by none and is regular
abbrev pub OneLotOrRegular : Type 0
OneLotOrRegular = (section column row : ℕ) → IsSection section → IsPosition column row
    → ((lots_filling section column row ≡ 1) × (is_regular section column row ≡ false))
    ⊎ ((lots_filling section column row ≡ 0) × (is_regular section column row ≡ true))

-- the lot at a position is the lot that fills it
abbrev pub LotsMatchPositions : Type 0
LotsMatchPositions = (section column row number : ℕ) → IsSection section
    → (lot_at_position section column row ≡ Some number)
    ↔ (position_of_lot section number ≡ Some (column, row))

-- a section's lots and regular positions contain each of its places exactly once
abbrev pub HeldOnce : Type 0
HeldOnce = (g : ℕ) → POSITIONS_ACROSS ≤ places_across g
    → (section column row : ℕ) → IsSection section → IsPlace g column row
    → lots_holding g section column row + regular_holding g section column row ≡ 1
