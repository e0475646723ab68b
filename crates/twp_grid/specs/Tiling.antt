-- How a section's positions, and therefore its lots, contain its places.
use Rattle.std.specs.Prelude.{◌==◌, ◌&&◌, ℕ, Bool, count_by, is_none}
use Rattle.twp_grid.specs.Lots.{POSITIONS_ACROSS, Lot, lots, lot_at_position}
use Rattle.twp_grid.specs.Spans.{position_block, in_rectangle}
use Rattle.twp_grid.specs.Spans.{total, one_where}

-- how many lots in the table fill a position of a section
abbrev pub lots_filling : ℕ → ℕ → ℕ → ℕ
lots_filling section column row =
    count_by (λ (l : Lot). (l.section == section) && ((l.column == column) && (l.row == row))) lots

-- a position that no lot fills
abbrev pub is_regular : ℕ → ℕ → ℕ → Bool
is_regular section column row = is_none (lot_at_position section column row)

-- how many lots of a section contain a place
abbrev pub lots_holding : ℕ → ℕ → ℕ → ℕ → ℕ
lots_holding g section column row =
    count_by (λ (l : Lot). (l.section == section)
    && in_rectangle (position_block g l.column l.row) column row) lots

-- how many regular positions of a section contain a place
abbrev pub regular_holding : ℕ → ℕ → ℕ → ℕ → ℕ
regular_holding g section column row =
    total POSITIONS_ACROSS (λ up. total POSITIONS_ACROSS (λ along.
    one_where (is_regular section along up && in_rectangle (position_block g along up) column row)))
