-- Lanes of bits, and those of a block.
use Rattle.std.specs.Prelude.{◌≡◌, ℕ, ◌<◌, ◌^◌}
use Rattle.std.specs.Prelude.{List, length, slice_index_or, count_ones}
use Rattle.std.specs.Int.{bit_at}
use Rattle.twp_grid.specs.Places.{PLACE_DIGITS, places_across}
use Rattle.twp_grid.specs.Spans.{Rectangle, in_rectangle}
use Rattle.twp_grid.specs.Spans.{total, one_where}

-- the number of bits in a lane: one for each column
abbrev pub LANE_BITS : ℕ
LANE_BITS = places_across PLACE_DIGITS

-- a lane with this many bits for each row, with the bits of the block's columns in the block's rows
pub record AreBlockLanes (block : Rectangle) (lanes : List ℕ) : Type 0 where
  pub count : length lanes ≡ places_across PLACE_DIGITS
  pub below : (row : ℕ) → row < places_across PLACE_DIGITS
      → slice_index_or lanes row 0 < 2 ^ LANE_BITS
  pub bits : (column row : ℕ) → row < places_across PLACE_DIGITS
      → bit_at (slice_index_or lanes row 0) column ≡ one_where (in_rectangle block column row)

-- each lane has no more bits than there are columns
abbrev pub AreLanes : List ℕ → Type 0
AreLanes lanes =
    (row : ℕ) → row < length lanes → slice_index_or lanes row 0 < 2 ^ LANE_BITS

-- how many bits of a section's lanes are one
abbrev pub ones_in_lanes : List ℕ → ℕ
ones_in_lanes lanes = total LANE_BITS (λ row. count_ones (slice_index_or lanes row 0))
