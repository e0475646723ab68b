-- Rectangles of places: the whole section, its positions, and the halves of both; and sums over numbers
-- from 0 on and over the places of a rectangle.
use Rattle.std.specs.Prelude.{◌≡◌, ℕ, ◌+◌, ◌*◌, ◌/◌, ◌%◌, ◌≤◌, ◌<◌, ◌&&◌, nat_le, nat_lt, Bool, zero, suc}
use Rattle.std.specs.Prelude.{if◌then◌else◌}
use Rattle.twp_grid.specs.Places.{places_across, places_to_position}
use Rattle.twp_grid.specs.Lots.{POSITIONS_ACROSS}

-- consecutive columns or rows: the first of them, and how many there are
pub record Interval : Type 0 where
  pub start : ℕ
  pub len : ℕ

-- a number of columns or rows from a first one
abbrev pub span_from : ℕ → ℕ → Interval
span_from start len = record { start = start; len = len }

-- the span contains this column or row
abbrev pub in_span : Interval → ℕ → Bool
in_span span place = nat_le span.start place && nat_lt place (span.start + span.len)

-- the half with the smaller numbers, in the east or the south
abbrev pub lower_half : Interval → Interval
lower_half span = span_from span.start (span.len / 2)

-- the half with the larger numbers, in the west or the north
abbrev pub upper_half : Interval → Interval
upper_half span = span_from (span.start + span.len / 2) (span.len / 2)

-- all columns or rows of a section
abbrev pub whole_span : ℕ → Interval
whole_span g = span_from 0 (places_across g)

-- the columns or rows of a position
abbrev pub position_span : ℕ → ℕ → Interval
position_span g position = span_from (position * places_to_position g) (places_to_position g)

-- The span is one of those that result from halving: it lies in the section, its length divides the
-- section's side, and its start is a multiple of its length.
pub record IsDyadic (g : ℕ) (span : Interval) : Type 0 where
  pub some : 0 < span.len
  pub within : span.start + span.len ≤ places_across g
  pub divides : places_across g % span.len ≡ 0
  pub aligned : span.start % span.len ≡ 0

-- a rectangle of places: its columns, from the east, and its rows, from the south
pub record Rectangle : Type 0 where
  pub columns : Interval
  pub rows : Interval

-- the rectangle with these columns and rows
abbrev pub rectangle : Interval → Interval → Rectangle
rectangle columns rows = record { columns = columns; rows = rows }

-- the rectangle contains the place at this column and row
abbrev pub in_rectangle : Rectangle → ℕ → ℕ → Bool
in_rectangle block column row = in_span block.columns column && in_span block.rows row

-- all places of a section
abbrev pub whole_block : ℕ → Rectangle
whole_block g = rectangle (whole_span g) (whole_span g)

-- the places of a position
abbrev pub position_block : ℕ → ℕ → ℕ → Rectangle
position_block g column row = rectangle (position_span g column) (position_span g row)

-- a single place
abbrev pub place_block : ℕ → ℕ → Rectangle
place_block column row = rectangle (span_from column 1) (span_from row 1)

-- the sum of a function's values at the numbers below n
unfoldable pub total : ℕ → (ℕ → ℕ) → ℕ
total zero f = 0
total (suc n) f = total n f + f n

-- the sum of a function's values at the column and row of each place in a block
abbrev pub total_over : Rectangle → (ℕ → ℕ → ℕ) → ℕ
total_over block f = total block.rows.len (λ up. total block.columns.len (λ along.
    f (block.columns.start + along) (block.rows.start + up)))

-- the sum of a function's values at the column and row of each position in a section
abbrev pub over_positions : (ℕ → ℕ → ℕ) → ℕ
over_positions f =
    total POSITIONS_ACROSS (λ row. total POSITIONS_ACROSS (λ column. f column row))

-- 1 if a test holds, and 0 otherwise
abbrev pub one_where : Bool → ℕ
one_where test = if test then 1 else 0
