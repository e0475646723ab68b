-- The halves and quarters of a block.
use Rattle.std.specs.Prelude.{◌<◌}
use Rattle.twp_grid.specs.Spans.{Rectangle, rectangle, lower_half, upper_half}
use Rattle.twp_grid.specs.declared.block.Side.{Side}
use Rattle.twp_grid.specs.declared.block.Side.TheVariants as side
use Rattle.twp_grid.specs.declared.block.Corner.{Corner}
use Rattle.twp_grid.specs.declared.block.Corner.TheVariants as corner

-- the half toward a side
abbrev pub half_of : Rectangle → Side → Rectangle
half_of block side.N = rectangle block.columns (upper_half block.rows)
half_of block side.S = rectangle block.columns (lower_half block.rows)
half_of block side.E = rectangle (lower_half block.columns) block.rows
half_of block side.W = rectangle (upper_half block.columns) block.rows

-- the side to be halved is more than one place
abbrev pub CanHalve : Rectangle → Side → Type 0
CanHalve block side.N = 1 < block.rows.len
CanHalve block side.S = 1 < block.rows.len
CanHalve block side.E = 1 < block.columns.len
CanHalve block side.W = 1 < block.columns.len

-- the quarter at a corner
abbrev pub quarter_of : Rectangle → Corner → Rectangle
quarter_of block corner.NE = rectangle (lower_half block.columns) (upper_half block.rows)
quarter_of block corner.NW = rectangle (upper_half block.columns) (upper_half block.rows)
quarter_of block corner.SW = rectangle (upper_half block.columns) (lower_half block.rows)
quarter_of block corner.SE = rectangle (lower_half block.columns) (lower_half block.rows)

-- both sides are more than one place
abbrev pub CanQuarter : Rectangle → Type 0
CanQuarter block = (1 < block.columns.len) × (1 < block.rows.len)
