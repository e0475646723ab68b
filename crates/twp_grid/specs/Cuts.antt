-- What cuts of a section reach. Each cut takes a half or a quarter of what was reached before it;
-- it asks for the next binary digit of the rows, of the columns, or of both.
use Rattle.std.specs.Prelude.{ℕ, ◌*◌, ◌≤◌, List, [], ◌∷◌, ◌++◌, length}
use Rattle.twp_grid.specs.Places.{PLACE_DIGITS}
use Rattle.twp_grid.specs.Spans.{Rectangle, whole_block}
use Rattle.twp_grid.specs.Blocks.{half_of, quarter_of}
use Rattle.twp_grid.specs.declared.block.Side.{Side}
use Rattle.twp_grid.specs.declared.block.Side.TheVariants as side
use Rattle.twp_grid.specs.declared.block.Corner.{Corner}
use Rattle.twp_grid.specs.declared.block.Corner.TheVariants as corner

-- a half toward a side, or a quarter at a corner
pub data Cut : Type 0 where
  half : Side → Cut
  quarter : Corner → Cut

-- the digit that a cut asks for in the row, if it does: 1 in the north, 0 in the south
abbrev pub row_asked : Cut → List ℕ
row_asked (half side.N) = 1 ∷ []
row_asked (half side.S) = 0 ∷ []
row_asked (half side.E) = []
row_asked (half side.W) = []
row_asked (quarter corner.NE) = 1 ∷ []
row_asked (quarter corner.NW) = 1 ∷ []
row_asked (quarter corner.SW) = 0 ∷ []
row_asked (quarter corner.SE) = 0 ∷ []

-- the digit that a cut asks for in the column, if it does: 1 in the west, 0 in the east
abbrev pub column_asked : Cut → List ℕ
column_asked (half side.N) = []
column_asked (half side.S) = []
column_asked (half side.E) = 0 ∷ []
column_asked (half side.W) = 1 ∷ []
column_asked (quarter corner.NE) = 0 ∷ []
column_asked (quarter corner.NW) = 1 ∷ []
column_asked (quarter corner.SW) = 1 ∷ []
column_asked (quarter corner.SE) = 0 ∷ []

-- the digits asked for in a row, the highest first, by cuts as a description writes them: the last cut first
abbrev pub rows_asked : List Cut → List ℕ
rows_asked [] = []
rows_asked (cut ∷ before) = rows_asked before ++ row_asked cut

-- the digits that they ask for in a column
abbrev pub columns_asked : List Cut → List ℕ
columns_asked [] = []
columns_asked (cut ∷ before) = columns_asked before ++ column_asked cut

-- the cuts ask for no more digits than a place has
pub record AreWithin (g : ℕ) (cuts : List Cut) : Type 0 where
  pub rows : length (rows_asked cuts) ≤ g
  pub columns : length (columns_asked cuts) ≤ g

-- the cuts of the smallest part, if all are halves: each asks for one digit of the row or of the
-- column
abbrev pub FINEST_CUTS : ℕ
FINEST_CUTS = 2 * PLACE_DIGITS

-- the part that a cut takes of a rectangle
abbrev pub part_of : Rectangle → Cut → Rectangle
part_of block (half side) = half_of block side
part_of block (quarter corner) = quarter_of block corner

-- the rectangle that cuts reach from a whole section
abbrev pub reached : ℕ → List Cut → Rectangle
reached g [] = whole_block g
reached g (cut ∷ before) = part_of (reached g before) cut
