-- On which side of a section a line lies.
use Rattle.std.specs.Prelude.{◌≡◌, ⊤, ℕ, slice_get, List, Some}
use Rattle.twp_grid.specs.Lines.{AreSides}
use Rattle.twp_grid.specs.declared.block.Side.{Side}
use Rattle.twp_grid.specs.declared.block.Side.TheVariants as side

-- of a section's east, west, north, and south lines, the line is the one at this index
pub record IsSideAt (section line index : ℕ) : Type 0 where
  pub sides : List ℕ
  pub are : AreSides section sides
  pub is : slice_get sides index ≡ Some line

-- the line lies on this side of the section, or is none of its other sides
abbrev pub LiesOnSide : ℕ → ℕ → Side → Type 0
LiesOnSide section line side.E = IsSideAt section line 0
LiesOnSide section line side.W = IsSideAt section line 1
LiesOnSide section line side.N = IsSideAt section line 2
LiesOnSide section line side.S = ⊤
