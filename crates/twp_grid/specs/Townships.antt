-- How a township is named: its number north or south of a base line, and the number of its range
-- east or west of a principal meridian. Also what the texts of several layers share: the letters of these
-- directions, and the byte that ends a line.
use Rattle.std.specs.Prelude.{ℕ, ◌≤◌, List, codes}
use Rattle.twp_grid.specs.declared.township.NorthSouth.{NorthSouth}
use Rattle.twp_grid.specs.declared.township.EastWest.{EastWest}
use Rattle.twp_grid.specs.declared.township.NorthSouth.TheVariants as ns
use Rattle.twp_grid.specs.declared.township.EastWest.TheVariants as ew

-- a township's designation
pub record Designation : Type 0 where
  pub number : ℕ
  pub north_south : NorthSouth
  pub range : ℕ
  pub east_west : EastWest

-- the designation with these four parts
abbrev pub designation : ℕ → NorthSouth → ℕ → EastWest → Designation
designation number north_south range east_west =
    record { number = number; north_south = north_south; range = range; east_west = east_west }

-- the greatest number of a township or a range (this project's limit)
abbrev pub TOWNSHIP_NUMBER_MOST : ℕ
TOWNSHIP_NUMBER_MOST = 99

-- the numbers of townships and of ranges
abbrev pub IsTownshipNumber : ℕ → Type 0
IsTownshipNumber number = (1 ≤ number) × (number ≤ TOWNSHIP_NUMBER_MOST)

-- the letter of a township's direction from its base line
abbrev pub north_south_letter : NorthSouth → List ℕ
north_south_letter ns.N = codes "N"
north_south_letter ns.S = codes "S"

-- the letter of a range's direction from its meridian
abbrev pub east_west_letter : EastWest → List ℕ
east_west_letter ew.E = codes "E"
east_west_letter ew.W = codes "W"

-- the byte that ends a line
abbrev pub line_feed : ℕ
line_feed = 10
