-- Designations of townships as plain data, which may be valid or not.
use Rattle.std.specs.Prelude.{◌≡◌, ◌==◌, ℕ, Option, Some, None, if◌then◌else◌}
use Rattle.twp_grid.specs.Townships.{Designation, IsTownshipNumber}
use Rattle.twp_grid.specs.declared.township.NorthSouth.{NorthSouth}
use Rattle.twp_grid.specs.declared.township.NorthSouth.TheVariants.{N, S}
use Rattle.twp_grid.specs.declared.township.EastWest.{EastWest}
use Rattle.twp_grid.specs.declared.township.EastWest.TheVariants.{E, W}
use Rattle.twp_calls.specs.declared.designation.TownshipDesignation.{TownshipDesignation}

-- the side that a number stands for
abbrev pub north_south_of : ℕ → Option NorthSouth
north_south_of code = if code == 0 then Some N else if code == 1 then Some S else None

abbrev pub east_west_of : ℕ → Option EastWest
east_west_of code = if code == 0 then Some E else if code == 1 then Some W else None

-- the number of a side
abbrev pub code_of_north_south : NorthSouth → ℕ
code_of_north_south N = 0
code_of_north_south S = 1

abbrev pub code_of_east_west : EastWest → ℕ
code_of_east_west E = 0
code_of_east_west W = 1

-- the parts of a designation
abbrev pub given_designation : Designation → TownshipDesignation
given_designation township = record {
  number = township.number;
  north_south = code_of_north_south township.north_south;
  range = township.range;
  east_west = code_of_east_west township.east_west;
}

-- the township whose parts are given
pub record IsGivenTownship (given : TownshipDesignation) (township : Designation) : Type 0 where
  pub parts : (township.number ≡ given.number) × (township.range ≡ given.range)
  pub north_south : north_south_of given.north_south ≡ Some township.north_south
  pub east_west : east_west_of given.east_west ≡ Some township.east_west
  pub numbers : IsTownshipNumber given.number × IsTownshipNumber given.range

-- no township's parts are given
abbrev pub IsNoGivenTownship : TownshipDesignation → Type 0
IsNoGivenTownship given = (township : Designation) → ¬ IsGivenTownship given township
