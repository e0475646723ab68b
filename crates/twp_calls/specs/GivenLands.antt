-- Land as plain data: a township's designation, which plat its lots are those of, and a bit for each place.
-- It may be valid or not.
use Rattle.std.specs.Prelude.{◌≡◌, ◌≤◌, ℕ, Bool}
use Rattle.twp_grid.specs.Townships.{Designation}
use Rattle.twp_grid.specs.Lands.{HasWholeLots, STANDARD_LOTS}
use Rattle.twp_land.specs.Storage.{land_of_rows}
use Rattle.twp_calls.specs.GivenTownships.{IsGivenTownship}
use Rattle.twp_calls.specs.declared.land.TownshipLand.{TownshipLand as GivenLand}

-- The data is land in this township, with these places. If its lots are the standard ones, it contains
-- each of them wholly or not at all; where other lots lie, only their table says.
pub record IsGivenLand (given : GivenLand) (township : Designation) (places : ℕ → ℕ → ℕ → Bool)
    : Type 0 where
  pub township_is : IsGivenTownship given.township township
  pub places_are : places ≡ land_of_rows given.rows
  pub lots_are : given.own_lots ≤ 1
  pub whole : given.own_lots ≡ 0 → HasWholeLots STANDARD_LOTS places

-- the data is no land: it has no township, no lots, or part of a standard lot
abbrev pub IsNoGivenLand : GivenLand → Type 0
IsNoGivenLand given =
    (township : Designation) (places : ℕ → ℕ → ℕ → Bool) → ¬ IsGivenLand given township places
