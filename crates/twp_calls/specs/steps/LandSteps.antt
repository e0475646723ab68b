-- When the lots of land are valid. No public contract cites this module.
use Rattle.std.specs.Prelude.{◌≡◌, ◌≤◌}
use Rattle.twp_grid.specs.Lands.{HasWholeLots, STANDARD_LOTS}
use Rattle.twp_land.specs.Storage.{land_of_rows}
use Rattle.twp_calls.specs.declared.land.TownshipLand.{TownshipLand as GivenLand}

-- the lots are the standard ones, each of which the land contains wholly or not at all, or other ones
pub record AreLotsValid (given : GivenLand) : Type 0 where
  pub lots_are : given.own_lots ≤ 1
  pub whole : given.own_lots ≡ 0 → HasWholeLots STANDARD_LOTS (land_of_rows given.rows)
