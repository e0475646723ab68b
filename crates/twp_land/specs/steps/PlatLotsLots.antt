-- The lots of a plat lie in their sections, and have low numbers: the proof of a law of `Lotting`.
use Rattle.std.proofs.Common.{ℕ, zero, suc, List}
use Rattle.twp_grid.specs.Lands.{AreLots, lotting}
use Rattle.twp_land.specs.LotMaps.{layout_of_plat}
use Rattle.twp_land.specs.steps.LotMapLots.{map_are_lots}
use Rattle.twp_land.specs.steps.StandardLots.{standard_are_lots}

pub plat_are_lots : (mapped : ℕ) (positions divided : List ℕ)
    → AreLots (lotting (layout_of_plat mapped positions divided))
plat_are_lots zero positions divided = standard_are_lots
plat_are_lots (suc _) positions divided = map_are_lots positions divided
