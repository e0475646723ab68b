use Rattle.std.proofs.Common.{ℕ, ◌≤◌, ◌<◌}
use Rattle.twp_grid.specs.Lands.{HasLot, lotting}
use Rattle.twp_land.specs.LotMaps.{layout_of_bytes}
use Rattle.twp_land.proofs.lot_map.LotMapLotting.has_lots.Given as goal

-- the section has the lots so far
abbrev pub invariant-loop-number : goal.invariant-loop-number
invariant-loop-number l = record {
  have : (lot : ℕ) → l.first ≤ lot → lot < l.number
      → HasLot (lotting (layout_of_bytes l.self.positions l.self.divided)) l.section lot;
}
