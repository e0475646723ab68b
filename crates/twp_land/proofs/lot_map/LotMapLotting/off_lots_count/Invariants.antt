use Rattle.std.proofs.Common.{◌≡◌, ◌-◌}
use Rattle.twp_land.specs.Storage.{held_without}
use Rattle.twp_land.specs.steps.Marked.{PLACES, below}
use Rattle.twp_land.proofs.LeftFacts.{count}
use Rattle.twp_land.proofs.LeftMarks.{off_land}
use Rattle.twp_land.proofs.lot_map.LotMapLotting.off_lots_count.Given as goal

-- the places that are in none of the blocks so far are counted
abbrev pub invariant-loop-found : goal.invariant-loop-found
invariant-loop-found g l = record {
  left : l.count
      ≡ count (held_without (g.S.PlaceSet.places l.set l.section)
      (below (off_land l.self.positions l.self.divided l.section) l.from));
}

abbrev pub decreases-loop-found : goal.decreases-loop-found
decreases-loop-found g l = PLACES - l.from
