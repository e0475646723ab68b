use Rattle.std.proofs.Common.{◌≡◌, ◌≤◌}
use Rattle.twp_land.specs.Storage.{held_without}
use Rattle.twp_land.proofs.LeftFacts.{count, numbered_below}
use Rattle.twp_land.proofs.lotting.StandardLotsLotting.off_lots_count.Given as goal

-- the places that are in none of the lots so far are counted
abbrev pub invariant-loop-lot : goal.invariant-loop-lot
invariant-loop-lot g l = record {
  left : l.count
      ≡ count (held_without (g.S.PlaceSet.places l.set l.section) (numbered_below l.section l.lot));
  first : 1 ≤ l.lot;
}
