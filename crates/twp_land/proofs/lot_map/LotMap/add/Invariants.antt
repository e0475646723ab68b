use Rattle.std.proofs.Common.{◌≡◌, ◌-◌}
use Rattle.twp_land.specs.steps.Marked.{PLACES, marked}
use Rattle.twp_land.proofs.MarkedLoops.{AreAddedBelow}
use Rattle.twp_land.proofs.lot_map.LotMap.add.Given as goal

-- the marked places so far have been added
abbrev pub invariant-loop-found : goal.invariant-loop-found
invariant-loop-found g l = record {
  added : AreAddedBelow l.section (marked l.self.positions l.self.divided l.section l.least l.most) l.from
      (g.S.PlaceSet.places l.fn.set) (g.S.PlaceSet.places l.set);
  room : g.S.GrowingSet.has_room l.set ≡ g.S.GrowingSet.has_room l.fn.set;
}

abbrev pub decreases-loop-found : goal.decreases-loop-found
decreases-loop-found g l = PLACES - l.from
