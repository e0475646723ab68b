use Rattle.std.proofs.Common.{◌≡◌, ◌-◌, ◌≤◌}
use Rattle.twp_grid.specs.Lands.{lotting}
use Rattle.twp_resolve.specs.steps.ResolvingSteps.{lots_from, AreAdded}
use Rattle.twp_resolve.proofs.ranges.add_lots.Given as goal

-- the lots so far are added
abbrev pub invariant-loop-number : goal.invariant-loop-number
invariant-loop-number g l = record {
  least : l.first ≤ l.number;
  added : AreAdded (lots_from (lotting (g.P.Lotting.layout l.lots)) l.section l.first (l.number - 1))
      (g.L.PlaceSet.places l.initial.land) (g.L.PlaceSet.places l.land);
  room : g.L.GrowingSet.has_room l.land ≡ g.L.GrowingSet.has_room l.initial.land;
}
