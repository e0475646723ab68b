use Rattle.std.proofs.Common.{◌≡◌, ◌-◌, ◌≤◌}
use Rattle.twp_grid.specs.Lands.{lotting}
use Rattle.twp_resolve.specs.steps.ResolvingSteps.{sections_from, AreAdded}
use Rattle.twp_resolve.proofs.ranges.add_sections.Given as goal

-- the sections so far are added
abbrev pub invariant-loop-number : goal.invariant-loop-number
invariant-loop-number g l = record {
  least : l.first ≤ l.number;
  added : AreAdded (sections_from (lotting (g.P.Lotting.layout l.lots)) l.first (l.number - 1))
      (g.L.PlaceSet.places l.initial.land)
      (g.L.PlaceSet.places l.land);
  room : g.L.GrowingSet.has_room l.land ≡ g.L.GrowingSet.has_room l.initial.land;
}
