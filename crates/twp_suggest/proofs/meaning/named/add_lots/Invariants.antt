use Rattle.std.proofs.Common.{◌-◌, ◌≤◌}
use Rattle.twp_grid.specs.Lands.{lotting}
use Rattle.twp_resolve.specs.steps.ResolvingSteps.{lots_from, AreAdded}
use Rattle.twp_suggest.proofs.meaning.named.add_lots.Given as goal

-- the lots so far are added
abbrev pub invariant-loop-lot : goal.invariant-loop-lot
invariant-loop-lot g l = record {
  least : l.first ≤ l.lot;
  added : AreAdded (lots_from (lotting (g.P.Lotting.layout l.lots)) l.section l.first (l.lot - 1))
      (g.L.PlaceSet.places l.initial.land) (g.L.PlaceSet.places l.land);
}
