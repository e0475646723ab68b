use Rattle.std.proofs.Common.{◌≡◌, ◌≤◌, ◌-◌}
use Rattle.twp_grid.specs.Lands.{LOT_NUMBER_MOST, lotting}
use Rattle.twp_resolve.specs.steps.ResolvingSteps.{lots_from}
use Rattle.twp_diagnose.proofs.section_lots.fill_with_lots.Given as goal

-- the set is filled with the lots so far
abbrev pub invariant-loop-number : goal.invariant-loop-number
invariant-loop-number g l = record {
  most : l.last ≤ LOT_NUMBER_MOST;
  filled : g.L.PlaceSet.places l.land ≡ lots_from (lotting (g.P.Lotting.layout l.lots)) l.section 1 l.last;
}

abbrev pub decreases-loop-number : goal.decreases-loop-number
decreases-loop-number g l = LOT_NUMBER_MOST - l.last
