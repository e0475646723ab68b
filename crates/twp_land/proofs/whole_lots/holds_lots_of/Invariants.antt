use Rattle.std.proofs.Common.{◌-◌, ◌≤◌}
use Rattle.twp_grid.specs.Lands.{LOT_NUMBER_MOST, lotting}
use Rattle.twp_land.proofs.WholeLots.{AreWholeTo}
use Rattle.twp_land.proofs.whole_lots.holds_lots_of.Given as goal

-- each lot so far is contained wholly or not at all
abbrev pub invariant-loop-number : goal.invariant-loop-number
invariant-loop-number g l = record {
  so_far : AreWholeTo (lotting (g.P.Lotting.layout l.lots)) l.section (g.L.PlaceSet.places l.land l.section)
      l.after;
  few : l.after ≤ LOT_NUMBER_MOST;
}

abbrev pub decreases-loop-number : goal.decreases-loop-number
decreases-loop-number g l = LOT_NUMBER_MOST - l.after
