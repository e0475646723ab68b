use Rattle.std.proofs.Common.{◌-◌, ◌*◌, ◌≤◌}
use Rattle.twp_grid.specs.Lands.{LOT_NUMBER_MOST}
use Rattle.twp_plat.specs.LotTables.{figure_of, lots_of}
use Rattle.twp_plat.specs.steps.SectionUnits.{LOT_UNITS_MOST}
use Rattle.twp_plat.proofs.ContainedLots.{AreUnitsTo}
use Rattle.twp_plat.proofs.lots.area.units_in_section.Given as goal

-- the units of the lots so far
abbrev pub invariant-loop-number : goal.invariant-loop-number
invariant-loop-number g l = record {
  sum : AreUnitsTo (lots_of l.lots) (figure_of l.lots) (g.L.PlaceSet.places l.land) l.section l.units l.after;
  most : l.units ≤ l.after * LOT_UNITS_MOST;
  few : l.after ≤ LOT_NUMBER_MOST;
}

abbrev pub decreases-loop-number : goal.decreases-loop-number
decreases-loop-number g l = LOT_NUMBER_MOST - l.after
