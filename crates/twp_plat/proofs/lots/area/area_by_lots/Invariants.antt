use Rattle.std.proofs.Common.{◌-◌, ◌*◌, ◌≤◌}
use Rattle.twp_plat.specs.LotTables.{figure_of, lots_of}
use Rattle.twp_plat.specs.steps.SectionUnits.{SECTION_MOST}
use Rattle.twp_plat.proofs.lots.SumFacts.{AreSummed}
use Rattle.twp_plat.proofs.lots.area.area_by_lots.Given as goal

-- the sum over the sections so far
abbrev pub invariant-loop-number : goal.invariant-loop-number
invariant-loop-number g l = record {
  sum : AreSummed (lots_of l.lots) (figure_of l.lots) (g.L.PlaceSet.places l.land) l.number l.units;
  most : l.units ≤ (l.number - 1) * SECTION_MOST;
  first : 1 ≤ l.number;
}
