use Rattle.std.proofs.Common.{◌-◌, ◌*◌, ◌≤◌}
use Rattle.twp_plat.specs.steps.Accounts.{over_by}
use Rattle.twp_plat.specs.steps.Bounds.{SECTION_UNITS_MOST}
use Rattle.twp_plat.proofs.AreaFacts.{IsSumOf}
use Rattle.twp_plat.proofs.land_area.area_by.Given as goal

-- the sum over the sections so far
abbrev pub invariant-loop-number : goal.invariant-loop-number
invariant-loop-number g l = record {
  sum : IsSumOf l.account l.plat (g.L.PlaceSet.places l.land) (l.number - 1) l.units;
  most : l.units ≤ (l.number - 1) * (SECTION_UNITS_MOST * over_by l.account l.plat);
  first : 1 ≤ l.number;
}
