use Rattle.std.proofs.Common.{◌-◌, ◌≤◌}
use Rattle.twp_calls.specs.LandParts.{ArePartsTo}
use Rattle.twp_calls.proofs.land_parts.parts_of.Given as goal

-- the parts of the sections so far
abbrev pub invariant-loop-number : goal.invariant-loop-number
invariant-loop-number g l = record {
  first : 1 ≤ l.number;
  parts : ArePartsTo (l.number - 1) (g.L.PlaceSet.places l.land) l.parts.items;
}
