use Rattle.std.proofs.Common.{arith}
use Rattle.twp_grid.specs.Winding.{SECTION_COUNT}
use Rattle.twp_land.proofs.LandFacts.{held_nowhere}
use Rattle.twp_land.proofs.LandRanges.{nothing_within}
use Rattle.twp_land.proofs.sections.SectionsLand.empty.Goals as goal

pub invariant_of-result : goal.invariant_of-result
invariant_of-result g c = record {
  few = omega arith;
  within = nothing_within _ _ _ (held_nowhere g.P.Plot.held c.empty.result SECTION_COUNT c.empty.ensures);
}

pub returns : goal.returns
returns g c = held_nowhere g.P.Plot.held c.empty.result SECTION_COUNT c.empty.ensures
