use Rattle.std.proofs.Common.{drop}
use Rattle.twp_resolve.specs.steps.ResolvingSteps.{number_of_section}
use Rattle.twp_resolve.proofs.ResolvingFacts.{AreTaken, SectionKnown}
use Rattle.twp_grid.specs.Lands.{lotting}
use Rattle.twp_resolve.proofs.resolving.resolve_if_room.Given as goal

-- the items so far were added, and the remaining parts have a section
abbrev pub invariant-loop-item : goal.invariant-loop-item
invariant-loop-item g l = record {
  taken : AreTaken (lotting (g.P.Lotting.layout l.lots)) l.township l.items l.item-index
      (number_of_section l.section)
      (g.L.PlaceSet.places l.land);
  known : SectionKnown l.section (drop l.item-index l.items);
}
