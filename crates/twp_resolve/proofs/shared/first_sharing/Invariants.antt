use Rattle.std.proofs.Common.{drop}
use Rattle.twp_resolve.specs.steps.ResolvingSteps.{number_of_section}
use Rattle.twp_resolve.proofs.ResolvingFacts.{SectionKnown}
use Rattle.twp_resolve.proofs.SharedFacts.{AreApart}
use Rattle.twp_grid.specs.Lands.{lotting}
use Rattle.twp_resolve.proofs.shared.first_sharing.Given as goal

-- no item so far shares land with the later one, and the remaining parts have a section
abbrev pub invariant-loop-index : goal.invariant-loop-index
invariant-loop-index g l = record {
  apart : AreApart (lotting (g.P.Lotting.layout l.lots)) l.items l.index (number_of_section l.section)
      l.later;
  known : SectionKnown l.section (drop l.index l.items);
}
