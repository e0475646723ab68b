use Rattle.twp_land.specs.Storage.{held_by_section}
use Rattle.twp_land.proofs.LandFacts.{AreSameTo}
use Rattle.twp_land.proofs.sections.SectionsLand.same.Given as goal

abbrev pub invariant-loop-index : goal.invariant-loop-index
invariant-loop-index g l =
    AreSameTo l.index (held_by_section g.P.Plot.held l.self.plots)
    (held_by_section g.P.Plot.held l.other.plots)
