use Rattle.twp_land.specs.Storage.{held_by_section}
use Rattle.twp_land.proofs.TakenLands.{ContainsTo}
use Rattle.twp_land.proofs.sections.SectionsLand.holds_land.Given as goal

abbrev pub invariant-loop-index : goal.invariant-loop-index
invariant-loop-index g l =
    ContainsTo l.index (held_by_section g.P.Plot.held l.self.plots)
    (held_by_section g.P.Plot.held l.other.plots)
